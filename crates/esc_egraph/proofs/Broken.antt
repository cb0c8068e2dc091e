-- A graph that is not broken stays so where a node is made, and where a pair is forbidden that
-- stands in two classes.
use Rattle.std.proofs.Common.{◌≡◌, ℕ, ◌<◌, ◌≤◌, List, [], ◌∷◌, ◌++◌, ◌⊎◌, ◌↔◌, inl, inr, length, All, refl, ap, sym, subst, ◌∙◌, arith}
use Rattle.std.specs.List.{Any}
use Rattle.std.proofs.lemmas.Bool.{cases_lt}
use Rattle.std.proofs.lemmas.List.{get_or_append_left, get_or_at, length_push}
use Rattle.std.proofs.lemmas.List.Elements.{All-get_or}
use Rattle.esc_union.specs.Merges.{SameClass, class_number}
use Rattle.esc_nodes.specs.Nodes.{Shape, shape, shape_at}
use Rattle.esc_egraph.specs.Graph.{Graph, IsGraph, number_of}
use Rattle.esc_egraph.specs.Congruence.{AreUnequalNumerals, ForcedApart, IsBroken, IsMet}
use Rattle.esc_egraph.specs.PassesInside.{IsUnited}
use Rattle.esc_union.proofs.Numbers.{class_number-more, pair_joined, same_more}
use Rattle.esc_egraph.proofs.Joining.{moved_meet}
use Rattle.esc_nodes.specs.declared.top.Top.{Top}
use Rattle.esc_nodes.specs.declared.top.Top.TheVariants.{Num, App}
use Rattle.esc_egraph.proofs.Made.{IsPlaced, IsExtended, made_is_least}

-- ---- a node is made

equal_tops : (t : Top) → AreUnequalNumerals t t → ⊥
equal_tops (Num n) ne = ne refl
equal_tops (App f) ne = ne

-- a numeral has no arguments
no_args : (t u : Top) (args : List ℕ) → AreUnequalNumerals t u → (shape t args).args ≡ []
no_args (Num n) u args ne = refl
no_args (App f) u args ne = absurd ne

turned : (t u : Top) → AreUnequalNumerals t u → AreUnequalNumerals u t
turned (Num m) (Num n) ne = λ e. ne (sym e)
turned (Num m) (App f) ne = absurd ne
turned (App f) u ne = absurd ne

no_length : (xs : List ℕ) → length xs ≡ 0 → xs ≡ []
no_length [] e = refl
no_length (x ∷ xs) e = absurd (omega (arith, e))

module _ (g : Graph) (is : IsGraph g) (met : IsMet g) (s : Shape) (merges : List (ℕ × ℕ))
    (args_in : All (λ a. a < length g.nodes) s.args) (bare : shape s.top s.args ≡ s)
    (absent : (k : ℕ) → k < length g.nodes → shape_at g.nodes k ≡ s → ⊥)
    (ext : IsExtended g.nodes (number_of g) (class_number merges) s) where
  -- the graph with the node
  abbrev made : Graph
  made = record g { nodes = g.nodes ++ (s ∷ []); merges = merges }

  old_shape : (k : ℕ) → k < length g.nodes → shape_at (g.nodes ++ (s ∷ [])) k ≡ shape_at g.nodes k
  old_shape k l = get_or_append_left g.nodes (s ∷ []) _ k l

  -- a numeral that is made stands alone
  alone : (u : Top) → AreUnequalNumerals s.top u → (y : ℕ) → y < length g.nodes
      → SameClass (class_number merges) (length g.nodes) y →
      IsPlaced g.nodes (number_of g) (class_number merges) s → ⊥
  alone u ne y yl same (inl (k, kl, alike, e)) =
      let none : s.args ≡ [] = sym (ap (λ (t : Shape). t.args) bare) ∙ no_args s.top u s.args ne in
      let none_too : (shape_at g.nodes k).args ≡ [] = no_length _ (alike.args.lengths
      ∙ ap length none) in
      absent k kl (ap (λ t. record { top = t; args = (shape_at g.nodes k).args }) alike.top
      ∙ ap (λ rest. record { top = s.top; args = rest }) (none_too ∙ sym none))
  alone u ne y yl same (inr (other, apart)) = apart y yl same

  clash_at : (x y : ℕ) → x < length (g.nodes ++ (s ∷ [])) → y < length (g.nodes ++ (s ∷ [])) →
      SameClass (class_number merges) x y →
      AreUnequalNumerals (shape_at (g.nodes ++ (s ∷ [])) x).top
      (shape_at (g.nodes ++ (s ∷ [])) y).top →
      (x < length g.nodes) ⊎ (length g.nodes ≤ x) → (y < length g.nodes) ⊎ (length g.nodes ≤ y) → ⊥
  clash_at x y xl yl same ne (inl p) (inl q) =
      met.whole (inr (x, p, (y, q, ext.kept x y p q same, rw (old_shape x p, old_shape y q) at ne)))
  clash_at x y xl yl same ne (inr p) (inl q) =
      let last : x ≡ length g.nodes = omega (arith, xl, p, length_push g.nodes s) in
      alone (shape_at g.nodes y).top (rw (get_or_at g.nodes s [] _ x (sym last), old_shape y q)
      at ne) y q
      (ap (class_number merges) (sym last) ∙ same) ext.placed
  clash_at x y xl yl same ne (inl p) (inr q) =
      let last : y ≡ length g.nodes = omega (arith, yl, q, length_push g.nodes s) in
      alone (shape_at g.nodes x).top (turned (shape_at g.nodes x).top s.top
      (rw (old_shape x p, get_or_at g.nodes s [] _ y (sym last)) at ne)) x p
      (ap (class_number merges) (sym last) ∙ sym same) ext.placed
  clash_at x y xl yl same ne (inr p) (inr q) =
      let one : x ≡ y = omega (arith, xl, yl, p, q, length_push g.nodes s) in
      equal_tops (shape_at (g.nodes ++ (s ∷ [])) y).top
      (subst (λ k. AreUnequalNumerals (shape_at (g.nodes ++ (s ∷ [])) k).top
      (shape_at (g.nodes ++ (s ∷ [])) y).top) one ne)

  whole : IsBroken made → ⊥
  whole (inl (k, p, l, at, same)) =
      let there : (p.0 < length g.nodes) × (p.1 < length g.nodes) =
      subst (λ (q : ℕ × ℕ). (q.0 < length g.nodes) × (q.1 < length g.nodes)) at
      (All-get_or (λ (q : ℕ × ℕ). (q.0 < length g.nodes) × (q.1 < length g.nodes)) g.forbidden k p l
      is.paired) in
      met.whole (inl (k, p, l, at, ext.kept p.0 p.1 there.0 there.1 same))
  whole (inr (x, xl, (y, yl, same, ne))) = clash_at x y xl yl same ne (cases_lt x (length g.nodes))
      (cases_lt y (length g.nodes))

  pub IsMet-made : IsMet made
  IsMet-made = record {
    closed = (made_is_least g.nodes is.terms (number_of g) (class_number merges) met.closed s
        args_in ext).closed;
    whole = whole;
  }

-- ---- a pair is forbidden

pushed_any : (P : ℕ × ℕ → Type 0) (xs : List (ℕ × ℕ)) (y : ℕ × ℕ) → Any P (xs ++ (y ∷ []))
    → Any P xs ⊎ P y
pushed_any P xs y (k, x, l, at, holds) =
    elim (cases_lt k (length xs)) [
      | inl h ↦ inl (k, x, h, sym (get_or_append_left xs (y ∷ []) x k h) ∙ at, holds)
      | inr h ↦
          let last : k ≡ length xs = omega (arith, l, h, length_push xs y) in
          inr (subst P (sym at ∙ get_or_at xs y [] x k (sym last)) holds)
    ]

pub IsMet-forbidden : (g : Graph) (a b : ℕ) → IsMet g → (SameClass (number_of g) a b → ⊥) →
    IsMet (record g { forbidden = g.forbidden ++ ((a, b) ∷ []) })
IsMet-forbidden g a b met two = record {
  closed = met.closed;
  whole = λ broken. elim broken [
    | inl pair ↦ elim (pushed_any (λ (p : ℕ × ℕ). SameClass (number_of g) p.0 p.1) g.forbidden
        (a, b) pair) [
          | inl older ↦ met.whole (inl older)
          | inr newest ↦ two newest
        ]
    | inr numerals ↦ met.whole (inr numerals)
  ];
}

-- ---- no nodes

pub IsMet-empty : IsMet (record { nodes = []; merges = []; forbidden = [] })
IsMet-empty = record {
  closed = λ a b al bl alike. absurd (omega (arith, al));
  whole = λ broken. elim broken [
    | inl pair ↦ omega (arith, pair.2)
    | inr numerals ↦ omega (arith, numerals.1)
  ];
}

-- ---- two classes are merged

module _ (g : Graph) (a b : ℕ) where
  abbrev ms : List (ℕ × ℕ)
  ms = g.merges ++ ((a, b) ∷ [])

  abbrev Near : ℕ → Type 0
  Near k = SameClass (number_of g) k a ⊎ SameClass (number_of g) k b

  -- nodes that stand in one class then stood in one before, or in the two
  meeting : (x y : ℕ) → SameClass (class_number (g.merges ++ ((a, b) ∷ []))) x y →
      SameClass (number_of g) x y
      ⊎ ((SameClass (number_of g) x a × SameClass (number_of g) y b)
      ⊎ (SameClass (number_of g) x b × SameClass (number_of g) y a))
  meeting x y e =
      elim (moved_meet (number_of g a) (number_of g b) (number_of g x) (number_of g y)
      (sym (class_number-more g.merges (a, b) x) ∙ (e ∙ class_number-more g.merges (a, b) y))) [
        | inl one ↦ inl one
        | inr two ↦ elim two.0 [
          | inl xa ↦ elim two.1 [ inl ya ↦ inl (xa ∙ sym ya) | inr yb ↦ inr (inl (xa, yb)) ]
          | inr xb ↦ elim two.1 [ inl ya ↦ inr (inr (xb, ya)) | inr yb ↦ inl (xb ∙ sym yb) ]
        ]
      ]

  -- nodes of the two classes stand in one then
  met_then : (x y : ℕ) → SameClass (number_of g) x a → SameClass (number_of g) y b
      → SameClass (class_number (g.merges ++ ((a, b) ∷ []))) x y
  met_then x y xa yb = same_more g.merges (a, b) x a xa
      ∙ (pair_joined g.merges (a, b) ∙ sym (same_more g.merges (a, b) y b yb))

  pub IsBroken-merged : IsBroken (record g { merges = g.merges ++ ((a, b) ∷ []) }) → IsBroken g
      ⊎ ForcedApart g a b
  IsBroken-merged (inl (k, p, l, at, same)) =
      elim (meeting p.0 p.1 same) [
        | inl one ↦ inl (inl (k, p, l, at, one))
        | inr joins ↦ inr (inl (k, p, l, at, joins))
      ]
  IsBroken-merged (inr (x, xl, (y, yl, same, ne))) =
      elim (meeting x y same) [
        | inl one ↦ inl (inr (x, xl, (y, yl, one, ne)))
        | inr joins ↦ inr (inr (elim joins [
          | inl p ↦ (x, xl, sym p.0, (y, yl, sym p.1, ne))
          | inr p ↦ (
            y,
            yl,
            sym p.1,
            (
              x,
              xl,
              sym p.0,
              turned (shape_at g.nodes x).top
                  (shape_at g.nodes y).top ne,
            ),
          )
        ]))
      ]

  pub IsBroken-more : IsBroken g ⊎ ForcedApart g a b
      → IsBroken (record g { merges = g.merges ++ ((a, b) ∷ []) })
  IsBroken-more (inl (inl (k, p, l, at, same))) = inl
      (k, p, l, at, same_more g.merges (a, b) p.0 p.1 same)
  IsBroken-more (inl (inr (x, xl, (y, yl, same, ne)))) = inr
      (x, xl, (y, yl, same_more g.merges (a, b) x y same, ne))
  IsBroken-more (inr (inl (k, p, l, at, joins))) =
      inl (
        k,
        p,
        l,
        at,
        elim joins [
          | inl q ↦ met_then p.0 p.1 q.0 q.1
          | inr q ↦ sym (met_then p.1 p.0 q.1 q.0)
        ],
      )
  IsBroken-more (inr (inr (x, xl, ax, (y, yl, byy, ne)))) = inr
      (x, xl, (y, yl, met_then x y (sym ax) (sym byy), ne))

-- either way round
pub ForcedApart-back : (g : Graph) (a b : ℕ) → ForcedApart g a b → ForcedApart g b a
ForcedApart-back g a b (inl (k, p, l, at, joins)) = inl
    (k, p, l, at, elim joins [ inl q ↦ inr q | inr q ↦ inl q ])
ForcedApart-back g a b (inr (x, xl, ax, (y, yl, byy, ne))) =
    inr (y, yl, byy, (x, xl, ax, turned (shape_at g.nodes x).top (shape_at g.nodes y).top ne))

pub IsBroken-united : (old new : Graph) (a b : ℕ) → IsUnited old new a b → IsBroken new
    ↔ (IsBroken old ⊎ ForcedApart old a b)
IsBroken-united old new a b (inl e) =
    rw e (λ broken. IsBroken-merged old a b broken, λ either. IsBroken-more old a b either)
IsBroken-united old new a b (inr e) =
    rw e (
      λ broken. elim (IsBroken-merged old b a broken)
          [ inl was ↦ inl was | inr forced ↦ inr (ForcedApart-back old b a forced) ],
      λ either. IsBroken-more old b a (elim either
          [ inl was ↦ inl was | inr forced ↦ inr (ForcedApart-back old a b forced) ]),
    )
