-- A node more, in the class of the nodes that are alike to it.
use Rattle.std.proofs.Common.{◌≡◌, ℕ, ◌+◌, ◌<◌, ◌≤◌, List, [], ◌∷◌, ◌++◌, ◌⊎◌, inl, inr, length, All, ap, sym, subst, ◌∙◌, arith}
use Rattle.std.proofs.lemmas.Bool.{cases_lt}
use Rattle.std.proofs.lemmas.List.{get_or_append_left, get_or_at, length_push}
use Rattle.std.proofs.lemmas.List.Elements.{All-weaker}
use Rattle.esc_nodes.specs.Nodes.{Shape, shape_at, AreTerms}
use Rattle.esc_union.specs.Merges.{SameClass, AreMerges, class_number}
use Rattle.esc_union.proofs.Numbers.{class_number-beyond, class_number-more, moved_other, new_nodes_stand_alone, pair_joined}
use Rattle.esc_egraph.specs.Congruence.{AreAlike, IsCongruence, Meets, IsLeast, SameAmong}
use Rattle.esc_egraph.proofs.Joining.{alike_within, alike_back, alike_on}

-- the new node stands with a node that is alike to it, or alone where none is
abbrev pub IsPlaced : List Shape → (ℕ → ℕ) → (ℕ → ℕ) → Shape → Type 0
IsPlaced nodes old new s =
    ((k : ℕ) × (k < length nodes) × AreAlike old (shape_at nodes k) s
    × SameClass new (length nodes) k)
    ⊎ (((k : ℕ) → k < length nodes → AreAlike old (shape_at nodes k) s → ⊥)
    × ((k : ℕ) → k < length nodes → SameClass new (length nodes) k → ⊥))

-- the old nodes keep their classes, and the new one is placed
pub record IsExtended (nodes : List Shape) (old new : ℕ → ℕ) (s : Shape) : Type 0 where
  pub stay : (a b : ℕ) → a < length nodes → b < length nodes → SameClass old a b → SameClass new a b
  pub kept : (a b : ℕ) → a < length nodes → b < length nodes → SameClass new a b → SameClass old a b
  pub placed : IsPlaced nodes old new s

pub extended_alone : (nodes : List Shape) (ms : List (ℕ × ℕ)) (s : Shape)
    → AreMerges (length nodes) ms →
    ((k : ℕ) → k < length nodes → AreAlike (class_number ms) (shape_at nodes k) s → ⊥) →
    IsExtended nodes (class_number ms) (class_number ms) s
extended_alone nodes ms s are none = record {
  stay = λ a b al bl e. e;
  kept = λ a b al bl e. e;
  placed = inr (none, λ k l e. new_nodes_stand_alone ms (length nodes) are.there k l (sym e));
}

pub extended_joined : (nodes : List Shape) (ms : List (ℕ × ℕ)) (s : Shape) (k : ℕ)
    → AreMerges (length nodes) ms → k < length nodes →
    AreAlike (class_number ms) (shape_at nodes k) s →
    IsExtended nodes (class_number ms) (class_number (ms ++ ((length nodes, k) ∷ []))) s
extended_joined nodes ms s k are kl alike =
    let beyond = class_number-beyond (length nodes) ms are.there in
    let own : class_number ms (length nodes) ≡ length nodes = beyond.1 (length nodes) (omega arith)
    in
    let as_before : (a : ℕ) → a < length nodes → class_number (ms ++ ((length nodes, k) ∷ [])) a
    ≡ class_number ms a =
    λ a l. class_number-more ms (length nodes, k) a
    ∙ moved_other (class_number ms (length nodes)) (class_number ms k) (class_number ms a)
    (λ e. omega (arith, e, own, beyond.0 a l)) in
    record {
      stay = λ a b al bl e. as_before a al ∙ (e ∙ sym (as_before b bl));
      kept = λ a b al bl e. sym (as_before a al) ∙ (e ∙ as_before b bl);
      placed = inl (k, kl, alike, pair_joined ms (length nodes, k));
    }

module _ (nodes : List Shape) (are : AreTerms nodes) (old new : ℕ
    → ℕ) (closed : IsCongruence nodes old)
    (s : Shape)
    (args_in : All (λ a. a < length nodes) s.args) (ext : IsExtended nodes old new s) where
  old_term : (k : ℕ) → k < length nodes → shape_at (nodes ++ (s ∷ [])) k ≡ shape_at nodes k
  old_term k l = get_or_append_left nodes (s ∷ []) _ k l

  new_term : (k : ℕ) → k ≡ length nodes → shape_at (nodes ++ (s ∷ [])) k ≡ s
  new_term k e = get_or_at nodes s [] _ k (sym e)

  args_of : (k : ℕ) → k < length nodes → All (λ a. a < length nodes) (shape_at nodes k).args
  args_of k l = All-weaker (λ a. a < k) (λ a. a < length nodes) (λ a h. omega (arith, h, l)) _
      (are.older k l)

  to_old : (t u : Shape) → All (λ a. a < length nodes) t.args → All (λ a. a < length nodes) u.args
      → AreAlike new t u → AreAlike old t u
  to_old t u t_in u_in = alike_within (length nodes) new old t u ext.kept t_in u_in

  -- an old node that is alike to the new one stands in its class
  joins_new : (b : ℕ) → b < length nodes → AreAlike old (shape_at nodes b) s
      → IsPlaced nodes old new s → SameClass new b (length nodes)
  joins_new b bl alike (inl (k, kl, found, e)) =
      ext.stay b k bl kl (closed b k bl kl (alike_on old _ s _ alike (alike_back old _ s found)))
      ∙ sym e
  joins_new b bl alike (inr (none, apart)) = absurd (none b bl alike)

  closed_with : (a b : ℕ) → a < length nodes → b ≡ length nodes →
      AreAlike new (shape_at (nodes ++ (s ∷ [])) a) (shape_at (nodes ++ (s ∷ [])) b)
      → SameClass new a b
  closed_with a b al last alike =
      joins_new a al (to_old _ _ (args_of a al) args_in
      (subst (λ t. AreAlike new (shape_at nodes a) t) (new_term b last)
      (subst (λ t. AreAlike new t (shape_at (nodes ++ (s ∷ [])) b)) (old_term a al) alike)))
      ext.placed
      ∙ ap new (sym last)

  closed_at : (a b : ℕ) → (a < length nodes) ⊎ (length nodes ≤ a) → (b < length nodes)
      ⊎ (length nodes ≤ b) →
      a < length (nodes ++ (s ∷ [])) → b < length (nodes ++ (s ∷ [])) →
      AreAlike new (shape_at (nodes ++ (s ∷ [])) a) (shape_at (nodes ++ (s ∷ [])) b)
      → SameClass new a b
  closed_at a b (inl p) (inl q) al bl alike =
      ext.stay a b p q (closed a b p q (to_old _ _ (args_of a p) (args_of b q)
      (subst (λ t. AreAlike new (shape_at nodes a) t) (old_term b q)
      (subst (λ t. AreAlike new t (shape_at (nodes ++ (s ∷ [])) b)) (old_term a p) alike))))
  closed_at a b (inl p) (inr q) al bl alike = closed_with a b p
      (omega (arith, bl, q, length_push nodes s)) alike
  closed_at a b (inr p) (inl q) al bl alike = sym (closed_with b a q
      (omega (arith, al, p, length_push nodes s)) (alike_back _ _ _ alike))
  closed_at a b (inr p) (inr q) al bl alike =
      let one : a ≡ b = omega (arith, al, bl, p, q, length_push nodes s) in ap new one

  -- the new node stands in coarser classes with each old node of its class
  stays_with : (rest : ℕ → ℕ) → IsCongruence (nodes ++ (s ∷ [])) rest
      → Meets (nodes ++ (s ∷ [])) (SameAmong (length nodes) old) rest →
      (a b : ℕ) → a ≡ length nodes → b < length nodes → SameClass new (length nodes) b
      → IsPlaced nodes old new s → SameClass rest a b
  stays_with rest closed' meets a b last bl same (inl (k, kl, found, e)) =
      let more : length (nodes ++ (s ∷ [])) ≡ length nodes + 1 = length_push nodes s in
      let al : a < length (nodes ++ (s ∷ [])) = omega (arith, more, last) in
      let kl' : k < length (nodes ++ (s ∷ [])) = omega (arith, more, kl) in
      let bl' : b < length (nodes ++ (s ∷ [])) = omega (arith, more, bl) in
      let alike : AreAlike rest (shape_at nodes k) s =
      alike_within (length nodes) old rest _ s
      (λ x y xl yl one. meets x y (omega (arith, more, xl)) (omega (arith, more, yl)) (xl, yl, one))
      (args_of k kl) args_in found in
      sym (closed' k a kl' al
      (subst (λ t. AreAlike rest (shape_at (nodes ++ (s ∷ [])) k) t) (sym (new_term a last))
      (subst (λ t. AreAlike rest t s) (sym (old_term k kl)) alike)))
      ∙ meets k b kl' bl' (kl, bl, ext.kept k b kl bl (sym e ∙ same))
  stays_with rest closed' meets a b last bl same (inr (none, apart)) = absurd (apart b bl same)

  finest_at : (rest : ℕ → ℕ) → IsCongruence (nodes ++ (s ∷ [])) rest
      → Meets (nodes ++ (s ∷ [])) (SameAmong (length nodes) old) rest →
      (a b : ℕ) → (a < length nodes) ⊎ (length nodes ≤ a) → (b < length nodes)
      ⊎ (length nodes ≤ b) →
      a < length (nodes ++ (s ∷ [])) → b < length (nodes ++ (s ∷ [])) → SameClass new a b
      → SameClass rest a b
  finest_at rest closed' meets a b (inl p) (inl q) al bl same = meets a b al bl
      (p, q, ext.kept a b p q same)
  finest_at rest closed' meets a b (inr p) (inl q) al bl same =
      let last : a ≡ length nodes = omega (arith, al, p, length_push nodes s) in
      stays_with rest closed' meets a b last q (ap new (sym last) ∙ same) ext.placed
  finest_at rest closed' meets a b (inl p) (inr q) al bl same =
      let last : b ≡ length nodes = omega (arith, bl, q, length_push nodes s) in
      sym (stays_with rest closed' meets b a last p (ap new (sym last) ∙ sym same) ext.placed)
  finest_at rest closed' meets a b (inr p) (inr q) al bl same =
      let equal : a ≡ b = omega (arith, al, bl, p, q, length_push nodes s) in
      ap rest equal

  pub made_is_least : IsLeast (nodes ++ (s ∷ [])) (SameAmong (length nodes) old) new
  made_is_least = record {
    closed = λ a b al bl alike. closed_at a b (cases_lt a (length nodes))
        (cases_lt b (length nodes)) al bl alike;
    meets = λ a b al bl e. ext.stay a b e.0 e.1 e.2;
    finest = λ rest closed' meets a b al bl same.
        finest_at rest closed' meets a b (cases_lt a (length nodes)) (cases_lt b (length nodes)) al
        bl same;
  }
