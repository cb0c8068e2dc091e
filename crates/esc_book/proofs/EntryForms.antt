-- What formula an entry is of, and where its parts have theirs.
use Rattle.std.proofs.Common.{◌≡◌, ◌⊎◌, inl, inr, ℕ, ◌+◌, ◌<◌, Bool, true, false, List, []}
use Rattle.std.proofs.Common.{◌∷◌, ◌++◌, Some, length, get_or, refl, ap, sym, subst, ◌∙◌, arith}
use Rattle.std.proofs.lemmas.List.{append-nil}
use Rattle.std.proofs.lemmas.List.Elements.{All-get_or}
use Rattle.std.specs.List.{flat_map, slice_get}
use denote.Hole.Carrier.{roll}
use Rattle.esc_term.specs.declared.term.Sym.{Sym}
use Rattle.esc_term.specs.declared.formula.Formula.{Formula}
use Rattle.esc_term.specs.declared.formula.Formula.TheVariants as formula
use Rattle.esc_term.specs.declared.formula.Formula.TheOpen.{Formula-F}
use Rattle.esc_term.specs.declared.formula.Formula.TheViews.{out-Formula, roll-Formula}
use Rattle.esc_term.specs.declared.formula.Formula.TheViews.{roll-out-Formula}
use Rattle.esc_term.specs.declared.formula.Quant.{Quant}
use Rattle.esc_egraph.specs.Graph.{Graph}
use Rattle.esc_book.specs.Book.{Constant, Conjunction, Disjunction, Negation, Implication, Form}
use Rattle.esc_book.specs.Book.{Equivalence, Labelled, Equation, Order, Distinction, Quantified}
use Rattle.esc_book.specs.Book.{HasNodes, IsPage, Outline, form_at, heads_of, told_kind}
use Rattle.esc_book.specs.JudgingInside.{AreBetween, HasNoParts, of_parts}
use Rattle.esc_book.specs.declared.entry.Entry.{Entry}
use Rattle.esc_book.specs.declared.entry.Kind.{Kind}
use Rattle.esc_book.specs.declared.entry.Kind.TheVariants as kind
use Rattle.esc_book.proofs.HeadsLevels as heads
use Rattle.esc_book.proofs.Nested.{first_there, heads_whole, later_there, parts_there}
use Rattle.esc_book.proofs.Reading.{read}

-- ---- forms

-- the formula is one of that form
abbrev pub IsOf : Form → Formula → Type 0
IsOf (Constant true) s = s ≡ formula.True
IsOf (Constant false) s = s ≡ formula.False
IsOf Conjunction s = (ps : List Formula) × (s ≡ of_parts true ps)
IsOf Disjunction s = (ps : List Formula) × (s ≡ of_parts false ps)
IsOf Negation s = (p : Formula) × (s ≡ formula.Not p)
IsOf Implication s = (p : Formula) × ((q : Formula) × (s ≡ formula.Implies p q))
IsOf Equivalence s = (p : Formula) × ((q : Formula) × (s ≡ formula.Iff p q))
IsOf Labelled s =
    (p : Formula) × ((name : Sym) × ((s ≡ formula.LabelPos name p) ⊎ (s ≡ formula.LabelNeg name p)))
IsOf (Equation x y) s = s ≡ formula.Eq x y
IsOf (Order x y) s = s ≡ formula.Less x y
IsOf (Distinction ts) s = s ≡ formula.Distinct ts
IsOf (Quantified f) s =
    (f ≡ s) × ((q : Quant) × ((s ≡ formula.Forall q) ⊎ (s ≡ formula.Exists q)))

rolled : (y : Formula-F Formula Quant) → IsOf (form_at y) (roll-Formula y)
unfolding roll-Formula roll
rolled Formula-F.True = refl
rolled Formula-F.False = refl
rolled (Formula-F.And ps) = (ps, refl)
rolled (Formula-F.Or ps) = (ps, refl)
rolled (Formula-F.Not p) = (p, refl)
rolled (Formula-F.Implies p q) = (p, (q, refl))
rolled (Formula-F.Iff p q) = (p, (q, refl))
rolled (Formula-F.Forall q) = (refl, (q, inl refl))
rolled (Formula-F.Exists q) = (refl, (q, inr refl))
rolled (Formula-F.Eq x y) = refl
rolled (Formula-F.Less x y) = refl
rolled (Formula-F.Distinct ts) = refl
rolled (Formula-F.LabelPos name p) = (p, (name, inl refl))
rolled (Formula-F.LabelNeg name p) = (p, (name, inr refl))

pub of_form : (form : Form) (s : Formula) → form ≡ form_at (out-Formula s) → IsOf form s
of_form form s is =
    subst (λ x. IsOf x s) (sym is)
    (subst (IsOf (form_at (out-Formula s))) (roll-out-Formula s) (rolled (out-Formula s)))

-- ---- where parts stand

module _ (f : Formula) (i : ℕ) (s : Formula) (there : slice_get (heads_of f) i ≡ Some s) where
  pub part_behind : (p : Formula) → heads_of s ≡ s ∷ heads_of p
      → slice_get (heads_of f) (i + 1) ≡ Some p
  part_behind p is =
      first_there (heads_of f) (i + 1) p []
      (parts_there (heads_of f) i s (p ∷ []) (heads_whole f) there
      (is ∙ ap (λ l. s ∷ l) (sym (append-nil (heads_of p)))))

  pub first_behind : (p q : Formula) → heads_of s ≡ s ∷ (heads_of p ++ heads_of q)
      → slice_get (heads_of f) (i + 1) ≡ Some p
  first_behind p q is =
      first_there (heads_of f) (i + 1) p (q ∷ [])
      (parts_there (heads_of f) i s (p ∷ q ∷ []) (heads_whole f) there
      (is ∙ ap (λ l. s ∷ (heads_of p ++ l)) (sym (append-nil (heads_of q)))))

  pub second_behind : (p q : Formula) → heads_of s ≡ s ∷ (heads_of p ++ heads_of q)
      → slice_get (heads_of f) (i + 1 + length (heads_of p)) ≡ Some q
  second_behind p q is =
      first_there (heads_of f) (i + 1 + length (heads_of p)) q []
      (later_there (heads_of f) (i + 1) p (q ∷ [])
      (parts_there (heads_of f) i s (p ∷ q ∷ []) (heads_whole f) there
      (is ∙ ap (λ l. s ∷ (heads_of p ++ l)) (sym (append-nil (heads_of q))))))

  parts_heads : (all : Bool) (ps : List Formula) → s ≡ of_parts all ps
      → heads_of s ≡ s ∷ flat_map heads_of ps
  parts_heads true ps is =
      subst (λ x. heads_of x ≡ x ∷ flat_map heads_of ps) (sym is) (heads.heads_of-And ps)
  parts_heads false ps is =
      subst (λ x. heads_of x ≡ x ∷ flat_map heads_of ps) (sym is) (heads.heads_of-Or ps)

  pub parts_behind : (all : Bool) (ps : List Formula) (next : ℕ) → s ≡ of_parts all ps
      → next ≡ i + length (heads_of s) → AreBetween (heads_of f) (i + 1) next ps
  parts_behind all ps next is ends =
      let behind : heads_of s ≡ s ∷ flat_map heads_of ps = parts_heads all ps is in
      record {
        there = parts_there (heads_of f) i s ps (heads_whole f) there behind;
        ends = omega (arith, ends, ap length behind);
      }

-- ---- entries

module _ (g : Graph) (f : Formula) (page : List Entry) (is : IsPage g f page) (i : ℕ) (e : Entry)
    (l : i < length page) (is_e : e ≡ get_or page i e) where
  pub kind_there : (s : Formula) → slice_get (heads_of f) i ≡ Some s
      → told_kind g e.kind ≡ form_at (out-Formula s)
  kind_there s there =
      let found = read g f page is i e l in
      let same : found.0 ≡ s =
      let both : Some found.0 ≡ Some s = sym found.1.there ∙ there in cc in
      ap (λ (x : Entry). told_kind g x.kind) is_e
      ∙ (ap (λ (o : Outline). o.form) found.1.outline
      ∙ ap (λ x. form_at (out-Formula x)) same)

  pub form_there : (s : Formula) (k : Kind) → slice_get (heads_of f) i ≡ Some s
      → e.kind ≡ k → IsOf (told_kind g k) s
  form_there s k there at_kind =
      of_form (told_kind g k) s (ap (told_kind g) (sym at_kind) ∙ kind_there s there)

  pub nodes_there : HasNodes g e.kind
  nodes_there =
      subst (λ (x : Entry). HasNodes g x.kind) (sym is_e)
      (All-get_or (λ (x : Entry). HasNodes g x.kind) page i e l is.nodes)

-- ---- kinds without parts

pub no_parts : (k : Kind) → ((b : Bool) × (k ≡ kind.Constant b))
    ⊎ (((a : ℕ) × (b : ℕ) × (k ≡ kind.Equation a b))
    ⊎ (((a : ℕ) × (b : ℕ) × (k ≡ kind.Order a b))
    ⊎ (((nodes : List ℕ) × (k ≡ kind.Distinction nodes))
    ⊎ ((f : Formula) × (k ≡ kind.Quantified f))))) → HasNoParts k
no_parts k (inl (b, e)) = subst HasNoParts (sym e) tt
no_parts k (inr (inl (a, b, e))) = subst HasNoParts (sym e) tt
no_parts k (inr (inr (inl (a, b, e)))) = subst HasNoParts (sym e) tt
no_parts k (inr (inr (inr (inl (nodes, e))))) = subst HasNoParts (sym e) tt
no_parts k (inr (inr (inr (inr (f, e))))) = subst HasNoParts (sym e) tt
