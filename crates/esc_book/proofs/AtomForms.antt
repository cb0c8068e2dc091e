-- What the atom of an entry says, by the kind of the entry.
use Rattle.std.proofs.Common.{◌≡◌, ℕ, Bool, true, false, List, ap, sym, ◌∙◌, refl}
use denote.Hole.Carrier.{roll}
use Rattle.esc_term.specs.declared.term.Term.{Term}
use Rattle.esc_term.specs.declared.formula.Formula.{Formula}
use Rattle.esc_term.specs.declared.formula.Formula.TheVariants as formula
use Rattle.esc_term.specs.declared.formula.Formula.TheOpen.{Formula-F}
use Rattle.esc_term.specs.declared.formula.Formula.TheViews.{out-Formula, out-roll-Formula}
use Rattle.esc_term.specs.declared.formula.Formula.TheViews.{roll-Formula}
use Rattle.esc_term.specs.declared.formula.Quant.{Quant}
use Rattle.esc_egraph.specs.Graph.{Graph}
use Rattle.esc_sharing.specs.Unquantified.{is_quantified_form}
use Rattle.esc_book.specs.Atom.{is_atom_form}
use Rattle.esc_book.specs.Book.{Form}
use Rattle.esc_book.specs.Book.{Equation, Order, Distinction, Quantified}
use Rattle.esc_book.specs.Book.{form_at, told_kind}
use Rattle.esc_book.specs.ReadingInside.{IsAtomKind}
use Rattle.esc_book.specs.declared.entry.Kind.{Kind}
use Rattle.esc_book.specs.declared.entry.Kind.TheVariants as kind
use Rattle.esc_book.proofs.Locating.{other_kind}

abbrev is_atom : Form → Bool
is_atom (Equation s t) = true
is_atom (Order s t) = true
is_atom (Distinction ts) = true
is_atom (Quantified f) = true
is_atom form = false

abbrev is_quantified : Form → Bool
is_quantified (Quantified f) = true
is_quantified form = false

atom-form : (y : Formula-F Formula Quant) → is_atom_form y ≡ is_atom (form_at y)
atom-form Formula-F.True = refl
atom-form Formula-F.False = refl
atom-form (Formula-F.And parts) = refl
atom-form (Formula-F.Or parts) = refl
atom-form (Formula-F.Not part) = refl
atom-form (Formula-F.Implies left right) = refl
atom-form (Formula-F.Iff left right) = refl
atom-form (Formula-F.Forall quant) = refl
atom-form (Formula-F.Exists quant) = refl
atom-form (Formula-F.Eq s t) = refl
atom-form (Formula-F.Less s t) = refl
atom-form (Formula-F.Distinct ts) = refl
atom-form (Formula-F.LabelPos name part) = refl
atom-form (Formula-F.LabelNeg name part) = refl

quantified-form : (y : Formula-F Formula Quant)
    → is_quantified_form y ≡ is_quantified (form_at y)
quantified-form Formula-F.True = refl
quantified-form Formula-F.False = refl
quantified-form (Formula-F.And parts) = refl
quantified-form (Formula-F.Or parts) = refl
quantified-form (Formula-F.Not part) = refl
quantified-form (Formula-F.Implies left right) = refl
quantified-form (Formula-F.Iff left right) = refl
quantified-form (Formula-F.Forall quant) = refl
quantified-form (Formula-F.Exists quant) = refl
quantified-form (Formula-F.Eq s t) = refl
quantified-form (Formula-F.Less s t) = refl
quantified-form (Formula-F.Distinct ts) = refl
quantified-form (Formula-F.LabelPos name part) = refl
quantified-form (Formula-F.LabelNeg name part) = refl

module _ (g : Graph) where
  other_atom : (k : Kind) → ((a b : ℕ) → k ≡ kind.Equation a b → ⊥)
      → ((a b : ℕ) → k ≡ kind.Order a b → ⊥)
      → ((nodes : List ℕ) → k ≡ kind.Distinction nodes → ⊥) → is_atom (told_kind g k) ≡ true
      → is_quantified (told_kind g k) ≡ true
  other_atom (kind.Constant is_true) no_equation no_order no_distinction e = cc
  other_atom kind.Conjunction no_equation no_order no_distinction e = cc
  other_atom kind.Disjunction no_equation no_order no_distinction e = cc
  other_atom kind.Negation no_equation no_order no_distinction e = cc
  other_atom kind.Implication no_equation no_order no_distinction e = cc
  other_atom kind.Equivalence no_equation no_order no_distinction e = cc
  other_atom kind.Labelled no_equation no_order no_distinction e = cc
  other_atom (kind.Equation a b) no_equation no_order no_distinction e =
      absurd (no_equation a b refl)
  other_atom (kind.Order a b) no_equation no_order no_distinction e = absurd (no_order a b refl)
  other_atom (kind.Distinction nodes) no_equation no_order no_distinction e =
      absurd (no_distinction nodes refl)
  other_atom (kind.Quantified f) no_equation no_order no_distinction e = refl

  kind_of_atom : (k : Kind) → is_atom (told_kind g k) ≡ true → IsAtomKind k
  kind_of_atom (kind.Constant is_true) e = cc
  kind_of_atom kind.Conjunction e = cc
  kind_of_atom kind.Disjunction e = cc
  kind_of_atom kind.Negation e = cc
  kind_of_atom kind.Implication e = cc
  kind_of_atom kind.Equivalence e = cc
  kind_of_atom kind.Labelled e = cc
  kind_of_atom (kind.Equation a b) e = tt
  kind_of_atom (kind.Order a b) e = tt
  kind_of_atom (kind.Distinction nodes) e = tt
  kind_of_atom (kind.Quantified f) e = tt

  pub atom_kind : (k : Kind) (y : Formula-F Formula Quant) → told_kind g k ≡ form_at y
      → is_atom_form y ≡ true → IsAtomKind k
  atom_kind k y same atom = kind_of_atom k (ap is_atom same ∙ (sym (atom-form y) ∙ atom))

  -- an atom of no other kind is quantified
  pub quantified_atom : (k : Kind) (y : Formula-F Formula Quant)
      → ((a b : ℕ) → k ≡ kind.Equation a b → ⊥) → ((a b : ℕ) → k ≡ kind.Order a b → ⊥)
      → ((nodes : List ℕ) → k ≡ kind.Distinction nodes → ⊥) → told_kind g k ≡ form_at y
      → is_atom_form y ≡ true → is_quantified_form y ≡ true
  quantified_atom k y no_equation no_order no_distinction same atom =
      quantified-form y ∙ (ap is_quantified (sym same)
      ∙ other_atom k no_equation no_order no_distinction
      (ap is_atom same ∙ (sym (atom-form y) ∙ atom)))

  pub is_distinction : (k : Kind) (ts : List Term)
      → ((nodes : List ℕ) → k ≡ kind.Distinction nodes → ⊥)
      → told_kind g k ≡ form_at (out-Formula (formula.Distinct ts)) → ⊥
  unfolding roll-Formula roll
  is_distinction k ts other same =
      other_kind g k ts other
      (same ∙ ap form_at (out-roll-Formula (Formula-F.Distinct ts)))

pub some_atom : (k : Kind) → ((a b : ℕ) → k ≡ kind.Equation a b → ⊥)
    → ((a b : ℕ) → k ≡ kind.Order a b → ⊥)
    → ((nodes : List ℕ) → k ≡ kind.Distinction nodes → ⊥)
    → ((f : Formula) → k ≡ kind.Quantified f → ⊥) → IsAtomKind k → ⊥
some_atom (kind.Constant is_true) no_equation no_order no_distinction no_quantified h = h
some_atom kind.Conjunction no_equation no_order no_distinction no_quantified h = h
some_atom kind.Disjunction no_equation no_order no_distinction no_quantified h = h
some_atom kind.Negation no_equation no_order no_distinction no_quantified h = h
some_atom kind.Implication no_equation no_order no_distinction no_quantified h = h
some_atom kind.Equivalence no_equation no_order no_distinction no_quantified h = h
some_atom kind.Labelled no_equation no_order no_distinction no_quantified h = h
some_atom (kind.Equation a b) no_equation no_order no_distinction no_quantified h =
    no_equation a b refl
some_atom (kind.Order a b) no_equation no_order no_distinction no_quantified h =
    no_order a b refl
some_atom (kind.Distinction nodes) no_equation no_order no_distinction no_quantified h =
    no_distinction nodes refl
some_atom (kind.Quantified f) no_equation no_order no_distinction no_quantified h =
    no_quantified f refl
