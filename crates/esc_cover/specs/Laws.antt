-- What holds of counterexamples.
use Rattle.std.specs.Prelude.{◌≡◌, Bool, true, false, not, ◌&&◌, IsTrue, List, Option}
use Rattle.std.specs.List.{All, Contains, list_all}
use Rattle.esc_term.specs.declared.term.Head.{Head}
use Rattle.esc_term.specs.declared.term.Head.TheVariants.{Name, Skolem}
use Rattle.esc_term.specs.declared.term.Term.{Term}
use Rattle.esc_term.specs.declared.term.Term.TheOpen.{Term-F}
use Rattle.esc_term.specs.declared.term.Term.TheViews.{out-Term}
use Rattle.esc_term.specs.declared.formula.Formula.{Formula}
use Rattle.esc_term.specs.declared.formula.Formula.TheOpen.{Formula-F}
use Rattle.esc_term.specs.declared.formula.Formula.TheViews.{out-Formula}
use Rattle.esc_term.specs.declared.formula.Quant.{Quant}
use Rattle.esc_term.specs.declared.formula.Item.{Item}
use Rattle.esc_term.specs.Formula.{terms_of}
use Rattle.esc_term.specs.Interpretation.{truth}
use Rattle.esc_term.specs.Model.{Model, read_in, value_in}
use Rattle.esc_term.specs.Refuted.{Refuted}
use Rattle.esc_frac.specs.Rational.{ℚ}
use Rattle.esc_cover.specs.Arithmetic.{InPlay}
use Rattle.esc_cover.specs.Atoms.{atoms_of}
use Rattle.esc_cover.specs.Classes.{together}
use Rattle.esc_cover.specs.Counterexample.{Counterexample, IsConsistent}
use Rattle.esc_cover.specs.Cover.{cover}
use Rattle.esc_cover.specs.Least.{IsCongruent, IsLeast}

abbrev pub is_free_head : Head → Bool
is_free_head (Name f) = true
is_free_head (Skolem n i) = true
is_free_head head = false

-- no sum, difference or product
abbrev pub is_free_form : Term-F Term → Bool
is_free_form (Term-F.Num n) = true
is_free_form (Term-F.Var k) = true
is_free_form (Term-F.App head args) = is_free_head head

abbrev pub is_order_form : Formula-F Formula Quant → Bool
is_order_form (Formula-F.Less s t) = true
is_order_form form = false

-- outside quantified formulas there is no operation on numbers and no order, but numerals may stand
-- there
abbrev pub is_free_of_arithmetic : Formula → Bool
is_free_of_arithmetic f =
    list_all (λ t. is_free_form (out-Term t)) (terms_of f)
    && list_all (λ atom. not (is_order_form (out-Formula atom))) (atoms_of f)

-- formulas without arithmetic that have a counterexample are true together under some
-- interpretation
abbrev pub NotRefuted : Type 0
NotRefuted =
    (literals : List Item) (classes : List (List Term)) (values : List (Option ℚ))
    (formulas : List Formula)
    → IsTrue (list_all is_free_of_arithmetic formulas)
    → Counterexample literals classes values formulas
    → Refuted formulas → ⊥

-- the item's formula has its sign in the model
abbrev pub HoldsIn : Model → Item → Type 0
HoldsIn M item = truth (read_in M) item.formula ≡ item.positive

-- terms of one class have one value in each model of the literals
abbrev pub TogetherHasOneValue : InPlay → Type 0
TogetherHasOneValue play = (literals : List Item) (classes : List (List Term))
    → IsLeast literals play classes
    → (M : Model) → All (HoldsIn M) literals
    → (s t : Term) → IsTrue (together classes s t) → value_in M s ≡ value_in M t

-- what literals and classes say of a formula is so in a model
pub record IsSaidIn (M : Model) (literals : List Item) (classes : List (List Term))
    (f : Formula) : Type 0 where
  pub holds : IsTrue (cover literals classes f).holds → truth (read_in M) f ≡ true
  pub fails : IsTrue (cover literals classes f).fails → truth (read_in M) f ≡ false

-- what literals and their least classes say of a formula is so in each model of the literals
abbrev pub CoverIsSound : InPlay → Type 0
CoverIsSound play = (literals : List Item) (classes : List (List Term))
    → IsLeast literals play classes
    → (M : Model) → All (HoldsIn M) literals → (f : Formula) → IsSaidIn M literals classes f

-- more literals, and classes that are coarser
pub record GoesFurther (literals : List Item) (classes : List (List Term)) (more : List Item)
    (coarser : List (List Term)) : Type 0 where
  pub kept : (item : Item) → Contains literals item → Contains more item
  pub joined : (s t : Term) → IsTrue (together classes s t) → IsTrue (together coarser s t)

-- what is said of a formula is said of it too by others
pub record IsStillSaid (literals : List Item) (classes : List (List Term)) (more : List Item)
    (coarser : List (List Term)) (f : Formula) : Type 0 where
  pub holds : IsTrue (cover literals classes f).holds → IsTrue (cover more coarser f).holds
  pub fails : IsTrue (cover literals classes f).fails → IsTrue (cover more coarser f).fails

-- what is said of a formula is still said of it with more literals and coarser classes that agree
-- with each other
abbrev pub CoverStays : Type 0
CoverStays = (literals more : List Item) (play : InPlay) (classes coarser : List (List Term))
    → GoesFurther literals classes more coarser → IsLeast more play coarser
    → IsConsistent more coarser
    → (f : Formula) → IsStillSaid literals classes more coarser f

-- two congruent tests meet in a congruent one, so that the finest is where all of them meet
abbrev pub CongruentTestsMeet : Type 0
CongruentTestsMeet = (play : InPlay) (literals : List Item) (same other : Term → Term → Bool)
    → IsCongruent same play literals → IsCongruent other play literals
    → IsCongruent (λ s t. same s t && other s t) play literals
