-- The finest classes that literals, congruence and arithmetic ask for.
use Rattle.std.specs.Prelude.{◌≡◌, ◌≢◌, Bool, true, IsTrue, List}
use Rattle.std.specs.Cmp.{IsEquivalence}
use Rattle.std.specs.List.{AllZip, Contains}
use Rattle.esc_term.specs.declared.term.Head.{Head}
use Rattle.esc_term.specs.declared.term.Term.{Term}
use Rattle.esc_term.specs.declared.term.Term.TheVariants.{App}
use Rattle.esc_term.specs.declared.formula.Formula.TheVariants.{Eq}
use Rattle.esc_term.specs.declared.formula.Item.{Item}
use Rattle.esc_cover.specs.Arithmetic.{InPlay}
use Rattle.esc_cover.specs.Assignment.{Assignment, Suits, value}
use Rattle.esc_cover.specs.Classes.{classes_by}

-- no assignment that does what literals and classes ask gives the two terms different values
abbrev pub AreEqualByValues : List Item → List Term → (Term → Term → Bool) → Term → Term → Type 0
AreEqualByValues literals numbers same s t = (v : Assignment) → Suits literals numbers same v
    → value v s ≡ value v t

-- some assignment that does so gives them different values
abbrev pub ArePartedByValues : List Item → List Term → (Term → Term → Bool) → Term → Term → Type 0
ArePartedByValues literals numbers same s t = (v : Assignment) × Suits literals numbers same v
    × (value v s ≢ value v t)

-- a test of which terms belong together that obeys congruence and arithmetic among the terms and
-- each equation that holds
pub record IsCongruent (same : Term → Term → Bool) (play : InPlay)
    (literals : List Item) : Type 0 where
  pub equivalence : IsEquivalence same
  -- applications of one head whose arguments belong together pairwise belong together
  pub congruence : (head : Head) (ss ts : List Term)
      → Contains play.terms (App head ss) → Contains play.terms (App head ts)
      → AllZip (λ s t. IsTrue (same s t)) ss ts → IsTrue (same (App head ss) (App head ts))
  pub equations : (s t : Term)
      → Contains literals (record { formula = Eq s t; positive = true }) → IsTrue (same s t)
  -- arithmetic terms that have one value in every assignment that the literals and the test allow
  -- belong together
  pub values : (s t : Term) → Contains play.numbers s → Contains play.numbers t
      → AreEqualByValues literals play.numbers same s t → IsTrue (same s t)

-- the classes are those of the finest such test over the terms
pub record IsLeast (literals : List Item) (play : InPlay)
    (classes : List (List Term)) : Type 0 where
  pub same : Term → Term → Bool
  pub congruent : IsCongruent same play literals
  pub finest : (other : Term → Term → Bool) → IsCongruent other play literals
      → (s t : Term) → Contains play.terms s → Contains play.terms t → IsTrue (same s t)
      → IsTrue (other s t)
  pub shown : classes ≡ classes_by same play.terms
