-- What a counterexample is: literals, classes and values that agree with each other and cover all
-- formulas of a branch. Its parts stand alone, since other answers use some of them.
use Rattle.std.specs.Prelude.{◌≡◌, ℤ, Bool, true, false, not, IsTrue, List, Option, Some, None}
use Rattle.std.specs.List.{All, AllZip, Contains, flat_map}
use Rattle.esc_term.specs.declared.term.Term.{Term}
use Rattle.esc_term.specs.declared.term.Term.TheVariants.{Num}
use Rattle.esc_term.specs.declared.formula.Formula.{Formula}
use Rattle.esc_term.specs.declared.formula.Formula.TheVariants as formula
use Rattle.esc_term.specs.declared.formula.Formula.TheOpen.{Formula-F}
use Rattle.esc_term.specs.declared.formula.Formula.TheViews.{out-Formula}
use Rattle.esc_term.specs.declared.formula.Quant.{Quant}
use Rattle.esc_term.specs.declared.formula.Item.{Item}
use Rattle.esc_frac.specs.Rational.{ℚ, ratio}
use Rattle.esc_cover.specs.Arithmetic.{play_of}
use Rattle.esc_cover.specs.Assignment.{Assignment, Satisfies, value}
use Rattle.esc_cover.specs.Atoms.{atoms_of}
use Rattle.esc_cover.specs.Classes.{together}
use Rattle.esc_cover.specs.Cover.{cover, every_two}
use Rattle.esc_cover.specs.Least.{ArePartedByValues, IsLeast}

-- ---- classes and literals agree

-- classes do not hold together what the literals and the numerals hold apart
pub record IsConsistent (literals : List Item) (classes : List (List Term)) : Type 0 where
  pub unequal : (s t : Term)
      → Contains literals (record { formula = formula.Eq s t; positive = false })
      → together classes s t ≡ false
  pub distinct : (ts : List Term)
      → Contains literals (record { formula = formula.Distinct ts; positive = true })
      → IsTrue (every_two (λ s t. not (together classes s t)) ts)
  pub numerals : (m n : ℤ) → IsTrue (together classes (Num m) (Num n)) → m ≡ n
  -- no formula is a literal with both signs
  pub one_sign : (f : Formula) → Contains literals (record { formula = f; positive = true })
      → Contains literals (record { formula = f; positive = false }) → ⊥

-- ---- values

-- what the term stands for under the assignment
abbrev pub fraction : Assignment → Term → ℚ
fraction v t = ratio (value v t) v.denominator

-- the value of a class, and none where no arithmetic term stands in it
abbrev pub IsValueOf : Assignment → List Term → List Term → Option ℚ → Type 0
IsValueOf v numbers members None = (t : Term) → Contains members t → Contains numbers t → ⊥
IsValueOf v numbers members (Some q) =
    ((t : Term) × Contains members t × Contains numbers t) ×
    ((t : Term) → Contains members t → Contains numbers t → fraction v t ≡ q)

-- one assignment that satisfies the literals gives each class its value
pub record AreValues (literals : List Item) (numbers : List Term) (classes : List (List Term))
    (values : List (Option ℚ)) : Type 0 where
  pub assignment : Assignment
  pub satisfies : Satisfies assignment literals
  pub shown : AllZip (IsValueOf assignment numbers) classes values

-- any two arithmetic terms of different classes are parted by an assignment
abbrev pub AllParted : List Item → List Term → List (List Term) → Type 0
AllParted literals numbers classes = (s t : Term) → Contains numbers s → Contains numbers t
    → together classes s t ≡ false
    → ArePartedByValues literals numbers (together classes) s t

-- ---- formulas

-- each formula is said to hold
abbrev pub AllCovered : List Item → List (List Term) → List Formula → Type 0
AllCovered literals classes formulas = All (λ f. IsTrue (cover literals classes f).holds) formulas

-- what a literal may be: an equation, an order or a quantified formula with either sign, or a
-- distinction that holds
abbrev pub is_literal_form : Formula-F Formula Quant → Bool → Bool
is_literal_form (Formula-F.Eq s t) positive = true
is_literal_form (Formula-F.Less s t) positive = true
is_literal_form (Formula-F.Forall quant) positive = true
is_literal_form (Formula-F.Exists quant) positive = true
is_literal_form (Formula-F.Distinct ts) positive = positive
is_literal_form form positive = false

-- each literal has the form of one, and is an atom of the formulas
pub record AreLiteralsOf (formulas : List Formula) (literals : List Item) : Type 0 where
  pub forms : All (λ item. IsTrue (is_literal_form (out-Formula item.formula) item.positive))
      literals
  pub atoms : All (λ item. Contains (flat_map atoms_of formulas) item.formula) literals

-- ---- all of it

pub record Counterexample (literals : List Item) (classes : List (List Term))
    (values : List (Option ℚ)) (formulas : List Formula) : Type 0 where
  pub least : IsLeast literals (play_of formulas) classes
  pub consistent : IsConsistent literals classes
  pub values_are : AreValues literals (play_of formulas).numbers classes values
  pub parted : AllParted literals (play_of formulas).numbers classes
  pub covered : AllCovered literals classes formulas
  pub literals_are : AreLiteralsOf formulas literals
