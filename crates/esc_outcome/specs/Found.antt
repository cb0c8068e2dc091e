-- What is found of a goal that is valid, and the classes of a counterexample.
use Rattle.std.specs.Prelude.{◌≡◌, List, Option, Some, map}
use Rattle.std.specs.List.{AllZip}
use Rattle.esc_term.specs.declared.term.Term.{Term}
use Rattle.esc_term.specs.declared.formula.Formula.{Formula}
use Rattle.esc_term.specs.Refuted.{Refuted}
use Rattle.esc_frac.specs.Rational.{ℚ}
use Rattle.esc_fact.specs.Fact.{formula_of}
use Rattle.esc_fact.specs.Legal.{IsLegal}
use Rattle.esc_fact.specs.declared.base.Base.{Base}
use Rattle.esc_fact.specs.declared.fact.Fact.{Fact}
use Rattle.esc_outcome.specs.declared.counterexample.Class.{Class}

-- a legal log whose formulas are refuted
pub record IsValid (base : Base) (log : List Fact) (formulas : List Formula) : Type 0 where
  pub legal : IsLegal base log
  pub formulas_are : AllZip (λ fact f. formula_of base fact ≡ Some f) log formulas
  pub refuted : Refuted formulas

abbrev pub members_of : List Class → List (List Term)
members_of = map (λ class. class.terms)

abbrev pub values_of : List Class → List (Option ℚ)
values_of = map (λ class. class.value)
