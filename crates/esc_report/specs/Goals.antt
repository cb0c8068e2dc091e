-- What a search for a goal begins with, and goals without arithmetic.
use Rattle.std.specs.Prelude.{IsTrue, List, [], ◌∷◌, ◌++◌, Some}
use Rattle.std.specs.List.{list_all}
use Rattle.esc_term.specs.declared.formula.Formula.{Formula}
use Rattle.esc_term.specs.declared.formula.Formula.TheVariants.{Not}
use Rattle.esc_cover.specs.Laws.{is_free_of_arithmetic}
use Rattle.esc_fact.specs.declared.base.Base.{Base}
use Rattle.esc_outcome.specs.FreeLaws.{NumeralsAreSmall}
use Rattle.esc_report.specs.PlainFormulas.{is_plain_formula}

-- what is assumed, and the negated goal
abbrev pub base_of : List Formula → Formula → Base
base_of assumed goal = record { background = assumed; negated = Some (Not goal) }

-- plain formulas without sums, differences, products and orders; their numerals are small
pub record AreFree (fs : List Formula) : Type 0 where
  pub plain : IsTrue (list_all is_plain_formula fs)
  pub free : IsTrue (list_all is_free_of_arithmetic fs)
  pub numerals : NumeralsAreSmall fs

-- so are a goal and what is assumed
abbrev pub IsFreeGoal : List Formula → Formula → Type 0
IsFreeGoal assumed goal = AreFree (assumed ++ goal ∷ [])
