-- The quantified formulas that a walk meets.
use Rattle.std.specs.Prelude.{ℕ, List, map}
use Rattle.std.specs.List.{flat_map}
use Rattle.esc_term.specs.declared.formula.Formula.{Formula}
use Rattle.esc_fact.specs.Base.{quantified_under, whole}

-- the quantified formulas in a formula under so many bound variables, from the front, an outer one
-- before those inside it
unfoldable pub wholes_under : ℕ → Formula → List Formula
wholes_under outer f = map whole (quantified_under f outer)

abbrev pub wholes_in : ℕ → List Formula → List Formula
wholes_in outer = flat_map (wholes_under outer)
