-- What holds of facts and their formulas.
use Rattle.std.specs.Prelude.{◌≡◌, IsTrue, Some}
use Rattle.esc_term.specs.declared.formula.Formula.{Formula}
use Rattle.esc_term.specs.Formula.{is_closed}
use Rattle.esc_fact.specs.Fact.{IsFact, formula_of}
use Rattle.esc_fact.specs.Legal.{IsClosedBase}
use Rattle.esc_fact.specs.declared.base.Base.{Base}
use Rattle.esc_fact.specs.declared.fact.Fact.{Fact}

-- over closed formulas the formula of a fact is closed
abbrev pub FactIsClosed : Type 0
FactIsClosed = (base : Base) (fact : Fact) (f : Formula) → IsClosedBase base → IsFact base fact
    → formula_of base fact ≡ Some f → IsTrue (is_closed f)
