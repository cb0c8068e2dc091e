-- What holds of a goal that is decided.
use Rattle.std.specs.Prelude.{IsTrue, List}
use Rattle.std.specs.List.{list_all}
use Rattle.esc_term.specs.Refuted.{Refuted}
use Rattle.esc_cover.specs.Counterexample.{Counterexample as IsCounterexample}
use Rattle.esc_cover.specs.Laws.{is_free_of_arithmetic}
use Rattle.esc_fact.specs.Base.{formulas_in}
use Rattle.esc_fact.specs.Fact.{formulas_of}
use Rattle.esc_fact.specs.Legal.{IsLegal}
use Rattle.esc_fact.specs.declared.base.Base.{Base}
use Rattle.esc_fact.specs.declared.fact.Fact.{Fact}
use Rattle.esc_outcome.specs.Found.{IsValid, members_of, values_of}
use Rattle.esc_outcome.specs.declared.counterexample.Counterexample.{Counterexample}

-- a legal log whose formulas are refuted shows its goal valid by these
abbrev pub RefutedIsValid : Type 0
RefutedIsValid = (base : Base) (log : List Fact) → IsLegal base log
    → Refuted (formulas_of base log) → IsValid base log (formulas_of base log)

-- where no fact has arithmetic, a counterexample to facts of a base shows that it is not refuted
abbrev pub CounterexampleIsNotRefuted : Type 0
CounterexampleIsNotRefuted = (base : Base) (found : Counterexample) → IsLegal base found.facts
    → IsCounterexample found.literals (members_of found.classes) (values_of found.classes)
    (formulas_of base found.facts)
    → IsTrue (list_all is_free_of_arithmetic (formulas_of base found.facts))
    → Refuted (formulas_in base) → ⊥
