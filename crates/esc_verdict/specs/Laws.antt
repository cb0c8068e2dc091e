-- What holds of a goal that is decided, and of one whose search stopped.
use Rattle.std.specs.Prelude.{◌<◌, ◌^◌, IsTrue}
use Rattle.std.specs.List.{list_all}
use Rattle.esc_term.specs.Refuted.{Refuted}
use Rattle.esc_cover.specs.Laws.{is_free_of_arithmetic}
use Rattle.esc_fact.specs.Base.{formulas_in}
use Rattle.esc_fact.specs.Fact.{formulas_of}
use Rattle.esc_fact.specs.declared.base.Base.{Base}
use Rattle.esc_options.specs.declared.options.Limits.{Limits}
use Rattle.esc_outcome.specs.PlainLaws.{IsPlainAndFree}
use Rattle.esc_outcome.specs.TreeLaws.{occurrences_in}
use Rattle.esc_outcome.specs.declared.counterexample.Counterexample.{Counterexample}
use Rattle.esc_verdict.specs.Causes.{IsCause}
use Rattle.esc_verdict.specs.Found.{IsInvalid}
use Rattle.esc_verdict.specs.declared.cause.Cause.{Cause}

-- where no fact has arithmetic, a base to which there is a counterexample is not refuted
abbrev pub InvalidIsNotRefuted : Type 0
InvalidIsNotRefuted = (base : Base) (limits : Limits) (found : Counterexample)
    → IsInvalid base limits found
    → IsTrue (list_all is_free_of_arithmetic (formulas_of base found.facts))
    → Refuted (formulas_in base) → ⊥

-- a counterexample to a base without arithmetic shows that it is not refuted
abbrev pub PlainIsNotRefuted : Type 0
PlainIsNotRefuted = (base : Base) (limits : Limits) (found : Counterexample)
    → IsPlainAndFree base → IsInvalid base limits found → Refuted (formulas_in base) → ⊥

-- a search over such a base stops only where fewer splits are allowed than a tree can have
abbrev pub PlainRunsOutOfSplits : Type 0
PlainRunsOutOfSplits = (base : Base) (limits : Limits) (cause : Cause) → IsPlainAndFree base
    → IsCause base limits cause → limits.splits < 2 ^ occurrences_in (formulas_in base)
