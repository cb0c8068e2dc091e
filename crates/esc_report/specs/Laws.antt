-- What holds of plain goals.
use Rattle.std.specs.Prelude.{IsTrue, List}
use Rattle.std.specs.List.{list_all}
use Rattle.esc_term.specs.declared.formula.Formula.{Formula}
use Rattle.esc_outcome.specs.PlainLaws.{IsPlain, IsPlainAndFree}
use Rattle.esc_report.specs.Goals.{IsFreeGoal, base_of}
use Rattle.esc_report.specs.PlainFormulas.{is_plain_formula}

-- nothing is drawn from a plain goal and plain assumptions
abbrev pub PlainGoalIsPlain : Type 0
PlainGoalIsPlain = (assumed : List Formula) (goal : Formula)
    → IsTrue (list_all is_plain_formula assumed) → IsTrue (is_plain_formula goal)
    → IsPlain (base_of assumed goal)

-- nor is it from a free one, and there is no arithmetic but small numerals
abbrev pub FreeGoalIsPlainAndFree : Type 0
FreeGoalIsPlainAndFree = (assumed : List Formula) (goal : Formula) → IsFreeGoal assumed goal
    → IsPlainAndFree (base_of assumed goal)
