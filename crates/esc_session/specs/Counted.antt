-- What a command does to the tally of the session's search.
use Rattle.std.specs.Prelude.{◌≡◌, ◌⊎◌, Bool, true, false, Some, None}
use Rattle.esc_report.specs.declared.report.Report.{Report}
use Rattle.esc_report.specs.declared.report.Report.TheVariants as report
use Rattle.esc_search.specs.Proving.{tallied}
use Rattle.esc_search.specs.declared.outcome.Outcome.{Outcome}
use Rattle.esc_search.specs.declared.outcome.Outcome.TheVariants as outcome
use Rattle.esc_search.specs.declared.tally.Tally.{Tally}

-- the search came to this once more, unless what is assumed is refuted: then no goal is searched for
abbrev pub TalliesWhere : Bool → Outcome → Tally → Tally → Type 0
TalliesWhere true came before after = after ≡ before
TalliesWhere false came before after = after ≡ tallied before came

-- each goal that is answered was answered by the session's own search, and is valid where what is
-- assumed is refuted
abbrev pub Tallies : Bool → Report → Tally → Tally → Type 0
Tallies closed (report.Valid goal log formulas) before after =
    TalliesWhere closed outcome.Closed before after
Tallies closed (report.Invalid goal found) before after =
    (closed ≡ false) × (after ≡ tallied before outcome.Open)
Tallies closed (report.Unknown goal cause) before after =
    (closed ≡ false) × (after ≡ tallied before (outcome.Stopped cause))
Tallies closed (report.Memory (Some goal) place) before after =
    (after ≡ before) ⊎ ((came : Outcome) × (closed ≡ false) × (after ≡ tallied before came))
Tallies closed (report.Memory None place) before after = after ≡ before
Tallies closed (report.Refused place why) before after = after ≡ before
Tallies closed report.Done before after = after ≡ before
