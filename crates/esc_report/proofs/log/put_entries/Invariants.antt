use Rattle.std.proofs.Common.{take}
use Rattle.std.specs.Prelude.{Ok}
use Rattle.std.specs.List.{flat_map}
use Rattle.esc_io.specs.Putting.{Delivers}
use Rattle.esc_io.specs.declared.faults.Failed.{Failed}
use Rattle.esc_report.specs.LogText.{entries_from, entry_text}
use Rattle.esc_report.proofs.log.put_entries.Given as goal

abbrev pub invariant-facts : goal.invariant-facts
invariant-facts g l =
    Delivers {E = Failed} g.K.Sink.written g.K.Sink.faults l.fn.sink l.sink (Ok (tt {0}))
    (flat_map (entry_text l.names) (take l.place (entries_from 0 l.facts l.formulas)))
