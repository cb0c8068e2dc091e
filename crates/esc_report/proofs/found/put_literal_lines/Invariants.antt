use Rattle.std.proofs.Common.{take}
use Rattle.std.specs.Prelude.{Ok}
use Rattle.std.specs.List.{flat_map}
use Rattle.esc_io.specs.Putting.{Delivers}
use Rattle.esc_io.specs.declared.faults.Failed.{Failed}
use Rattle.esc_report.specs.FoundText.{literal_line}
use Rattle.esc_report.proofs.found.put_literal_lines.Given as goal

abbrev pub invariant-literals : goal.invariant-literals
invariant-literals g l =
    Delivers {E = Failed} g.K.Sink.written g.K.Sink.faults l.fn.sink l.sink (Ok (tt {0}))
    (flat_map (literal_line l.names) (take l.literal-index l.literals))
