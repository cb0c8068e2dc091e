use Rattle.std.proofs.Common.{take}
use Rattle.std.specs.Prelude.{Ok}
use Rattle.std.specs.List.{flat_map}
use Rattle.esc_io.specs.Putting.{Delivers}
use Rattle.esc_io.specs.declared.faults.Failed.{Failed}
use Rattle.esc_report.specs.FoundText.{class_line}
use Rattle.esc_report.proofs.found.put_class_lines.Given as goal

abbrev pub invariant-classes : goal.invariant-classes
invariant-classes g l =
    Delivers {E = Failed} g.K.Sink.written g.K.Sink.faults l.fn.sink l.sink (Ok (tt {0}))
    (flat_map (class_line l.names) (take l.class-index l.classes))
