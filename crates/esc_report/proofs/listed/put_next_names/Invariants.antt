use Rattle.std.proofs.Common.{◌++◌, take}
use Rattle.std.specs.Prelude.{Ok}
use Rattle.std.specs.List.{flat_map}
use Rattle.esc_io.specs.Putting.{Delivers}
use Rattle.esc_io.specs.declared.faults.Failed.{Failed}
use Rattle.esc_print.specs.Names.{name_text}
use Rattle.esc_print.specs.Terms.{blank}
use Rattle.esc_report.proofs.listed.put_next_names.Given as goal

abbrev pub invariant-list : goal.invariant-list
invariant-list g l =
    Delivers {E = Failed} g.K.Sink.written g.K.Sink.faults l.fn.sink l.sink (Ok (tt {0}))
    (flat_map (λ s. blank ++ name_text l.names s) (take l.name-index l.list))
