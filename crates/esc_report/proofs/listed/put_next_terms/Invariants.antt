use Rattle.std.proofs.Common.{◌++◌, take}
use Rattle.std.specs.Prelude.{Ok}
use Rattle.std.specs.List.{flat_map}
use Rattle.esc_io.specs.Putting.{Delivers}
use Rattle.esc_io.specs.declared.faults.Failed.{Failed}
use Rattle.esc_print.specs.Terms.{blank, term_text}
use Rattle.esc_report.proofs.listed.put_next_terms.Given as goal

abbrev pub invariant-terms : goal.invariant-terms
invariant-terms g l =
    Delivers {E = Failed} g.K.Sink.written g.K.Sink.faults l.fn.sink l.sink (Ok (tt {0}))
    (flat_map (λ t. blank ++ term_text l.names 0 t) (take l.term-index l.terms))
