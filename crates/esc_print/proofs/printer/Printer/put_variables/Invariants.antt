use Rattle.std.proofs.Common.{◌<◌, ◌≤◌, ◌-◌}
use Rattle.std.specs.Prelude.{Ok}
use Rattle.esc_io.specs.declared.faults.Failed.{Failed}
use Rattle.esc_print.specs.Formulas.{variables_text}
use Rattle.esc_print.specs.Printing.{Prints}
use Rattle.esc_print.proofs.printer.Printer.put_variables.Given as goal

abbrev pub invariant-variables : goal.invariant-variables
invariant-variables g l =
    record {
      some : 0 < l.done;
      within : l.done ≤ l.count;
      printed : Prints {E = Failed} g.K.Sink.written g.K.Sink.faults l.fn.self l.self (Ok (tt {0}))
          (variables_text l.depth l.done);
    }

abbrev pub decreases-variables : goal.decreases-variables
decreases-variables g l = l.count - l.done
