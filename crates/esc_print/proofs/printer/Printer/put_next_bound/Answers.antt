use Rattle.esc_print.specs.Terms.{bound_text}
use Rattle.esc_print.proofs.PrintingLemmas.{Prints-fails, Prints-then}
use Rattle.esc_print.proofs.printer.Printer.put_next_bound.Goals as goal

pub returns : goal.returns
returns g c = Prints-then c.in_ok-put_blank.ensures c.put_bound.ensures

pub returns-in_err-put_blank : goal.returns-in_err-put_blank
returns-in_err-put_blank g c =
    Prints-fails (bound_text c.args.depth) c.from_residual.ensures.0 c.in_err-put_blank.ensures
