use Rattle.esc_print.specs.Terms.{closing}
use Rattle.esc_print.proofs.PrintingLemmas.{Prints-fails, Prints-then}
use Rattle.esc_print.proofs.printer.Printer.put_last_term.Goals as goal

pub returns : goal.returns
returns g c = Prints-then c.in_ok-put_next_term.ensures c.put_closing.ensures

pub returns-in_err-put_next_term : goal.returns-in_err-put_next_term
returns-in_err-put_next_term g c =
    Prints-fails closing c.from_residual.ensures.0 c.in_err-put_next_term.ensures
