use Rattle.std.specs.Prelude.{decimal}
use Rattle.esc_print.proofs.PrintingLemmas.{Prints-fails, Prints-then}
use Rattle.esc_print.proofs.printer.Printer.put_numbered.Goals as goal

pub returns : goal.returns
returns g c = Prints-then c.in_ok-put_text.ensures c.put_number.ensures

pub returns-in_err-put_text : goal.returns-in_err-put_text
returns-in_err-put_text g c =
    Prints-fails (decimal c.args.number) c.from_residual.ensures.0 c.in_err-put_text.ensures
