use Rattle.std.proofs.Common.{◌++◌}
use Rattle.std.specs.Prelude.{decimal}
use Rattle.esc_print.proofs.PrintingLemmas.{Prints-fails, Prints-then}
use Rattle.esc_print.proofs.printer.Printer.put_numbers.Goals as goal

pub returns : goal.returns
returns g c =
    Prints-then c.in_ok-put_text.ensures
    (Prints-then c.in_ok-put_number.ensures c.put_numbered.ensures)

pub returns-in_err-put_text : goal.returns-in_err-put_text
returns-in_err-put_text g c =
    Prints-fails (decimal c.args.number ++ (c.args.point.now ++ decimal c.args.index))
    c.from_residual.ensures.0 c.in_err-put_text.ensures

pub returns-in_err-put_number : goal.returns-in_err-put_number
returns-in_err-put_number g c =
    Prints-then c.in_ok-put_text.ensures
    (Prints-fails (c.args.point.now ++ decimal c.args.index)
    c.from_residual-in_err-put_number.ensures.0 c.in_err-put_number.ensures)
