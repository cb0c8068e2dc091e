use Rattle.esc_print.specs.Names.{name_text}
use Rattle.esc_print.proofs.PrintingLemmas.{Prints-fails, Prints-named}
use Rattle.esc_print.proofs.printer.Printer.put_next_name.Goals as goal

pub returns : goal.returns
returns g c =
    Prints-named (λ names. name_text names c.args.name) c.in_ok-put_blank.ensures
    c.put_name.ensures

pub returns-in_err-put_blank : goal.returns-in_err-put_blank
returns-in_err-put_blank g c =
    Prints-fails (name_text c.args.self.now.names.now c.args.name) c.from_residual.ensures.0
    c.in_err-put_blank.ensures
