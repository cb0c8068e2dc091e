use Rattle.esc_print.specs.Formulas.{pattern_text}
use Rattle.esc_print.proofs.PrintingLemmas.{Prints-fails, Prints-named}
use Rattle.esc_print.proofs.printer.Printer.put_next_pattern.Goals as goal

pub returns : goal.returns
returns g c =
    Prints-named (λ names. pattern_text names c.args.depth c.args.terms.now)
    c.in_ok-put_blank.ensures c.put_pattern.ensures

pub returns-in_err-put_blank : goal.returns-in_err-put_blank
returns-in_err-put_blank g c =
    Prints-fails (pattern_text c.args.self.now.names.now c.args.depth c.args.terms.now)
    c.from_residual.ensures.0 c.in_err-put_blank.ensures
