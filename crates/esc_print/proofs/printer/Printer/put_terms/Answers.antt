use Rattle.std.proofs.Common.{◌++◌}
use Rattle.esc_print.specs.Terms.{closing, spaced, term_text}
use Rattle.esc_print.proofs.PrintingLemmas.{Prints-fails, Prints-named}
use Rattle.esc_print.proofs.printer.Printer.put_terms.Goals as goal

pub returns : goal.returns
returns g c =
    Prints-named (λ names. spaced (term_text names c.args.depth) c.args.terms.now ++ closing)
    c.in_ok-put_text.ensures c.put_to_end.ensures

pub returns-in_err-put_text : goal.returns-in_err-put_text
returns-in_err-put_text g c =
    let names = c.args.self.now.names.now in
    Prints-fails (spaced (term_text names c.args.depth) c.args.terms.now ++ closing)
    c.from_residual.ensures.0 c.in_err-put_text.ensures
