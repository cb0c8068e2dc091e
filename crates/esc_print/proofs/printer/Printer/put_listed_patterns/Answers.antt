use Rattle.std.proofs.Common.{◌++◌}
use Rattle.esc_print.specs.Formulas.{pattern_text}
use Rattle.esc_print.specs.Terms.{closing, spaced}
use Rattle.esc_print.proofs.PrintingLemmas.{Prints-fails, Prints-listed, Prints-listed-fails}
use Rattle.esc_print.proofs.printer.Printer.put_listed_patterns.Goals as goal

pub returns : goal.returns
returns g c =
    Prints-listed (λ names. spaced (pattern_text names c.args.depth) c.args.patterns.now)
    c.in_ok-put_text.ensures
    c.in_ok-put_spaced_patterns.ensures c.put_closing.ensures

pub returns-in_err-put_text : goal.returns-in_err-put_text
returns-in_err-put_text g c =
    let names = c.args.self.now.names.now in
    Prints-fails (spaced (pattern_text names c.args.depth) c.args.patterns.now ++ closing)
    c.from_residual.ensures.0 c.in_err-put_text.ensures

pub returns-in_err-put_spaced_patterns : goal.returns-in_err-put_spaced_patterns
returns-in_err-put_spaced_patterns g c =
    Prints-listed-fails (λ names. spaced (pattern_text names c.args.depth) c.args.patterns.now)
    c.from_residual-in_err-put_spaced_patterns.ensures.0 c.in_ok-put_text.ensures
    c.in_err-put_spaced_patterns.ensures
