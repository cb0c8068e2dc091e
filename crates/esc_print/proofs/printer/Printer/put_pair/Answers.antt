use Rattle.std.proofs.Common.{◌++◌}
use Rattle.esc_print.specs.Terms.{blank, closing, term_text}
use Rattle.esc_print.proofs.PrintingLemmas.{Prints-both, Prints-both-fails, Prints-fails}
use Rattle.esc_print.proofs.printer.Printer.put_pair.Goals as goal

pub returns : goal.returns
returns g c =
    Prints-both (λ names. term_text names c.args.depth c.args.left.now)
    (λ names. term_text names c.args.depth c.args.right.now)
    c.in_ok-put_text.ensures c.in_ok-put_next_term.ensures c.put_last_term.ensures

pub returns-in_err-put_next_term : goal.returns-in_err-put_next_term
returns-in_err-put_next_term g c =
    let depth = c.args.depth in
    Prints-both-fails (λ names. term_text names depth c.args.left.now)
    (term_text c.args.self.now.names.now depth c.args.right.now)
    c.from_residual-in_err-put_next_term.ensures.0 c.in_ok-put_text.ensures
    c.in_err-put_next_term.ensures

pub returns-in_err-put_text : goal.returns-in_err-put_text
returns-in_err-put_text g c =
    let names = c.args.self.now.names.now in
    let left = term_text names c.args.depth c.args.left.now in
    let right = term_text names c.args.depth c.args.right.now in
    Prints-fails ((blank ++ left) ++ ((blank ++ right) ++ closing)) c.from_residual.ensures.0
    c.in_err-put_text.ensures
