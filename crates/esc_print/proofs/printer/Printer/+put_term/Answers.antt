use Rattle.std.proofs.Common.{◌++◌, sym}
use Rattle.esc_print.specs.Terms.{closing, head_text, spaced, term_text}
use Rattle.esc_print.proofs.PrintingLemmas.{Prints-fails, Prints-named, Prints-then}
use Rattle.esc_print.proofs.SpacedLemmas.{spaced_done, spaced_failed, spaced_start, spaced_step}
use Rattle.esc_print.proofs.printer.Printer.+put_term.Goals as goal

pub put_spaced_terms-terms-init : goal.put_spaced_terms-terms-init
put_spaced_terms-terms-init g t c =
    spaced_start (λ names. term_text names c.args.depth) c.args.terms.now c.args.self.now

pub put_spaced_terms-returns-in_err-put_next_term
    : goal.put_spaced_terms-returns-in_err-put_next_term
put_spaced_terms-returns-in_err-put_next_term g t c =
    spaced_failed (λ names. term_text names c.args.depth) c.args.terms.now c.terms.term-index
    c.term-item.result
    c.terms-test.true (sym c.term-item.is) c.terms.invariant c.from_residual.ensures.0
    c.in_err-put_next_term.ensures

pub put_spaced_terms-terms-preserved : goal.put_spaced_terms-terms-preserved
put_spaced_terms-terms-preserved g t c =
    spaced_step (λ names. term_text names c.args.depth) c.args.terms.now c.terms.term-index
    c.term-item.result
    c.terms-test.true (sym c.term-item.is) c.terms.invariant c.in_ok-put_next_term.ensures

pub put_spaced_terms-returns : goal.put_spaced_terms-returns
put_spaced_terms-returns g t c =
    spaced_done (λ names. term_text names c.args.depth) c.args.terms.now c.terms.term-index
    c.terms-test.false c.terms.invariant

pub put_applied-returns : goal.put_applied-returns
put_applied-returns g t c =
    let terms = c.args.args.now in
    let depth = c.args.depth in
    Prints-named (λ names. head_text names c.args.head
    ++ (spaced (term_text names depth) terms ++ closing))
    c.in_ok-put_opening.ensures
    (Prints-named (λ names. spaced (term_text names depth) terms ++ closing)
    c.in_ok-put_head.ensures c.put_to_end.ensures)

pub put_applied-returns-in_err-put_opening : goal.put_applied-returns-in_err-put_opening
put_applied-returns-in_err-put_opening g t c =
    let names = c.args.self.now.names.now in
    Prints-fails (head_text names c.args.head
    ++ (spaced (term_text names c.args.depth) c.args.args.now ++ closing))
    c.from_residual.ensures.0 c.in_err-put_opening.ensures

pub put_applied-returns-in_err-put_head : goal.put_applied-returns-in_err-put_head
put_applied-returns-in_err-put_head g t c =
    let rest = spaced (term_text c.args.self.now.names.now c.args.depth) c.args.args.now
    ++ closing in
    Prints-named (λ names. head_text names c.args.head ++ rest) c.in_ok-put_opening.ensures
    (Prints-fails rest c.from_residual-in_err-put_head.ensures.0 c.in_err-put_head.ensures)

pub put_to_end-returns : goal.put_to_end-returns
put_to_end-returns g t c =
    Prints-then c.in_ok-put_spaced_terms.ensures c.put_closing.ensures

pub put_to_end-returns-in_err-put_spaced_terms : goal.put_to_end-returns-in_err-put_spaced_terms
put_to_end-returns-in_err-put_spaced_terms g t c =
    Prints-fails closing c.from_residual.ensures.0 c.in_err-put_spaced_terms.ensures

pub put_next_term-returns : goal.put_next_term-returns
put_next_term-returns g t c =
    Prints-named (λ names. term_text names c.args.depth c.args.term.now)
    c.in_ok-put_blank.ensures c.put_term_at.ensures

pub put_next_term-returns-in_err-put_blank : goal.put_next_term-returns-in_err-put_blank
put_next_term-returns-in_err-put_blank g t c =
    Prints-fails (term_text c.args.self.now.names.now c.args.depth c.args.term.now)
    c.from_residual.ensures.0 c.in_err-put_blank.ensures
