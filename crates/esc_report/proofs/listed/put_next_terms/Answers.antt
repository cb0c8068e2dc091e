use Rattle.std.proofs.Common.{◌++◌, sym}
use Rattle.esc_print.specs.Terms.{blank, spaced, term_text}
use Rattle.esc_report.proofs.Eaches.{each_done, each_failed, each_start, each_step}
use Rattle.esc_report.proofs.listed.put_next_terms.Goals as goal

pub terms-init : goal.terms-init
terms-init g c = each_start (λ t. blank ++ term_text c.args.names.now 0 t) c.args.terms.now
    c.args.sink.now

pub returns-in_err-put_next_term : goal.returns-in_err-put_next_term
unfolding spaced
returns-in_err-put_next_term g c =
    each_failed (λ t. blank ++ term_text c.args.names.now 0 t) c.args.terms.now c.terms.term-index
    c.term-item.result
    c.terms-test.true (sym c.term-item.is) c.terms.invariant c.from_residual.ensures.0
    c.in_err-put_next_term.ensures

pub terms-preserved : goal.terms-preserved
terms-preserved g c =
    each_step (λ t. blank ++ term_text c.args.names.now 0 t) c.args.terms.now c.terms.term-index
    c.term-item.result
    c.terms-test.true (sym c.term-item.is) c.terms.invariant c.in_ok-put_next_term.ensures

pub returns : goal.returns
unfolding spaced
returns g c =
    each_done (λ t. blank ++ term_text c.args.names.now 0 t) c.args.terms.now c.terms.term-index
    c.terms-test.false
    c.terms.invariant
