use Rattle.std.proofs.Common.{◌++◌, subst, sym}
use Rattle.std.specs.Prelude.{Ok, Err}
use Rattle.esc_io.specs.declared.faults.Failed.{Failed}
use Rattle.esc_print.specs.Formulas.{pattern_text}
use Rattle.esc_print.specs.Printing.{Prints}
use Rattle.esc_print.specs.Terms.{blank}
use Rattle.esc_print.proofs.SpacedLemmas.{spaced_done, spaced_failed, spaced_start, spaced_step}
use Rattle.esc_print.proofs.printer.Printer.put_spaced_patterns.Goals as goal

pub patterns-init : goal.patterns-init
patterns-init g c = spaced_start (λ names. pattern_text names c.args.depth) c.args.patterns.now
    c.args.self.now

pub returns-in_err-put_next_pattern : goal.returns-in_err-put_next_pattern
returns-in_err-put_next_pattern g c =
    spaced_failed (λ names. pattern_text names c.args.depth) c.args.patterns.now
    c.patterns.pattern-index c.pattern-item.result
    c.patterns-test.true (sym c.pattern-item.is) c.patterns.invariant c.from_residual.ensures.0
    (subst (λ terms. Prints {T = Unit {0}} {E = Failed} g.K.Sink.written g.K.Sink.faults
    c.patterns.self c.put_next_pattern.new.self
    (Err c.in_err-put_next_pattern.field-0.0)
    (blank ++ pattern_text c.patterns.self.names.now c.args.depth terms)) c.as_slice.ensures
    c.in_err-put_next_pattern.ensures)

pub patterns-preserved : goal.patterns-preserved
patterns-preserved g c =
    spaced_step (λ names. pattern_text names c.args.depth) c.args.patterns.now
    c.patterns.pattern-index c.pattern-item.result
    c.patterns-test.true (sym c.pattern-item.is) c.patterns.invariant
    (subst (λ terms. Prints {T = Unit {0}} {E = Failed} g.K.Sink.written g.K.Sink.faults
    c.patterns.self c.put_next_pattern.new.self
    (Ok c.in_ok-put_next_pattern.field-0)
    (blank ++ pattern_text c.patterns.self.names.now c.args.depth terms)) c.as_slice.ensures
    c.in_ok-put_next_pattern.ensures)

pub returns : goal.returns
returns g c =
    spaced_done (λ names. pattern_text names c.args.depth) c.args.patterns.now
    c.patterns.pattern-index c.patterns-test.false
    c.patterns.invariant
