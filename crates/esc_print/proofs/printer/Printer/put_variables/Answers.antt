use Rattle.std.proofs.Common.{◌+◌, ◌++◌, arith, subst, sym}
use Rattle.std.specs.Prelude.{Ok, Err}
use Rattle.esc_io.specs.declared.faults.Failed.{Failed}
use Rattle.esc_print.specs.Formulas.{variables_text}
use Rattle.esc_print.specs.Printing.{Prints}
use Rattle.esc_print.specs.Terms.{blank, bound_text}
use Rattle.esc_print.proofs.NoteLemmas.{positive, same_count, variables_failed, variables_first}
use Rattle.esc_print.proofs.NoteLemmas.{variables_none, variables_step}
use Rattle.esc_print.proofs.printer.Printer.put_variables.Goals as goal

pub returns-then-count-eq0 : goal.returns-then-count-eq0
returns-then-count-eq0 g c = variables_none c.args.depth c.args.count c.args.self.now
    c.if-count-eq0.true

pub returns-in_err-put_bound : goal.returns-in_err-put_bound
returns-in_err-put_bound g c =
    let depth = c.args.depth in
    variables_failed depth 1 c.args.count (omega arith) (positive c.args.count c.if-count-eq0.false)
    c.from_residual.ensures.0
    (subst (λ text. Prints {T = Unit {0}} {E = Failed} g.K.Sink.written g.K.Sink.faults
    c.args.self.now c.put_bound.new.self
    (Err c.in_err-put_bound.field-0.0) text) (sym (variables_first depth))
    c.in_err-put_bound.ensures)

pub variables-init : goal.variables-init
variables-init g c =
    record {
      some = omega arith;
      within = positive c.args.count c.if-count-eq0.false;
      printed = subst (λ text. Prints {T = Unit {0}} {E = Failed} g.K.Sink.written g.K.Sink.faults
          c.args.self.now c.put_bound.new.self
          (Ok c.in_ok-put_bound.field-0) text) (sym (variables_first c.args.depth))
          c.in_ok-put_bound.ensures;
    }

pub returns-in_err-put_next_bound : goal.returns-in_err-put_next_bound
returns-in_err-put_next_bound g c =
    let depth = c.args.depth in
    let done = c.variables.done in
    variables_failed depth (done + 1) c.args.count (omega arith)
    (omega (arith, c.variables-test.true)) c.from_residual-in_err-put_next_bound.ensures.0
    (variables_step depth done c.variables.invariant.some c.variables.invariant.printed
    (subst (λ at. Prints {T = Unit {0}} {E = Failed} g.K.Sink.written g.K.Sink.faults
    c.variables.self c.put_next_bound.new.self
    (Err c.in_err-put_next_bound.field-0.0) (blank ++ bound_text at)) c.deeper.ensures
    c.in_err-put_next_bound.ensures))

pub variables-preserved : goal.variables-preserved
variables-preserved g c =
    record {
      some = omega arith;
      within = omega (arith, c.variables-test.true);
      printed = variables_step c.args.depth c.variables.done c.variables.invariant.some
          c.variables.invariant.printed
          (subst (λ at. Prints {T = Unit {0}} {E = Failed} g.K.Sink.written g.K.Sink.faults
          c.variables.self c.put_next_bound.new.self
          (Ok c.in_ok-put_next_bound.field-0) (blank ++ bound_text at)) c.deeper.ensures
          c.in_ok-put_next_bound.ensures);
    }

pub returns : goal.returns
returns g c =
    subst (λ count. Prints {T = Unit {0}} {E = Failed} g.K.Sink.written g.K.Sink.faults
    c.args.self.now c.variables.self
    (Ok (tt {0})) (variables_text c.args.depth count))
    (same_count c.variables.done c.args.count c.variables.invariant.within c.variables-test.false)
    c.variables.invariant.printed
