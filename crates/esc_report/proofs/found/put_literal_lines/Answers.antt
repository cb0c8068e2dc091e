use Rattle.std.proofs.Common.{sym}
use Rattle.esc_report.specs.FoundText.{literal_line}
use Rattle.esc_report.proofs.Eaches.{each_done, each_failed, each_start, each_step}
use Rattle.esc_report.proofs.found.put_literal_lines.Goals as goal

pub literals-init : goal.literals-init
literals-init g c = each_start (literal_line c.args.names.now) c.args.literals.now c.args.sink.now

pub returns-in_err-put_literal_line : goal.returns-in_err-put_literal_line
returns-in_err-put_literal_line g c =
    each_failed (literal_line c.args.names.now) c.args.literals.now c.literals.literal-index
    c.literal-item.result
    c.literals-test.true (sym c.literal-item.is) c.literals.invariant c.from_residual.ensures.0
    c.in_err-put_literal_line.ensures

pub literals-preserved : goal.literals-preserved
literals-preserved g c =
    each_step (literal_line c.args.names.now) c.args.literals.now c.literals.literal-index
    c.literal-item.result
    c.literals-test.true (sym c.literal-item.is) c.literals.invariant
    c.in_ok-put_literal_line.ensures

pub returns : goal.returns
returns g c =
    each_done (literal_line c.args.names.now) c.args.literals.now c.literals.literal-index
    c.literals-test.false
    c.literals.invariant
