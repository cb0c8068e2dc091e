use Rattle.std.proofs.Common.{sym}
use Rattle.esc_report.specs.FoundText.{class_line}
use Rattle.esc_report.proofs.Eaches.{each_done, each_failed, each_start, each_step}
use Rattle.esc_report.proofs.found.put_class_lines.Goals as goal

pub classes-init : goal.classes-init
classes-init g c = each_start (class_line c.args.names.now) c.args.classes.now c.args.sink.now

pub returns-in_err-put_class_line : goal.returns-in_err-put_class_line
returns-in_err-put_class_line g c =
    each_failed (class_line c.args.names.now) c.args.classes.now c.classes.class-index
    c.class-item.result
    c.classes-test.true (sym c.class-item.is) c.classes.invariant c.from_residual.ensures.0
    c.in_err-put_class_line.ensures

pub classes-preserved : goal.classes-preserved
classes-preserved g c =
    each_step (class_line c.args.names.now) c.args.classes.now c.classes.class-index
    c.class-item.result
    c.classes-test.true (sym c.class-item.is) c.classes.invariant c.in_ok-put_class_line.ensures

pub returns : goal.returns
returns g c =
    each_done (class_line c.args.names.now) c.args.classes.now c.classes.class-index
    c.classes-test.false
    c.classes.invariant
