use Rattle.std.proofs.Common.{subst, sym}
use Rattle.esc_io.specs.Putting.{Delivers}
use Rattle.esc_report.specs.Text.{memory_text}
use Rattle.esc_report.proofs.put.put_memory.Goals as goal

pub returns-in-Some : goal.returns-in-Some
returns-in-Some g c =
    subst (λ goal. Delivers g.K.Sink.written g.K.Sink.faults c.args.sink.now
    c.put_goal_line.new.sink c.put_goal_line.result
    (memory_text goal c.args.place)) (sym c.in-Some.is) c.put_goal_line.ensures
