use Rattle.std.proofs.Common.{◌++◌, subst}
use Rattle.std.specs.Prelude.{codes}
use Rattle.esc_io.specs.Putting.{Delivers}
use Rattle.esc_report.specs.Text.{cause_line}
use Rattle.esc_report.proofs.put.put_cause_line.Goals as goal

pub returns : goal.returns
unfolding cause_line
returns g c =
    subst (λ text. Delivers g.K.Sink.written g.K.Sink.faults c.args.sink.now
    c.put_three.new.sink c.put_three.result (codes ": Unknown (" ++ (text ++ codes ").\n")))
    c.cause_text.ensures c.put_three.ensures
