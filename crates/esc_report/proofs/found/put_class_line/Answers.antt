use Rattle.std.proofs.Common.{◌++◌, subst}
use Rattle.std.specs.Prelude.{codes}
use Rattle.esc_io.specs.Putting.{Delivers}
use Rattle.esc_report.specs.FoundText.{class_line, value_text}
use Rattle.esc_report.specs.Listed.{terms_text}
use Rattle.esc_report.proofs.found.put_class_line.Goals as goal

pub returns : goal.returns
unfolding class_line
returns g c =
    subst (λ terms. Delivers g.K.Sink.written g.K.Sink.faults c.args.sink.now
    c.put_class_between.new.sink c.put_class_between.result
    (codes "    " ++ (terms_text c.args.names.now terms
    ++ (value_text c.args.class.now.value ++ codes "\n"))))
    c.as_slice-terms.ensures c.put_class_between.ensures
