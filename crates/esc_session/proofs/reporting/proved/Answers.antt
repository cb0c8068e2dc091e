use Rattle.std.proofs.Common.{subst}
use Rattle.std.specs.Prelude.{IfOk}
use Rattle.esc_options.specs.declared.options.Limits.{Limits}
use Rattle.esc_session.specs.ReportingInside.{AnswersBase}
use Rattle.esc_session.proofs.Told.{tally_told}
use Rattle.esc_session.proofs.reporting.proved.Goals as goal

pub returns-in_default : goal.returns-in_default
returns-in_default c =
    let told = c.open_report.ensures in
    record {
      answers = subst (λ (limits : Limits). IfOk c.open_report.result
          (AnswersBase limits c.args.base.now c.args.goal)) c.prove.ensures.limits told.answers;
      formulas = told.formulas;
      given = c.prove.ensures.given;
      levels = c.prove.ensures.levels;
      tally = tally_told c.open_report.result c.prove.result c.args.search.now.tally
          c.prove.new.self.tally told.told c.prove.ensures.tally;
    }
