use Rattle.std.proofs.Common.{subst}
use Rattle.esc_search.specs.Proving.{ComesTo}
use Rattle.esc_session.proofs.Reports.{unknown_answers}
use Rattle.esc_session.proofs.reporting.open_report.Goals as goal

pub returns-in-Stopped-clause-answers : goal.returns-in-Stopped-clause-answers
returns-in-Stopped-clause-answers c =
    unknown_answers c.args.base.now c.args.search.now c.args.goal c.in-Stopped.cause
    (subst (ComesTo c.args.base.now c.args.search.now) c.in-Stopped.is c.requires.comes)
