use Rattle.std.proofs.Common.{◌+◌}
use Rattle.esc_session.specs.declared.session.Session.{Session}
use Rattle.esc_session.proofs.Answering.{state_rests}
use Rattle.esc_session.proofs.session.Session.answer_goal.Goals as goal

pub returns-in-Ok-clause-answers : goal.returns-in-Ok-clause-answers
returns-in-Ok-clause-answers c =
    let s = c.args.self.now in
    let counted : Session = record s { goals = s.goals + 1 } in
    let told = c.in-Ok.ensures in
    (told.answers c.args.place, state_rests counted c.report.new.self told.rests told.goals)
