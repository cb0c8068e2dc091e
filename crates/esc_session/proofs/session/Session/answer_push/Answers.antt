use Rattle.std.proofs.Common.{None}
use Rattle.esc_session.proofs.Replying.{assumed_done, lacking_memory}
use Rattle.esc_session.proofs.session.Session.answer_push.Goals as goal

pub returns-in-Ok-clause-answers : goal.returns-in-Ok-clause-answers
returns-in-Ok-clause-answers c =
    assumed_done c.args.self.now c.push.new.self c.args.place None c.args.formulas
    c.push.ensures.leaves c.in-Ok.ensures.joins

pub returns-in-Err-clause-answers : goal.returns-in-Err-clause-answers
returns-in-Err-clause-answers c =
    lacking_memory c.args.self.now c.push.new.self c.args.place None c.args.formulas
    c.push.ensures.leaves c.in-Err.ensures.rests
