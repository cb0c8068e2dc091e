use Rattle.esc_answers.proofs.Told.{answers_are_sharp, answers_are_sound}
use Rattle.esc_answers.proofs.laws.answer_laws.Goals as goal

pub returns : goal.returns
returns c =
    let goals = c.goal_laws.ensures in
    let plain = c.plain_laws.ensures in
    let verdict = c.verdict_laws.ensures in
    record {
      sound = answers_are_sound plain.valid goals.plain;
      sharp = answers_are_sharp plain.valid verdict.plain verdict.splits goals.free;
    }
