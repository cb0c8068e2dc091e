use Rattle.esc_top.proofs.Answering.{runs_are_sharp, runs_are_sound}
use Rattle.esc_top.proofs.StatusLemmas.{status_is_due}
use Rattle.esc_top.proofs.laws.run_laws.Goals as goal

pub returns : goal.returns
returns c =
    let reading = c.reading_laws-2.ensures in
    let names = c.reading_laws.ensures in
    let answers = c.answer_laws.ensures in
    record {
      status = status_is_due reading.found_stays reading.fault_stays reading.expression
          reading.either reading.reading;
      sound = runs_are_sound answers.sound names.stay names.numbered;
      sharp = runs_are_sharp answers.sharp names.stay names.numbered;
    }
