use Rattle.esc_sharing.proofs.Staying.{mark_stays, promise_stays}
use Rattle.esc_sharing.proofs.laws.staying_laws.Goals as goal

pub returns-clause-same : goal.returns-clause-same
returns-clause-same g c =
    promise_stays g.T.Undoable.undo g.met.T.Undoable.lawful g.T.Theory.sound g.T.Theory.admits
    g.T.Theory.numbers g.met.T.Theory.same_admits g.met.T.Theory.same_numbers
    g.met.T.Theory.back_sound

pub returns-clause-marks : goal.returns-clause-marks
returns-clause-marks g c =
    mark_stays g.T.Undoable.undo g.met.T.Undoable.lawful g.T.Theory.sound g.T.Theory.admits
    g.T.Theory.numbers g.met.T.Theory.same_admits g.met.T.Theory.same_numbers
    g.met.T.Theory.back_sound
