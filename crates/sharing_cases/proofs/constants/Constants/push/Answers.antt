use Rattle.esc_trail.proofs.Noting.{notes_one}
use Rattle.sharing_cases.specs.ConstantTerms.{constants_undo}
use Rattle.sharing_cases.specs.declared.constants.ConstantRec.TheVariants.{Added}
use Rattle.sharing_cases.proofs.ConstantUndo.{push_can, push_undone, pushed}
use Rattle.sharing_cases.proofs.constants.Constants.push.Goals as goal

pub returns-clause-undo : goal.returns-clause-undo
returns-clause-undo g c =
    let v = c.args.self.now in
    let is = c.in_ok-push.ensures.ok in
    notes_one constants_undo g.R.Carries.carried c.args.trail.now.records
    c.note.new.self.records v (pushed v c.args.constant c.push.new.self is) Added (cc)
    (push_can v c.args.constant c.push.new.self is)
    (push_undone v c.args.constant c.push.new.self is)
