use Rattle.std.proofs.Common.{refl}
use Rattle.sharing_cases.proofs.Undoables.{undoable_added}
use Rattle.sharing_cases.proofs.script.Script.add.Goals as goal

pub returns : goal.returns
returns g c = undoable_added g.T.Undoable.undo g.T.Theory.sound g.T.Theory.admits g.T.Theory.numbers
    c.staying_laws.ensures.marks c.args.self.now _ c.args.term.now c.args.side
    c.add_term-added.result
    c.add_term-added.ensures.sound c.add_term-added.ensures.undo refl c.add_term-added.ensures.ends
    c.has_opened-self.ensures c.requires
