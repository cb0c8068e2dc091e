use Rattle.sharing_cases.proofs.Undoables.{newest_stands, undoable_at}
use Rattle.sharing_cases.proofs.script.Script.pop.Goals as goal

pub pop_to-requires-clause-within : goal.pop_to-requires-clause-within
pop_to-requires-clause-within g c = (newest_stands g.T.Undoable.undo g.T.Theory.sound
    g.T.Theory.admits g.T.Theory.numbers
    c.args.self.now c.pop.new.self.items
    c.in-Some.mark c.in-Some.ensures.items c.requires).within

pub pop_to-requires-clause-undoable : goal.pop_to-requires-clause-undoable
pop_to-requires-clause-undoable g c = (newest_stands g.T.Undoable.undo g.T.Theory.sound
    g.T.Theory.admits g.T.Theory.numbers
    c.args.self.now c.pop.new.self.items
    c.in-Some.mark c.in-Some.ensures.items c.requires).rewinds

pub returns : goal.returns
returns g c = undoable_at g.T.Undoable.undo g.T.Theory.sound g.T.Theory.admits g.T.Theory.numbers
    g.met.T.Theory.back_sound c.args.self.now _ c.in-Some.mark c.in-Some.ensures.items
    c.pop_to.ensures.rewound c.pop_to.ensures.records c.requires
