use Rattle.std.proofs.Common.{arith}
use Rattle.esc_index.proofs.Threading.{IsHeld-fewer}
use Rattle.esc_index.proofs.index.Index.pop.Goals as goal

pub invariant_of-self : goal.invariant_of-self
invariant_of-self c =
    IsHeld-fewer c.self.inside.entries.items c.self.inside.heads.items c.self.inside.next.items
    c.self.invariant
    c.pop.new.self.items c.in-Some.last c.in-Some.ensures.items c.pop-2.new.self.items
    c.in-Some-pop.head c.in-Some-pop.ensures.items
    c.len.result (omega (arith, c.len.ensures, c.self.inside.heads.ok.0))
