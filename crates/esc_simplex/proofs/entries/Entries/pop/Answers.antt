use Rattle.std.proofs.Common.{sym, subst}
use Rattle.esc_simplex.specs.KeyedInside.{HasKeys, made_key}
use Rattle.esc_simplex.proofs.Keyed.{keyed_pop}
use Rattle.esc_simplex.proofs.entries.Entries.pop.Goals as goal

pub invariant_of-self-2 : goal.invariant_of-self-2
invariant_of-self-2 c = subst (λ es. HasKeys made_key c.pop.new.self es) (sym c.pop-2.ensures)
    (keyed_pop made_key c.self.inside.list c.pop.new.self c.in-Some.newest c.self.inside.index
    c.self.invariant c.in-Some.ensures)
