use Rattle.std.proofs.Common.{sym, subst}
use Rattle.esc_simplex.specs.KeyedInside.{HasKeys, bound_node}
use Rattle.esc_simplex.proofs.Keyed.{keyed_pop}
use Rattle.esc_simplex.proofs.bindings.Bindings.pop.Goals as goal

pub invariant_of-self-2 : goal.invariant_of-self-2
invariant_of-self-2 c = subst (λ es. HasKeys bound_node c.pop.new.self es) (sym c.pop-2.ensures)
    (keyed_pop bound_node c.self.inside.list c.pop.new.self c.in-Some.newest c.self.inside.index
    c.self.invariant c.in-Some.ensures)
