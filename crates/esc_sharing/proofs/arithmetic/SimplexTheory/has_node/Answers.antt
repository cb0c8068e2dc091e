use Rattle.esc_sharing.proofs.BoundNodes.{some_is_number}
use Rattle.esc_sharing.proofs.arithmetic.SimplexTheory.has_node.Goals as goal

pub returns : goal.returns
returns c = some_is_number c.args.self.now c.args.a c.unknown_of.result c.unknown_of.ensures
    c.is_some.result c.is_some.ensures
