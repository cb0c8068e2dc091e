use Rattle.std.proofs.Common.{length}
use Rattle.esc_egraph.specs.Graph.{number_of}
use Rattle.esc_maps.proofs.Writing.{class_there, has_shallower_iff}
use Rattle.esc_maps.proofs.writes.stands_for_writes.Goals as goal

pub has_shallower-requires-clause-nodes : goal.has_shallower-requires-clause-nodes
has_shallower-requires-clause-nodes c =
    class_there (length c.args.graph.now.nodes) (number_of c.args.graph.now) c.args.node
    c.class_of.result.now c.class_of.ensures

pub returns : goal.returns
returns c =
    has_shallower_iff c.args.graph.now c.args.depths.now c.args.node c.class_of.result.now
    c.has_shallower.result c.requires.there c.requires.closed
    (c.is_write.ensures.0 c.if-not-is_write.false) c.class_of.ensures c.has_shallower.ensures
