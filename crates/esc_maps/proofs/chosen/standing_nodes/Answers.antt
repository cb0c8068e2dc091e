use Rattle.std.proofs.Common.{◌≡◌, length, subst, arith}
use Rattle.esc_maps.specs.ChosenInside.{StandSoFar}
use Rattle.esc_maps.proofs.Leading.{stands}
use Rattle.esc_maps.proofs.chosen.standing_nodes.Goals as goal

pub returns-clause-stand : goal.returns-clause-stand
returns-clause-stand c =
    let e : c.nodes.index ≡ length c.args.graph.now.nodes = omega arith in
    stands c.args.graph.now c.args.depths.now c.in_ok-leaders.leaders.items c.nodes.standing.items
    c.in_ok-leaders.ensures.led
    (subst (StandSoFar c.args.graph.now c.in_ok-leaders.leaders.items c.nodes.standing.items) e
    c.nodes.invariant)
