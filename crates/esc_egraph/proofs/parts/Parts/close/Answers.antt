use Rattle.std.proofs.Common.{◌≤◌, length, refl, ap, arith}
use Rattle.esc_egraph.specs.Graph.{Graph}
use Rattle.esc_egraph.specs.PartsInside.{graph_in}
use Rattle.esc_egraph.proofs.Counting.{fewer_merges}
use Rattle.esc_egraph.proofs.Over.{over_none}
use Rattle.esc_egraph.proofs.Settled.{settled_closed, settled_whole}
use Rattle.esc_egraph.proofs.Sound.{sound_whole}
use Rattle.esc_egraph.proofs.Waiting.{Going-starts, Going-on, longer_step}
use Rattle.esc_egraph.proofs.Closing.{IsClosing-both}
use Rattle.esc_egraph.proofs.parts.Parts.close.Goals as goal

pub merges-init : goal.merges-init
merges-init g c = record {
  going = Going-starts g.R.CarriesNodes.carried_node c.args.self.now c.args.trail.now.records
      c.args.broken c.requires.sound c.requires.broken;
  within = c.requires.start;
  settled = c.requires.settled;
}

pub merges-smaller : goal.merges-smaller
merges-smaller g c =
    omega (
      arith,
      ap (λ (h : Graph). length h.nodes) c.settle_moved.ensures.step.others,
      fewer_merges (length c.merges.self.nodes) c.merges.self.classes.merges
          c.merges.invariant.going.sound.graph.merged,
      c.merges-test.true,
      ap length c.merges-in-merges.ensures,
    )

pub merges-preserved : goal.merges-preserved
merges-preserved g c = record {
  going = Going-on g.R.CarriesNodes.carried_node c.args.self.now c.merges.self
      c.settle_moved.new.self _ _ _ c.merges.broken c.in_ok-broken.broken
      c.merges.invariant.going c.settle_moved.ensures.sound c.settle_moved.ensures.step
      c.in_ok-broken.ensures.broken;
  within = omega (
    arith,
    c.merges-test.true,
    ap length c.merges-in-merges.ensures,
    longer_step g.R.CarriesNodes.carried_node (graph_in c.merges.self)
        (graph_in c.settle_moved.new.self) _ _ c.settle_moved.ensures.step,
  );
  settled = c.in_ok-broken.ensures.settled;
}

pub returns-clause-sound : goal.returns-clause-sound
returns-clause-sound g c =
    let past : length c.merges.self.classes.merges
    ≤ c.merges.merge = omega (arith, c.merges-test.false, ap length c.merges-in-merges.ensures)
    in
    sound_whole c.merges.self _ c.merges.invariant.going.sound refl refl refl refl refl refl
    refl refl
    (λ w. settled_whole c.merges.self.nodes c.merges.self.classes.merges c.merges.self.table _
    (λ n nl waits. over_none c.merges.self c.merges.merge n past waits) c.merges.invariant.settled)

pub returns-clause-closed : goal.returns-clause-closed
returns-clause-closed g c =
    let past : length c.merges.self.classes.merges
    ≤ c.merges.merge = omega (arith, c.merges-test.false, ap length c.merges-in-merges.ensures)
    in
    settled_closed c.merges.self.nodes c.merges.self.classes.merges c.merges.self.table _
    (λ n nl waits. over_none c.merges.self c.merges.merge n past waits) c.merges.invariant.settled

pub returns-in_err-broken-clause-step : goal.returns-in_err-broken-clause-step
returns-in_err-broken-clause-step g c =
    IsClosing-both g.R.CarriesNodes.carried_node (graph_in c.args.self.now) (graph_in c.merges.self)
    (graph_in c.settle_moved.new.self) _ _ _
    c.merges.invariant.going.step c.settle_moved.ensures.step
