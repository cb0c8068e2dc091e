use Rattle.std.proofs.Common.{◌≡◌, length, ap, arith, ◌∙◌}
use Rattle.esc_index.specs.Places.{entry_at}
use Rattle.esc_egraph.specs.Graph.{Graph}
use Rattle.esc_egraph.specs.PartsInside.{graph_in}
use Rattle.esc_egraph.proofs.Over.{IsSettling-starts, IsSettling-step, over_done, use_low}
use Rattle.esc_egraph.proofs.Waiting.{Going-starts, Going-on, longer_step, same_uses}
use Rattle.esc_egraph.proofs.Closing.{IsClosing-both}
use Rattle.esc_egraph.proofs.parts.Parts.settle_over.Goals as goal

pub places-init : goal.places-init
places-init g c = record {
  going = Going-starts g.R.CarriesNodes.carried_node c.args.self.now c.args.trail.now.records
      c.args.broken c.requires.sound c.requires.broken;
  bound = omega arith;
  has = λ l. absurd (omega (arith, l));
  settling = rw c.len-end.ensures (IsSettling-starts c.args.self.now c.args.member
      c.requires.sound);
}

pub settle-requires-clause-there : goal.settle-requires-clause-there
settle-requires-clause-there g c =
    rw c.node-node.ensures (use_low c.places.self c.places.invariant.going.sound c.in-Some.place
    (omega (arith, c.in-Some.ensures.some.before, c.places.invariant.bound)))

pub places-preserved : goal.places-preserved
places-preserved g c =
    let nodes : c.settle.new.self.nodes ≡ c.places.self.nodes = ap (λ (h : Graph). h.nodes)
    c.settle.ensures.step.others in
    let uses : c.settle.new.self.uses ≡ c.places.self.uses = same_uses c.places.self
    c.settle.new.self c.places.invariant.going.sound c.settle.ensures.sound nodes in
    record {
      going = Going-on g.R.CarriesNodes.carried_node c.args.self.now c.places.self c.settle.new.self
          _ _ _ c.places.broken c.in_ok-broken.broken
          c.places.invariant.going c.settle.ensures.sound c.settle.ensures.step
          c.in_ok-broken.ensures.broken;
      bound = omega (
        arith,
        ap length uses,
        c.in-Some.ensures.some.before,
        c.places.invariant.bound,
      );
      has = λ l. ap (λ us. (entry_at us c.in-Some.place).0) uses
          ∙ (c.in-Some.ensures.some.has ∙ c.index.ensures);
      settling = IsSettling-step c.args.self.now c.places.self c.settle.new.self c.args.member
          c.places.end c.in-Some.place c.node-node.result
          c.places.invariant.settling (rw c.index.ensures at c.in-Some.ensures.some)
          c.node-node.ensures
          (longer_step g.R.CarriesNodes.carried_node (graph_in c.places.self)
          (graph_in c.settle.new.self) _ _ c.settle.ensures.step)
          c.in_ok-broken.ensures.settled;
    }

pub returns-clause-settled : goal.returns-clause-settled
returns-clause-settled g c =
    λ members merge low s.
    over_done c.places.self members c.args.member c.places.end merge
    (rw c.index.ensures at c.in_default.ensures.none)
    (c.places.invariant.settling.kept members merge low s)

pub returns-in_err-broken-clause-step : goal.returns-in_err-broken-clause-step
returns-in_err-broken-clause-step g c =
    IsClosing-both g.R.CarriesNodes.carried_node (graph_in c.args.self.now) (graph_in c.places.self)
    (graph_in c.settle.new.self) _ _ _
    c.places.invariant.going.step c.settle.ensures.step
