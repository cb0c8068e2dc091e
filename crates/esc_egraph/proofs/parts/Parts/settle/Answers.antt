use Rattle.std.proofs.Common.{◌<◌, length, ap, arith, sym, subst, IsTrue, ◌↔◌}
use Rattle.esc_egraph.specs.Graph.{Graph, number_of}
use Rattle.esc_egraph.specs.Congruence.{IsBroken}
use Rattle.esc_egraph.specs.PartsInside.{graph_in}
use Rattle.esc_egraph.proofs.Closing.{IsClosing-both, IsClosing-joins, IsClosing-kept, alike_forced, forced_back}
use Rattle.esc_egraph.proofs.Counting.{united_fewer}
use Rattle.esc_egraph.proofs.Waiting.{settled_united, settled_after, longer_united}
use Rattle.esc_egraph.proofs.parts.Parts.settle.Given.{Over}
use Rattle.esc_egraph.proofs.parts.Parts.settle.Goals as goal
use Rattle.esc_egraph.proofs.parts.Parts.settle.Goals.{After-twin}

there : (g : Over) (c : After-twin g) → c.args.node < length c.twins.self.nodes
there g c = omega (
  arith,
  c.requires.there,
  ap (λ (h : Graph). length h.nodes)
      c.twins.invariant.going.step.others,
)

pub returns-in_err-broken-clause-step : goal.returns-in_err-broken-clause-step
returns-in_err-broken-clause-step g c =
    IsClosing-both g.R.CarriesNodes.carried_node (graph_in c.args.self.now) (graph_in c.twins.self)
    (graph_in c.unite.new.self) _ _ _
    c.twins.invariant.going.step
    (IsClosing-kept g.R.CarriesNodes.carried_node (graph_in c.twins.self)
    (graph_in c.unite.new.self) _ _ c.in_err-broken.ensures.err c.unite.ensures.undo)

pub twins-smaller : goal.twins-smaller
twins-smaller g c =
    let d = (goal.at.twins-smaller g c).After-twin in
    united_fewer (graph_in c.twins.self) (graph_in c.unite.new.self) c.args.node c.in-Some.other
    c.twins.invariant.going.sound.graph (there g d)
    c.in-Some.ensures.there c.in-Some.ensures.apart c.in_ok-broken.ensures.ok

pub twins-preserved : goal.twins-preserved
twins-preserved g c =
    let d = (goal.at.twins-preserved g c).After-twin in
    record {
      going = record {
        sound = c.unite.ensures.sound;
        step = IsClosing-joins g.R.CarriesNodes.carried_node (graph_in c.args.self.now) _
            (graph_in c.twins.self) (graph_in c.unite.new.self) _ _ c.args.node c.in-Some.other
            c.twins.invariant.going.step
            (forced_back c.twins.self.nodes (number_of (graph_in c.twins.self)) c.in-Some.other
            c.args.node
            (alike_forced (graph_in c.twins.self) c.in-Some.other c.args.node
            c.twins.invariant.going.sound.graph c.in-Some.ensures.there (there g d)
            c.in-Some.ensures.alike))
            c.in_ok-broken.ensures.ok c.unite.ensures.undo;
        is_broken = c.in_ok-broken.ensures.broken;
      };
      longer = omega (
        arith,
        c.twins.invariant.longer,
        longer_united c.twins.self c.unite.new.self
            c.args.node c.in-Some.other c.in_ok-broken.ensures.ok,
      );
      settled = λ w low s.
          settled_united c.twins.self c.unite.new.self c.args.node c.twins.invariant.going.sound
          c.unite.ensures.sound c.unite.ensures.table w
          (omega (arith, low, c.twins.invariant.longer)) (c.twins.invariant.settled w low s)
          c.args.node c.in-Some.other c.in_ok-broken.ensures.ok;
    }

pub returns-clause-settled : goal.returns-clause-settled
returns-clause-settled g c =
    let d = (goal.at.returns-clause-settled g c).After-twin in
    λ w low s.
    settled_after c.twins.self c.enter.new.self c.args.node c.twins.invariant.going.sound
    c.enter.ensures.sound (there g d) c.enter.ensures.graph
    c.in_ok-enter.ensures.ok c.in_default.ensures.none w (c.twins.invariant.settled w low s)

pub returns-clause-broken : goal.returns-clause-broken
returns-clause-broken g c =
    subst (λ h. IsTrue c.twins.broken ↔ IsBroken h) (sym c.enter.ensures.graph)
    c.twins.invariant.going.is_broken
