use Rattle.std.proofs.Common.{◌≡◌, length, sym, subst, ap, ◌∙◌, arith}
use Rattle.esc_egraph.specs.Graph.{Adds, Graph, number_of}
use Rattle.esc_egraph.specs.PartsInside.{graph_in}
use Rattle.esc_egraph.specs.Congruence.{EqualWith, IsLeast, IsMet}
use Rattle.esc_egraph.proofs.graph.EGraph.equate.Goals as goal

pub join-requires-clause-a_is_there : goal.join-requires-clause-a_is_there
join-requires-clause-a_is_there g c = omega (
  arith,
  c.requires.a_is_there,
  ap
      (λ (h : Graph). length h.nodes) (c.index.ensures.graph ∙ c.self.view_is),
)

pub join-requires-clause-b_is_there : goal.join-requires-clause-b_is_there
join-requires-clause-b_is_there g c = omega (
  arith,
  c.requires.b_is_there,
  ap
      (λ (h : Graph). length h.nodes) (c.index.ensures.graph ∙ c.self.view_is),
)

pub join-requires-clause-met : goal.join-requires-clause-met
join-requires-clause-met g c = subst IsMet (sym (c.index.ensures.graph ∙ c.self.view_is))
    c.requires.met

pub returns-clause-others : goal.returns-clause-others
returns-clause-others g c =
    subst (λ (h : Graph). graph_in c.join.new.self
    ≡ record h { merges = c.join.new.self.classes.merges }) (c.index.ensures.graph
    ∙ c.self.view_is) c.join.ensures.others

pub returns-clause-more : goal.returns-clause-more
returns-clause-more g c =
    subst (λ (h : Graph). Adds h.merges c.join.new.self.classes.merges) (c.index.ensures.graph
    ∙ c.self.view_is) c.join.ensures.more

pub returns-clause-least : goal.returns-clause-least
returns-clause-least g c =
    subst (λ (h : Graph). IsLeast h.nodes (EqualWith (number_of h) c.args.a c.args.b)
    (number_of (graph_in c.join.new.self))) (c.index.ensures.graph ∙ c.self.view_is)
    c.in_ok-broken.ensures.least

pub returns-clause-closed : goal.returns-clause-closed
returns-clause-closed g c = (
  λ closed. c.in_ok-broken.ensures.broken.0 (c.state_of.ensures.0 closed),
  λ broken. c.state_of.ensures.1 (c.in_ok-broken.ensures.broken.1 broken),
)

pub returns-clause-met : goal.returns-clause-met
returns-clause-met g c = λ open'.
    record {
      closed = c.in_ok-broken.ensures.closed;
      whole = λ broken. cc (open', c.state_of.ensures.1 (c.in_ok-broken.ensures.broken.1 broken));
    }

pub returns-clause-undo : goal.returns-clause-undo
returns-clause-undo g c = rw (← c.self.view_is, ← c.index.ensures.graph) c.join.ensures.undo
