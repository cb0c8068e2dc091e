use Rattle.std.proofs.Common.{◌≡◌, ◌-◌, [], ◌∷◌, ◌++◌, length, take, map, ap, subst, ◌∙◌, arith}
use Rattle.esc_nodes.specs.Nodes.{AreTerms}
use Rattle.esc_nodes.specs.NodesInside.{AreSpans, nodes_of, shape_in}
use Rattle.esc_nodes.proofs.Digests.{digests-fewer, count_digests}
use Rattle.esc_nodes.proofs.Shapes.{AreTerms-take}
use Rattle.esc_nodes.proofs.Spans.{AreSpans-pop, shapes-pop}
use Rattle.esc_nodes.proofs.nodes.Nodes.pop.Goals as goal
use Rattle.esc_nodes.proofs.nodes.Nodes.pop.Goals.{After-truncate}

spans : (c : After-truncate) → AreSpans c.self.inside.args.items (c.pop.new.self.items
    ++ (c.in-Some.entry ∷ []))
spans c = rw c.in-Some.ensures.items at c.self.invariant.spans

fewer : (c : After-truncate) → map (shape_in c.truncate.new.self.items) c.pop.new.self.items
    ≡ take (length (nodes_of c.self.inside) - 1) (nodes_of c.self.inside)
fewer c = rw (c.truncate.ensures.items, c.in-Some.ensures.items)
    (shapes-pop c.self.inside.args.items c.pop.new.self.items c.in-Some.entry (spans c))

terms : (c : After-truncate) → AreTerms
    (map (shape_in c.truncate.new.self.items) c.pop.new.self.items)
terms c = AreTerms-take (nodes_of c.self.inside) _ (length (nodes_of c.self.inside) - 1)
    c.self.invariant.terms (omega arith) (fewer c)

pub invariant_of-self : goal.invariant_of-self
invariant_of-self c =
    let d = (goal.at.invariant_of-self c).After-truncate in
    record {
      spans = rw c.truncate.ensures.items (AreSpans-pop c.self.inside.args.items
          c.pop.new.self.items c.in-Some.entry (spans d));
      terms = terms d;
      filed = c.pop-2.ensures ∙ digests-fewer (nodes_of c.self.inside) _ c.self.inside.table.digests
          c.self.invariant.filed (fewer d);
    }

pub pop-requires-2 : goal.pop-requires-2
pop-requires-2 c =
    omega (
      arith,
      c.requires,
      ap length c.self.view_is,
      ap length c.self.invariant.filed,
      count_digests (nodes_of c.self.inside),
    )

pub returns-clause-rest : goal.returns-clause-rest
returns-clause-rest c =
    subst (λ ns. map (shape_in c.truncate.new.self.items) c.pop.new.self.items
    ≡ take (length ns - 1) ns) c.self.view_is
    (fewer (goal.at.returns-clause-rest c).After-truncate)

pub returns-clause-terms : goal.returns-clause-terms
returns-clause-terms c = terms (goal.at.returns-clause-terms c).After-truncate
