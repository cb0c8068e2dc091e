use Rattle.std.proofs.Common.{rules, map, ap, sym, ◌∙◌}
use Rattle.esc_nodes.specs.NodesInside.{shape_in}
use Rattle.esc_nodes.specs.DigestsInside.{digests}
use Rattle.esc_nodes.proofs.Digests.{digests-none}
use Rattle.esc_nodes.proofs.Spans.{AreSpans-none}
use Rattle.esc_nodes.proofs.nodes.Nodes.new.Goals as goal

pub invariant_of-result : goal.invariant_of-result
invariant_of-result c = record {
  spans = rw c.new.ensures.items (AreSpans-none c.new-2.result.items);
  terms = search rules;
  filed = c.new-3.ensures
      ∙ sym (ap (λ es. digests (map (shape_in c.new-2.result.items) es)) c.new.ensures.items
      ∙ digests-none);
}
