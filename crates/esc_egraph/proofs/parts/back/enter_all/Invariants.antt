use Rattle.std.proofs.Common.{◌≡◌, ℕ, ◌<◌, length, All}
use Rattle.esc_nodes.specs.Nodes.{shape_at}
use Rattle.esc_egraph.specs.PartsInside.{IsMatch}
use Rattle.esc_egraph.proofs.parts.back.enter_all.Given as goal

abbrev pub invariant-nodes : goal.invariant-nodes
invariant-nodes l = record {
  count : length l.table ≡ l.index;
  low : All (λ e. e.1 < length l.nodes) l.table;
  own : (n : ℕ) → n < l.index → IsMatch l.nodes l.classes.merges l.table (shape_at l.nodes n) n;
}
