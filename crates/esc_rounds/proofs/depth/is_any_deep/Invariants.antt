use Rattle.std.proofs.Common.{◌≡◌, false, take}
use Rattle.std.specs.Prelude.{nat_le, slice_index}
use Rattle.std.specs.List.{list_any}
use Rattle.esc_rounds.proofs.depth.is_any_deep.Given as goal

abbrev pub invariant-nodes : goal.invariant-nodes
invariant-nodes l =
    list_any (λ n. nat_le l.limit (slice_index l.depths n)) (take l.node-index l.nodes) ≡ false
