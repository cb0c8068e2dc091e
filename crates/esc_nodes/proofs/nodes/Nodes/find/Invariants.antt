use Rattle.std.proofs.Common.{◌≡◌, ◌%◌, length}
use Rattle.esc_nodes.specs.Nodes.{shape_at}
use Rattle.esc_nodes.specs.TableInside.{bucket_at}
use Rattle.esc_nodes.specs.DigestsInside.{shape_digest}
use Rattle.esc_nodes.proofs.Passing.{IsPassed}
use Rattle.esc_nodes.proofs.nodes.Nodes.find.Given as goal

abbrev pub invariant-bucket : goal.invariant-bucket
invariant-bucket l =
    IsPassed (λ k. shape_at l.self k ≡ record { top = l.top; args = l.args })
    (bucket_at l.self-inside.table) (shape_digest l.self l.top l.args % l.self-inside.table.buckets)
    (length l.self) l.end

abbrev pub decreases-bucket : goal.decreases-bucket
decreases-bucket l = l.end
