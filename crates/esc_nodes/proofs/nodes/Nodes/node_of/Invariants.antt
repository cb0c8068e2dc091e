use Rattle.std.proofs.Common.{◌≡◌, ◌%◌, length}
use Rattle.esc_nodes.specs.Terms.{term_of}
use Rattle.esc_nodes.specs.TableInside.{bucket_at}
use Rattle.esc_term.specs.Digest.{digest}
use Rattle.esc_nodes.proofs.Passing.{IsPassed}
use Rattle.esc_nodes.proofs.nodes.Nodes.node_of.Given as goal

abbrev pub invariant-bucket : goal.invariant-bucket
invariant-bucket l =
    IsPassed (λ k. term_of l.self k ≡ l.term)
    (bucket_at l.self-inside.table) (digest l.term % l.self-inside.table.buckets)
    (length l.self) l.end

abbrev pub decreases-bucket : goal.decreases-bucket
decreases-bucket l = l.end
