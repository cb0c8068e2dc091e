use Rattle.std.proofs.Common.{map}
use Rattle.esc_rows.proofs.RowLemmas.{SummedBelow}
use Rattle.esc_rows.proofs.eliminating.eliminate_constants.Given as goal

-- the constants so far are sums, but for the one that is kept; the others are as they were
abbrev pub invariant-loop-place : goal.invariant-loop-place
invariant-loop-place l = SummedBelow (map (λ es. es.items) l.rows) l.column l.constant
    l.initial.constants l.constants l.kept l.place
