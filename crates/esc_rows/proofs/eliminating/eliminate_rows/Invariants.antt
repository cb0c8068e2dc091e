use Rattle.std.proofs.Common.{map}
use Rattle.esc_rows.specs.Rows.{eliminated}
use Rattle.esc_rows.proofs.RowLemmas.{RewrittenBelow}
use Rattle.esc_rows.proofs.eliminating.eliminate_rows.Given as goal

-- the rows so far have lost the unknown, but for the one that is kept; the others are as they were
abbrev pub invariant-loop-place : goal.invariant-loop-place
invariant-loop-place l = RewrittenBelow (λ es. eliminated es l.column l.other)
    (map (λ es. es.items) l.initial.rows) (map (λ es. es.items) l.rows) l.kept l.place
