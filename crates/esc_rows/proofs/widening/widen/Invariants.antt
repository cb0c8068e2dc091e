use Rattle.std.proofs.Common.{◌<◌, [], ◌∷◌, ◌++◌, map, length}
use Rattle.std.specs.List.{AllWithin}
use Rattle.std.specs.Vec.{vec_len, vec_capacity}
use Rattle.esc_frac.specs.Rational.{zero_ℚ}
use Rattle.esc_rows.proofs.RowLemmas.{RewrittenBelow}
use Rattle.esc_rows.proofs.widening.widen.Given as goal

-- the rows so far are wider, and the others are as they were and have room
abbrev pub invariant-loop-row : goal.invariant-loop-row
invariant-loop-row l = record {
  rows : RewrittenBelow (λ es. es ++ zero_ℚ ∷ []) (map (λ es. es.items) l.initial.rows)
      (map (λ es. es.items) l.rows) (length l.initial.rows) l.row-index;
  room : AllWithin (λ es. vec_len es < vec_capacity es) l.rows l.row-index (length l.rows);
}
