use Rattle.std.proofs.Common.{◌≡◌, ◌<◌, map}
use Rattle.std.specs.List.{AllWithin}
use Rattle.std.specs.Vec.{vec_len, vec_capacity}
use Rattle.esc_rows.proofs.widening.reserve_entries.Given as goal

-- the entries are as they were, and the rows so far have room
abbrev pub invariant-loop-row : goal.invariant-loop-row
invariant-loop-row l = record {
  same : map (λ es. es.items) l.rows ≡ map (λ es. es.items) l.initial.rows;
  room : AllWithin (λ es. vec_len es < vec_capacity es) l.rows 0 l.row-index;
}
