use Rattle.std.proofs.Common.{◌<◌, ◌∙◌, arith}
use Rattle.std.proofs.lemmas.List.Elements.{AllWithin-more_set}
use Rattle.std.specs.Vec.{vec_len, vec_capacity}
use Rattle.esc_rows.proofs.RowLemmas.{map-set_same}
use Rattle.esc_rows.proofs.widening.reserve_entries.Goals as goal

pub returns-in_err-reserve-clause-same : goal.returns-in_err-reserve-clause-same
returns-in_err-reserve-clause-same c =
    map-set_same (λ es. es.items) c.loop-row.rows c.loop-row.row-index c.reserve.new.self _
    c.reserve.ensures.items ∙ c.loop-row.invariant.same

pub loop-row-preserved : goal.loop-row-preserved
loop-row-preserved c = record {
  same = map-set_same (λ es. es.items) c.loop-row.rows c.loop-row.row-index c.reserve.new.self _
      c.reserve.ensures.items ∙ c.loop-row.invariant.same;
  room = AllWithin-more_set c.loop-row.rows c.loop-row.row-index c.reserve.new.self (omega arith)
      (λ es. vec_len es < vec_capacity es) c.loop-row.invariant.room
      (omega (arith, c.in_ok-reserve.ensures.ok));
}
