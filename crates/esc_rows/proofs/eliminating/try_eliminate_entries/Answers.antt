use Rattle.std.proofs.Common.{◌<◌, length, arith, below_more}
use Rattle.esc_rows.proofs.RowLemmas.{element_is, same_step}
use Rattle.esc_rows.proofs.eliminating.try_eliminate_entries.Goals as goal

pub loop-place-preserved : goal.loop-place-preserved
loop-place-preserved c =
    let inside : c.args.column < length c.args.row.now = omega arith in
    let factor = element_is c.args.row.now _ _ inside c.index-row-column.is in
    below_more _ _ c.loop-place.invariant (same_step factor c.entry_without.ensures
    c.fitting_entry.ensures c.in_ok-step.ensures.0)
