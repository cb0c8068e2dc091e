use Rattle.std.proofs.Common.{arith}
use Rattle.esc_rows.proofs.RowLemmas.{same_from_solved}
use Rattle.esc_rows.proofs.solving.solve.Goals as goal

pub returns : goal.returns
returns c =
    same_from_solved c.args.row.now c.args.column c.loop-place.row c.loop-place.auto.row
    (λ j inside. c.loop-place.invariant.written j (omega arith))
