use Rattle.std.proofs.Common.{ap}
use Rattle.esc_tableau.specs.Table.{Table}
use Rattle.arithmetic_cases.proofs.Newest.{newest_owns}
use Rattle.arithmetic_cases.proofs.feasible.Feasible.trial.Goals as goal

pub drop_last-requires : goal.drop_last-requires
drop_last-requires c =
    let made = c.in-Ok.ensures.ends.2 in
    newest_owns c.add_row.new.self _ _ (ap (λ (t : Table). t.owners) made)
    (ap (λ (t : Table). t.columns) made)
