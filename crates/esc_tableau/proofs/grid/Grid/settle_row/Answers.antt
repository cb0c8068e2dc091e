use Rattle.std.proofs.Common.{◌<◌, length, sym, ◌∙◌, arith}
use Rattle.std.proofs.lemmas.List.{get_or_read}
use Rattle.esc_frac.specs.Rational.{zero_ℚ}
use Rattle.esc_tableau.specs.Grid.{table_of}
use Rattle.esc_tableau.proofs.MovingLaws.{zero_when}
use Rattle.esc_tableau.proofs.SettlingLaws.{sample_stays}
use Rattle.esc_tableau.proofs.grid.Grid.settle_row.Goals as goal

pub returns-clause-values : goal.returns-clause-values
returns-clause-values c =
    let grid = c.args.self.now in
    let inside : c.args.row < length grid.constants.items = omega
    (arith, c.requires.table.constants, c.requires.row) in
    sample_stays (table_of grid) (table_of c.pivot.new.self) c.args.row c.in-Some.column
    c.pivot.result c.requires.table c.requires.row c.in-Some.ensures.inside
    (sym (get_or_read grid.constants.items c.args.row c.index.result.now inside c.index.ensures
    zero_ℚ) ∙ zero_when c.index.result.now c.if-not-is_zero.ensures)
    c.pivot.ensures.ok c.pivot.ensures.err
