use Rattle.std.proofs.Common.{◌<◌, length, sym, ap, ◌∙◌, arith}
use Rattle.std.proofs.lemmas.Bool.{not-false}
use Rattle.std.proofs.lemmas.List.{get_or_read}
use Rattle.esc_frac.specs.Rational.{ℚ, zero_ℚ}
use Rattle.esc_frac.specs.Sign.{sign_of}
use Rattle.esc_tableau.specs.Grid.{table_of}
use Rattle.esc_tableau.specs.Rule.{is_against}
use Rattle.esc_tableau.specs.Table.{nobody}
use Rattle.esc_tableau.specs.declared.owner.Owner.{Owner}
use Rattle.esc_tableau.proofs.MovingLaws.{blocks_by, zero_when}
use Rattle.esc_tableau.proofs.grid.Grid.blocks.Goals as goal

pub returns : goal.returns
returns c =
    let grid = c.args.self.now in
    let inside : c.args.row < length grid.constants.items = omega
    (arith, c.requires.table.constants, c.requires.row) in
    blocks_by (table_of grid) c.args.along c.args.row
    (ap (λ (o : Owner). o.restricted) (sym (get_or_read grid.owners.items c.args.row
    c.index-owner.result.now c.requires.row c.index-owner.ensures nobody))
    ∙ not-false _ c.if-not-owner.false)
    (sym (get_or_read grid.constants.items c.args.row c.index.result.now inside c.index.ensures
    zero_ℚ) ∙ zero_when c.index.result.now c.if-not-is_zero.ensures)
    c.falls_along.result
    (c.falls_along.ensures ∙ ap (is_against c.args.along.up) (c.sign.ensures
    ∙ ap (λ (q : ℚ). sign_of q.num) c.entry.ensures))
