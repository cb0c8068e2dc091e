use Rattle.std.proofs.Common.{ap, sym, ◌∙◌, arith}
use Rattle.esc_tableau.specs.Grid.{table_of}
use Rattle.esc_tableau.specs.Rule.{improving}
use Rattle.esc_tableau.specs.Table.{size}
use Rattle.esc_tableau.proofs.BoundLaws.{found_is_first, first_more}
use Rattle.esc_tableau.proofs.grid.Grid.entering.Goals as goal

pub returns-then-is_some : goal.returns-then-is_some
returns-then-is_some c =
    let t = table_of c.args.self.now in
    let here = c.improving-found.ensures ∙ ap (improving t c.args.unknown) c.numbered.ensures in
    found_is_first (improving t c.args.unknown) c.loop-number.number (size t)
    c.improving-found.result c.loop-number.invariant here (sym c.is_some.ensures
    ∙ c.if-is_some.true) (omega arith)

pub loop-number-preserved : goal.loop-number-preserved
loop-number-preserved c =
    let t = table_of c.args.self.now in
    let here = c.improving-found.ensures ∙ ap (improving t c.args.unknown) c.numbered.ensures in
    first_more (improving t c.args.unknown) c.loop-number.number c.improving-found.result
    c.loop-number.invariant here (sym c.is_some.ensures ∙ c.if-is_some.false)
