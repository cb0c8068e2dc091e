use Rattle.std.proofs.Common.{◌≡◌, ◌<◌, [], map, length, get_or, sym, ap, ◌∙◌, arith}
use Rattle.std.proofs.lemmas.List.{get_or-map, length-map}
use Rattle.esc_tableau.proofs.grid.Grid.entry.Goals as goal

pub index-requires-2 : goal.index-requires-2
index-requires-2 c =
    let rows = c.args.self.now.entries.items in
    let inside : c.args.row < length rows = omega (
      arith,
      c.requires.table.rows,
      length-map rows
          (λ es. es.items),
      c.requires.row,
    ) in
    let was : c.index.result.now.items ≡ get_or (map (λ es. es.items) rows) c.args.row [] = ap
    (λ es. es.items) c.index.ensures ∙ sym (get_or-map (λ es. es.items) rows c.args.row _ []
    inside) in
    omega (
      arith,
      ap length was,
      c.requires.table.width c.args.row c.requires.row,
      c.index.result.now.ok.0,
    )
