use Rattle.std.proofs.Common.{List, [], map, length, set, get_or, sym, ap, ap₂, ◌∙◌, subst}
use Rattle.std.proofs.lemmas.List.{get_or_read}
use Rattle.esc_frac.specs.Rational.{ℚ, zero_ℚ}
use Rattle.esc_rows.specs.Rows.{solved, solved_constant, eliminated, eliminated_constants}
use Rattle.esc_rows.proofs.RowLemmas.{items-with_items}
use Rattle.esc_tableau.specs.Table.{IsTable, SameSystem, nobody}
use Rattle.esc_tableau.specs.Grid.{table_of}
use Rattle.esc_tableau.specs.declared.index.Place.TheVariants.{Row, Column}
use Rattle.esc_tableau.specs.declared.owner.Owner.{Owner}
use Rattle.esc_tableau.proofs.Indexed.{indexed_same, indexed_swapped}
use Rattle.esc_tableau.proofs.Tables.{same_table}
use Rattle.esc_tableau.proofs.Pivoted.{IsTable-pivoted}
use Rattle.esc_tableau.proofs.PivotLaws.{SameSystem-pivoted}
use Rattle.esc_tableau.proofs.grid.Grid.pivot.Goals as goal

pub returns-clause-ok : goal.returns-clause-ok
returns-clause-ok c =
    let grid = c.args.self.now in
    let row = c.args.row in
    let column = c.args.column in
    same_table
    (ap (set grid.owners.items row) (c.swap.ensures.x_after
    ∙ get_or_read grid.columns.items column _ c.requires.column c.index_mut-2.ensures.value
    nobody))
    (ap (set grid.columns.items column) (c.swap.ensures.y_after
    ∙ get_or_read grid.owners.items row _ c.requires.row c.index_mut.ensures.value nobody))
    (ap (map (λ es. es.items)) (items-with_items grid.entries c.write_pivot.new.rows
    (c.write_pivot.auto.rows ∙ ap length c.deref_mut.ensures.value))
    ∙ c.write_pivot.ensures.rows
    ∙ ap (λ (ess : List (List ℚ)). set (map (λ es. eliminated es column
    (solved (get_or ess row []) column)) ess) row (solved (get_or ess row []) column))
    (ap (map (λ es. es.items)) c.deref_mut.ensures.value))
    (items-with_items grid.constants c.write_pivot.new.constants (c.write_pivot.auto.constants
    ∙ ap length c.deref_mut-2.ensures.value)
    ∙ c.write_pivot.ensures.constants
    ∙ ap₂ (λ (ess : List (List ℚ)) (ks : List ℚ). set
    (eliminated_constants ess ks column (solved_constant (get_or ess row []) column
    (get_or ks row zero_ℚ))) row (solved_constant (get_or ess row []) column
    (get_or ks row zero_ℚ))) (ap (map (λ es. es.items)) c.deref_mut.ensures.value)
    c.deref_mut-2.ensures.value)

pub returns-clause-table : goal.returns-clause-table
returns-clause-table c =
    subst IsTable (sym (returns-clause-ok c)) (IsTable-pivoted (table_of c.args.self.now)
    c.requires.table c.args.row c.args.column c.requires.row c.requires.column)

pub returns-clause-same : goal.returns-clause-same
returns-clause-same c =
    subst (SameSystem (table_of c.args.self.now)) (sym (returns-clause-ok c))
    (SameSystem-pivoted (table_of c.args.self.now) c.requires.table c.args.row c.args.column
    c.requires.row c.requires.column c.requires.nonzero)

pub invariant_of-self-2 : goal.invariant_of-self-2
invariant_of-self-2 c =
    let grid = c.args.self.now in
    let row = c.args.row in
    let column = c.args.column in record {
      indexed = indexed_same
          (ap (set grid.owners.items row) (c.swap.ensures.x_after
          ∙ get_or_read grid.columns.items column _ c.requires.column c.index_mut-2.ensures.value
          nobody))
          (ap (set grid.columns.items column) (c.swap.ensures.y_after
          ∙ get_or_read grid.owners.items row _ c.requires.row c.index_mut.ensures.value nobody))
          (c.note-2.ensures ∙ ap₂ (λ ps u. set ps u (Column column)) (c.note.ensures
          ∙ ap (λ (o : Owner). set grid.index o.unknown (Row row))
          (get_or_read grid.columns.items column _ c.requires.column c.index-2.ensures nobody))
          (ap (λ (o : Owner). o.unknown)
          (get_or_read grid.owners.items row _ c.requires.row c.index.ensures nobody)))
          (indexed_swapped grid.owners.items grid.columns.items grid.index row column
          c.requires.row c.requires.column grid.indexed);
    }
