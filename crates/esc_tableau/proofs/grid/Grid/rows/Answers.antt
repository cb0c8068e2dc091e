use Rattle.std.proofs.Common.{◌++◌, sym, ap, ap₂, ◌∙◌, map}
use Rattle.esc_tableau.specs.Grid.{table_of}
use Rattle.esc_tableau.specs.Listed.{owner_with, restricted_in}
use Rattle.esc_tableau.specs.Table.{unknowns}
use Rattle.esc_tableau.proofs.ListedLaws.{restricted_in-append, owners_back, columns_back}
use Rattle.esc_tableau.proofs.Tables.{same_table}
use Rattle.esc_tableau.proofs.grid.Grid.rows.Goals as goal

pub returns-clause-restricted : goal.returns-clause-restricted
returns-clause-restricted c =
    let t = table_of c.args.self.now in
    c.in_ok-push_restricted-2.ensures
    ∙ ap₂ (λ xs ys. xs ++ restricted_in ys) (c.in_ok-push_restricted.ensures
    ∙ ap₂ (λ xs ys. xs ++ restricted_in ys) c.new-restricted.ensures c.deref.ensures.value)
    c.deref-2.ensures.value
    ∙ sym (restricted_in-append t.owners t.columns)

pub returns-clause-rows : goal.returns-clause-rows
returns-clause-rows c =
    let t = table_of c.args.self.now in
    let restricted = returns-clause-restricted c in
    same_table
    (ap₂ (λ us os. map (owner_with us) os) restricted (c.in_ok-owners.ensures
    ∙ ap unknowns c.deref-3.ensures.value) ∙ owners_back t c.requires)
    (ap₂ (λ us os. map (owner_with us) os) restricted (c.in_ok-columns.ensures
    ∙ ap unknowns c.deref-4.ensures.value) ∙ columns_back t c.requires)
    (c.in_ok-entries.ensures ∙ ap (map (λ es. es.items)) c.deref-5.ensures.value)
    (c.in_ok-constants.ensures ∙ c.deref-6.ensures.value)
