use Rattle.std.proofs.Common.{sym, subst, ◌∙◌}
use Rattle.esc_tableau.specs.Table.{Table, IsWithin, sample}
use Rattle.esc_tableau.proofs.Tables.{same_table}
use Rattle.esc_tableau.proofs.tableau.Tableau.put.Goals as goal

pub returns-clause-rows : goal.returns-clause-rows
returns-clause-rows c = c.note_all.ensures ∙ same_table c.into_owners.ensures
    c.into_owners-2.ensures c.into_lists.ensures c.into_items.ensures

pub returns-clause-within : goal.returns-clause-within
returns-clause-within c = subst (λ (t : Table). IsWithin t (sample t)) (sym (returns-clause-rows c))
    c.requires.within
