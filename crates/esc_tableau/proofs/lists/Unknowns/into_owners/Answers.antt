use Rattle.std.proofs.Common.{length, map, sym, ap, ◌∙◌}
use Rattle.esc_rows.proofs.RowLemmas.{items-with_items}
use Rattle.esc_tableau.specs.Listed.{owner_with}
use Rattle.esc_tableau.specs.declared.owner.Owner.{Owner}
use Rattle.esc_tableau.proofs.ListedLaws.{map-unknowns}
use Rattle.esc_tableau.proofs.lists.Unknowns.into_owners.Goals as goal

pub returns : goal.returns
returns c =
    items-with_items c.self.inside.owners c.mark_listed.new.owners (c.mark_listed.auto.owners
    ∙ ap length c.deref_mut.ensures.value)
    ∙ c.mark_listed.ensures
    ∙ ap (map (λ (o : Owner). owner_with c.args.restricted.now o.unknown)) c.deref_mut.ensures.value
    ∙ sym (map-unknowns (owner_with c.args.restricted.now) c.self.inside.owners.items)
    ∙ ap (map (owner_with c.args.restricted.now)) c.self.view_is
