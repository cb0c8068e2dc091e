use Rattle.std.proofs.Common.{nat_lt, sym, ap, ap₂, ◌∙◌}
use Rattle.std.proofs.lemmas.List.{length-map}
use Rattle.esc_tableau.specs.Listed.{is_listed}
use Rattle.esc_tableau.specs.Table.{place_of}
use Rattle.esc_tableau.proofs.ListedLaws.{place_in_unknowns}
use Rattle.esc_tableau.proofs.lists.Unknowns.contains.Goals as goal

pub returns : goal.returns
returns c =
    let os = c.self.inside.owners.items in
    ap₂ nat_lt (c.place_of.ensures ∙ ap (λ xs. place_of xs c.args.unknown) c.deref.ensures.value
    ∙ sym (place_in_unknowns os c.args.unknown)) (c.len.ensures ∙ c.self.inside.owners.ok.0
    ∙ sym (length-map os (λ o. o.unknown)))
    ∙ ap (λ us. is_listed us c.args.unknown) c.self.view_is
