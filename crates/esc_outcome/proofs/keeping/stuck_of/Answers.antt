use Rattle.std.proofs.Common.{◌<◌, subst₂, sym, ◌∙◌}
use Rattle.std.specs.List.{All}
use Rattle.esc_sharing.specs.Nodes.{node_count}
use Rattle.esc_outcome.proofs.BoundTerms.{told_are_there}
use Rattle.esc_outcome.proofs.keeping.stuck_of.Goals as goal

pub told_terms-requires : goal.told_terms-requires
told_terms-requires c =
    let s = c.args.sharing.now in
    subst₂ (λ graph pairs. All (λ p. (p.0 < node_count graph) × (p.1 < node_count graph)) pairs)
    (sym c.graph-2.ensures) (sym (c.as_slice.ensures ∙ c.told.ensures))
    (told_are_there s c.requires.numbers c.requires.told)
