use Rattle.std.proofs.Common.{◌<◌, length, subst, sym, ap, map, ◌∙◌}
use Rattle.std.specs.Prelude.{slice_index}
use Rattle.std.specs.List.{All}
use Rattle.esc_match.specs.declared.substitution.Substitution.{Substitution}
use Rattle.esc_rounds.specs.Standing.{standing_of}
use Rattle.esc_rounds.proofs.Matched.{stood_there}
use Rattle.esc_rounds.proofs.instances.add_matches.Goals as goal

pub consider-requires-clause-drawable : goal.consider-requires-clause-drawable
consider-requires-clause-drawable c =
    let there : All (λ n. n < length c.args.branch.now.graph.now.nodes)
    c.substitution-item.result.nodes =
    subst (λ (m : Substitution). All (λ n. n < length c.args.branch.now.graph.now.nodes) m.nodes)
    (sym c.substitution-item.is)
    (c.requires.found c.found.substitution-index c.substitution-item.result c.found-test.true) in (
      c.requires.formula,
      stood_there (standing_of c.args.branch.now) c.args.standing.now
          c.requires.standing c.substitution-item.result.nodes c.in_ok-nodes.nodes there
          (c.in_ok-nodes.ensures ∙ ap (map (slice_index c.args.standing.now)) c.as_slice.ensures),
    )
