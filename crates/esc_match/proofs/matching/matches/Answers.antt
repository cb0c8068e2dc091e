use Rattle.std.proofs.Common.{rules, ◌≡◌, ◌∷◌, [], map, ap, sym, subst, ◌∙◌}
use Rattle.esc_match.specs.Matches.{AreMatches}
use Rattle.esc_match.specs.SubstitutionsInside.{first_substitutions}
use Rattle.esc_match.specs.WaysInside.{new_way, trigger_ways}
use Rattle.esc_match.proofs.Listed.{are_matches}
use Rattle.esc_match.proofs.matching.matches.Goals as goal

pub returns : goal.returns
returns g c =
    let ways : c.in_ok-ways.ways ≡ trigger_ways c.args.graph.now c.args.trigger.now (new_way ∷ []) =
    search rules in
    let found : c.in_ok-found.found.keys
    ≡ first_substitutions c.args.count (g.W.Wanted.wanted c.args.wanted.now) c.in_ok-ways.ways =
    search rules in
    let listed : c.in_ok-list.list
    ≡ first_substitutions c.args.count (g.W.Wanted.wanted c.args.wanted.now)
    (trigger_ways c.args.graph.now c.args.trigger.now (new_way ∷ [])) =
    c.in_ok-list.ensures ∙ (found
    ∙ ap (first_substitutions c.args.count (g.W.Wanted.wanted c.args.wanted.now)) ways) in
    subst (λ list. AreMatches c.args.graph.now c.args.count c.args.trigger.now
    (g.W.Wanted.wanted c.args.wanted.now) (map (λ m. m.nodes) list)) (sym listed)
    (are_matches c.args.graph.now c.all_nodes.ensures.graph c.args.count c.args.trigger.now
    (g.W.Wanted.wanted c.args.wanted.now) c.requires)
