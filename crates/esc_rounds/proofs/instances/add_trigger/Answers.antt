use Rattle.std.proofs.Common.{◌≡◌, ℕ, ◌<◌, length, get_or, map, subst, sym, ap, true, ◌∙◌}
use Rattle.std.specs.List.{All}
use Rattle.std.specs.Option.{option_map_or}
use Rattle.std.proofs.lemmas.Option.{slice_get-get_or}
use Rattle.std.proofs.lemmas.Result.{on_ok_weaker}
use Rattle.esc_match.specs.Matches.{AreMatches}
use Rattle.esc_match.specs.declared.substitution.Substitution.{Substitution}
use Rattle.esc_rounds.specs.ListingInside.{count_at, instance_at, listed_in, with_all_due}
use Rattle.esc_rounds.specs.Standing.{Standing, standing_of}
use Rattle.esc_rounds.specs.declared.kept.Kept.{Kept}
use Rattle.esc_rounds.proofs.Steps.{matches_there}
use Rattle.esc_rounds.proofs.instances.add_trigger.Goals as goal

pub add_matches-requires-clause-found : goal.add_matches-requires-clause-found
add_matches-requires-clause-found c =
    subst (All (λ (m : Substitution). All (λ n. n < length c.args.branch.now.graph.now.nodes)
    m.nodes)) (sym c.as_slice.ensures)
    (matches_there c.args.branch.now.graph.now _ c.args.trigger.now _ c.in_ok-found.found
    c.in_ok-found.ensures)

pub returns-clause-listed : goal.returns-clause-listed
returns-clause-listed c =
    let s : Standing = standing_of c.args.branch.now in
    let formula : Kept = get_or s.formulas c.args.formula c.index-branch-formula.result in
    let count : formula.count ≡ count_at s c.args.formula =
    sym (ap (λ o. option_map_or (λ (k : Kept). k.count) o 0)
    (slice_get-get_or s.formulas c.args.formula c.index-branch-formula.result c.requires.formula))
    in
    on_ok_weaker c.add_matches.result
    (λ e. record {
      found = c.in_ok-found.found;
      are = subst (λ (n : ℕ). AreMatches s.graph n c.args.trigger.now (λ m. true)
          (map (λ (m : Substitution). m.nodes) c.in_ok-found.found)) count c.in_ok-found.ensures;
      done = e ∙ ap (λ ms. with_all_due s c.args.listing.now.live.keys c.args.limit
          (listed_in c.args.listing.now) (map (instance_at c.args.formula c.args.standing.now) ms))
          c.as_slice.ensures;
    }) c.add_matches.ensures.listed
