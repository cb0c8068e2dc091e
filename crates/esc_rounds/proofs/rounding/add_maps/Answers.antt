use Rattle.std.proofs.Common.{◌≡◌, ◌∷◌, [], map, take, refl, subst, sym, ap, ◌∙◌}
use Rattle.std.specs.List.{Contains}
use Rattle.std.proofs.lemmas.List.{take_all}
use Rattle.esc_maps.specs.MapMatches.{place_of_match}
use Rattle.esc_rounds.specs.ListingInside.{listed_in, with_all_due}
use Rattle.esc_rounds.specs.Standing.{Standing, standing_of}
use Rattle.esc_rounds.specs.declared.draw.Draw.TheVariants.{Map}
use Rattle.esc_rounds.proofs.Bounds.{called_drawable, maps_called}
use Rattle.esc_rounds.proofs.Calls.{fits_one}
use Rattle.esc_rounds.proofs.Steps.{listed_step}
use Rattle.esc_rounds.proofs.rounding.add_maps.Goals as goal

pub consider-requires-clause-drawable : goal.consider-requires-clause-drawable
consider-requires-clause-drawable c =
    let there : Contains c.as_slice-map_match-items.result.now c.map_match-item.result =
    (c.found.map_match-index, c.found-test.true, sym c.map_match-item.is) in
    called_drawable (standing_of c.args.branch.now) (Map c.map_match-item.result)
    (1 ∷ place_of_match c.map_match-item.result) (
      (c.in_ok-found.ensures.exact c.map_match-item.result).0
          (subst (λ ms. Contains ms c.map_match-item.result) c.as_slice-map_match-items.ensures
          there),
      refl,
    )

pub returns-clause-listed : goal.returns-clause-listed
returns-clause-listed c =
    let s : Standing = standing_of c.args.branch.now in
    let items : take c.found.map_match-index c.as_slice-map_match-items.result.now
    ≡ c.in_ok-found.found =
    take_all c.found.map_match-index c.as_slice-map_match-items.result.now c.found-test.false
    ∙ c.as_slice-map_match-items.ensures in
    listed_step s c.args.listing.now.live.keys c.args.listing.now.live.keys c.args.limit refl
    (listed_in c.args.listing.now) (listed_in c.found.listing) [] 1 (map Map c.in_ok-found.found)
    (fits_one s 1) (maps_called s c.in_ok-found.found c.in_ok-found.ensures)
    (c.found.invariant.1
    ∙ ap (λ ms. with_all_due s c.args.listing.now.live.keys c.args.limit
    (listed_in c.args.listing.now) (map Map ms)) items) c.requires.listed
