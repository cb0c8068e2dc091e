use Rattle.std.proofs.Common.{◌≡◌, map, take}
use Rattle.esc_rounds.specs.ListingInside.{listed_in, with_all_due}
use Rattle.esc_rounds.specs.Standing.{standing_of}
use Rattle.esc_rounds.specs.declared.draw.Draw.TheVariants.{Map}
use Rattle.esc_rounds.proofs.rounding.add_maps.Given as goal

abbrev pub invariant-found : goal.invariant-found
invariant-found l =
    (l.listing.live ≡ l.fn.listing.live)
    × (listed_in l.listing
    ≡ with_all_due (standing_of l.branch) l.fn.listing.live.keys l.limit (listed_in l.fn.listing)
    (map Map (take l.map_match-index l.map_match-items)))
