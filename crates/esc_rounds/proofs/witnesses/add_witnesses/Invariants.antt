use Rattle.std.proofs.Common.{◌≡◌, ◌∷◌, []}
use Rattle.esc_rounds.specs.ListingInside.{IsListedTo, listed_in}
use Rattle.esc_rounds.specs.Standing.{standing_of}
use Rattle.esc_rounds.proofs.witnesses.add_witnesses.Given as goal

abbrev pub invariant-literals : goal.invariant-literals
invariant-literals l =
    (l.listing.live ≡ l.fn.listing.live)
    × IsListedTo (standing_of l.branch) l.fn.listing.live.keys l.limit (0 ∷ l.number ∷ [])
    (listed_in l.listing)
