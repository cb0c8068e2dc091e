use Rattle.std.proofs.Common.{take}
use Rattle.esc_rounds.specs.ListingInside.{AreKeysOf}
use Rattle.esc_rounds.proofs.listing.live_keys.Given as goal

abbrev pub invariant-live : goal.invariant-live
invariant-live l = AreKeysOf l.graph (take l.draw-index l.live) l.keys.keys
