use Rattle.std.proofs.Common.{◌≡◌, take}
use Rattle.std.specs.Prelude.{slice_get}
use Rattle.std.specs.List.{filter_map}
use Rattle.esc_search.proofs.search.Search.live.Given as goal

abbrev pub invariant-places : goal.invariant-places
invariant-places l =
    l.facts ≡ filter_map (slice_get l.fn.self.log) (take l.place-index l.place-items)
