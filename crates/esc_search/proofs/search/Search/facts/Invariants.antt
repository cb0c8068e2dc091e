use Rattle.std.proofs.Common.{◌≡◌, take}
use Rattle.esc_search.proofs.search.Search.facts.Given as goal

abbrev pub invariant-facts : goal.invariant-facts
invariant-facts l = l.facts ≡ take l.fact-index l.fact-items
