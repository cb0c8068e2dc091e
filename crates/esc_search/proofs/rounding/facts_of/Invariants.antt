use Rattle.std.proofs.Common.{◌≡◌, map, take}
use Rattle.esc_rounds.specs.Facts.{fact_of}
use Rattle.esc_search.proofs.rounding.facts_of.Given as goal

abbrev pub invariant-draws : goal.invariant-draws
invariant-draws l = l.facts ≡ map (fact_of l.graph l.formulas) (take l.draw-index l.draws)
