use Rattle.std.proofs.Common.{length, take}
use Rattle.esc_standing.specs.SurveyInside.{IsFound, facts_at}
use Rattle.esc_standing.proofs.survey.find_facts.Given as goal

abbrev pub invariant-places : goal.invariant-places
invariant-places l =
    IsFound l.base l.graph (facts_at l.log (take l.place l.live)) (length l.live) l.found
