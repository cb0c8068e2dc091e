use Rattle.std.proofs.Common.{subst}
use Rattle.esc_fact.specs.Log.{IsPlaceOf}
use Rattle.esc_fact.proofs.LogLemmas.{placed}
use Rattle.esc_fact.proofs.log.FactLog.place.Goals as goal

pub returns : goal.returns
returns c =
    subst (λ list. IsPlaceOf list c.args.fact.now c.get_index_of.result) c.self.view_is
    (placed c.self.inside.facts.keys c.args.fact.now c.get_index_of.result
    c.get_index_of.ensures.found c.get_index_of.ensures.index)
