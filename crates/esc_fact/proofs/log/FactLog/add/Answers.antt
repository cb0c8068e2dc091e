use Rattle.std.proofs.Common.{subst}
use Rattle.esc_fact.specs.Log.{Logs}
use Rattle.esc_fact.proofs.LogLemmas.{adds}
use Rattle.esc_fact.proofs.log.FactLog.add.Goals as goal

pub returns-clause-ok : goal.returns-clause-ok
returns-clause-ok c =
    subst (λ old. Logs old c.args.fact c.insert.new.self.keys c.in_ok-added.added) c.self.view_is
    (adds c.self.inside.facts.keys c.insert.new.self.keys c.args.fact c.in_ok-added.added
    c.in_ok-added.ensures.added c.in_ok-added.ensures.keys)
