use Rattle.std.proofs.Common.{length}
use Rattle.esc_session.specs.PoppingInside.{IsPopping}
use Rattle.esc_session.proofs.session.Session.pop.Given as goal

abbrev pub invariant-rules : goal.invariant-rules
invariant-rules l = record { popping : IsPopping l.fn.self l.self }

abbrev pub decreases-rules : goal.decreases-rules
decreases-rules l = length l.self.batches
