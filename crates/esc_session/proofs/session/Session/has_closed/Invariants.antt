use Rattle.std.proofs.Common.{◌≡◌, false, take}
use Rattle.std.specs.List.{list_any}
use Rattle.esc_session.specs.View.{is_closed}
use Rattle.esc_session.proofs.session.Session.has_closed.Given as goal

abbrev pub invariant-batches : goal.invariant-batches
invariant-batches l = list_any (λ b. is_closed b.standing) (take l.batch-index l.self.batches)
    ≡ false
