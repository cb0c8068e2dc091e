use Rattle.std.proofs.Common.{◌≡◌, false, take}
use Rattle.std.specs.List.{list_any}
use Rattle.std.specs.Option.{is_none}
use Rattle.esc_session.proofs.session.Session.has_push.Given as goal

abbrev pub invariant-batches : goal.invariant-batches
invariant-batches l = list_any (λ b. is_none b.predicate) (take l.batch-index l.self.batches)
    ≡ false
