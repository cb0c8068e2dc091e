use Rattle.std.proofs.Common.{◌≡◌, false, take}
use Rattle.std.specs.List.{list_any}
use Rattle.esc_session.specs.SessionInside.{is_for}
use Rattle.esc_session.proofs.session.Session.is_defined.Given as goal

abbrev pub invariant-batches : goal.invariant-batches
invariant-batches l =
    list_any (λ b. is_for l.name l.count b.predicate) (take l.batch-index l.self.batches) ≡ false
