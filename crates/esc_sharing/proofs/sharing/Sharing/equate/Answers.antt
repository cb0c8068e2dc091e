use Rattle.std.proofs.Common.{inl, inr}
use Rattle.esc_egraph.specs.declared.state.State.TheVariants.{Open, Closed}
use Rattle.esc_sharing.proofs.Joined.{ok_state}
use Rattle.esc_sharing.proofs.sharing.Sharing.equate.Goals as goal

pub returns-clause-open : goal.returns-clause-open
returns-clause-open g c e =
    let kept = c.kept_apart.ensures.open (ok_state c.kept_apart.result Open e) in
    (c.in_ok-state.ensures.met kept.0, kept.1)

pub returns-clause-closed : goal.returns-clause-closed
returns-clause-closed g c e =
    elim (c.kept_apart.ensures.closed (ok_state c.kept_apart.result Closed e)) [
      | inl inside ↦ inl (c.in_ok-state.ensures.closed.0 inside)
      | inr twice ↦ inr twice
    ]
