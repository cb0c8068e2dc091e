use Rattle.std.proofs.Common.{◌≡◌, ℕ, ◌<◌, None}
use Rattle.std.proofs.Common.{get_or}
use Rattle.esc_simplex.specs.View.{bound_to}
use Rattle.esc_context.proofs.classes.sample_among.Given as goal

abbrev pub invariant-members : goal.invariant-members
invariant-members l = (k : ℕ) → k < l.member-index → bound_to l.theory.bound (get_or l.members k
    0) ≡ None
