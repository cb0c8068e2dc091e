use Rattle.esc_linear.specs.Steps.{Yields}
use Rattle.esc_simplex.proofs.adding.form_or_stop.Goals as goal

pub spilled-requires : goal.spilled-requires
unfolding Yields
spilled-requires c = rw c.in-Err-Spill.field-0-is at c.in-Err-Spill.ensures.exact

pub returns-in-Ok : goal.returns-in-Ok
unfolding Yields
returns-in-Ok c = c.in-Ok.ensures.exact
