use Rattle.esc_linear.proofs.StepLemmas.{no_memory}
use Rattle.esc_linear.proofs.sum.subtract.Goals as goal

pub returns-in_err-taken : goal.returns-in_err-taken
returns-in_err-taken c = no_memory _ _ _ c.from_residual.ensures.1
