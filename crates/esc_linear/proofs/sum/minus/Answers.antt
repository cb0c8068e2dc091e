use Rattle.esc_linear.proofs.StepLemmas.{no_memory}
use Rattle.esc_linear.proofs.sum.minus.Goals as goal

pub returns-in_err-copy : goal.returns-in_err-copy
returns-in_err-copy c = no_memory _ _ _ c.from_residual.ensures.1
