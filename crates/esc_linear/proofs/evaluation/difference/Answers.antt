use Rattle.esc_linear.proofs.StepLemmas.{no_memory}
use Rattle.esc_linear.proofs.evaluation.difference.Goals as goal

pub returns-in_err-copy-in-len2 : goal.returns-in_err-copy-in-len2
returns-in_err-copy-in-len2 c = no_memory _ _ _ c.from_residual.ensures.1
