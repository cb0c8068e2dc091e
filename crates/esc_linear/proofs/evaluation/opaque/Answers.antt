use Rattle.std.proofs.lemmas.List.Elements.{All-nil}
use Rattle.esc_linear.specs.Steps.{Yields, StepFits}
use Rattle.esc_linear.proofs.StepLemmas.{no_memory}
use Rattle.esc_linear.proofs.evaluation.opaque.Goals as goal

pub returns-in_err-opaque : goal.returns-in_err-opaque
returns-in_err-opaque c = no_memory _ _ _ c.from_residual.ensures.1

pub returns : goal.returns
unfolding Yields
returns c = (All-nil StepFits, c.in_ok-opaque.ensures)
