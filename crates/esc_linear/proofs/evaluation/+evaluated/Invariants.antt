use Rattle.std.proofs.Common.{[]}
use Rattle.esc_linear.proofs.FoldLemmas.{Goes}
use Rattle.esc_linear.proofs.EvaluationLemmas.{with_form, own_steps}
use Rattle.esc_linear.proofs.evaluation.+evaluated.Given as goal

abbrev pub invariant-forms_of-terms : goal.invariant-forms_of-terms
invariant-forms_of-terms l = Goes with_form own_steps [] l.terms l.term-index l.forms
