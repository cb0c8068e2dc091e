use Rattle.esc_linear.proofs.EvaluationLemmas.{linear_answer}
use Rattle.esc_linear.proofs.ProductLaw.{form-meant}
use Rattle.esc_linear.proofs.evaluation.form_of.Goals as goal

pub returns-clause-linear : goal.returns-clause-linear
returns-clause-linear c = linear_answer c.evaluated.result c.args.term.now c.evaluated.ensures
    (form-meant c.args.term.now)
