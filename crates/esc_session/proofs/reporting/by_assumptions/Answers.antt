use Rattle.esc_session.proofs.Reports.{assumed_valid, each_formula_of, valid_answers}
use Rattle.esc_session.proofs.reporting.by_assumptions.Goals as goal

pub returns-clause-answers : goal.returns-clause-answers
returns-clause-answers c limits =
    valid_answers limits c.args.base.now c.args.goal c.in_ok-log.log c.in_ok-formulas.formulas
    (assumed_valid c.args.base.now c.refutation_laws.ensures.more c.branch_laws.ensures.first
    c.found_laws.ensures.valid c.in_ok-log.log c.in_ok-formulas.formulas c.in_ok-log.ensures
    c.in_ok-formulas.ensures c.requires.refuted)

pub returns-clause-formulas : goal.returns-clause-formulas
returns-clause-formulas c =
    each_formula_of c.args.base.now c.in_ok-log.log c.in_ok-formulas.formulas
    (assumed_valid c.args.base.now c.refutation_laws.ensures.more c.branch_laws.ensures.first
    c.found_laws.ensures.valid c.in_ok-log.log c.in_ok-formulas.formulas c.in_ok-log.ensures
    c.in_ok-formulas.ensures c.requires.refuted)
