use Rattle.esc_session.proofs.Reports.{each_formula_of, log_valid, valid_answers}
use Rattle.esc_session.proofs.reporting.valid.Goals as goal

pub returns-clause-answers : goal.returns-clause-answers
returns-clause-answers c =
    let search = c.args.search.now in
    let found = c.in_ok-log.ensures in
    valid_answers search.limits c.args.base.now c.args.goal c.in_ok-log.log c.in_ok-log.formulas
    (log_valid c.args.base.now search c.in_ok-log.log c.in_ok-log.formulas
    c.found_laws.ensures.valid c.requires.refuted c.requires.formulas found.0 found.1)

pub returns-clause-formulas : goal.returns-clause-formulas
returns-clause-formulas c =
    let search = c.args.search.now in
    let found = c.in_ok-log.ensures in
    each_formula_of c.args.base.now c.in_ok-log.log c.in_ok-log.formulas
    (log_valid c.args.base.now search c.in_ok-log.log c.in_ok-log.formulas
    c.found_laws.ensures.valid c.requires.refuted c.requires.formulas found.0 found.1)
