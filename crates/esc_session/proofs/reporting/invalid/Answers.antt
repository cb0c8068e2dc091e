use Rattle.std.proofs.Common.{subst, sym}
use Rattle.esc_live.specs.Promises.{IsBranch}
use Rattle.esc_session.proofs.Reports.{invalid_answers, left_here}
use Rattle.esc_session.proofs.reporting.invalid.Goals as goal

pub items-requires-clause-book : goal.items-requires-clause-book
items-requires-clause-book c =
    (subst IsBranch (sym c.branch-branch.ensures) c.requires.left.branch).book

pub items-requires-clause-occur : goal.items-requires-clause-occur
items-requires-clause-occur c =
    (subst IsBranch (sym c.branch-branch.ensures) c.requires.left.branch).shared.occur

pub items-requires-clause-forms : goal.items-requires-clause-forms
items-requires-clause-forms c =
    (subst IsBranch (sym c.branch-branch.ensures) c.requires.left.branch).shared.literals_are.forms

pub counterexample-requires : goal.counterexample-requires
counterexample-requires c = record {
  left = left_here c.args.base.now c.args.search.now c.branch-branch.result.now
      c.branch-branch.ensures c.in_ok-live.live c.in_ok-literals.literals c.in_ok-live.ensures
      c.in_ok-literals.ensures c.requires.left;
}

pub returns-clause-answers : goal.returns-clause-answers
returns-clause-answers c =
    invalid_answers c.args.base.now c.args.search.now c.branch-branch.result.now
    c.branch-branch.ensures c.in_ok-live.live c.in_ok-literals.literals c.in_ok-live.ensures
    c.in_ok-literals.ensures c.args.goal c.in_ok-found.found c.requires.left
    c.in_ok-found.ensures
