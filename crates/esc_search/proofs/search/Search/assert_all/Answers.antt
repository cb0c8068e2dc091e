use Rattle.std.proofs.Common.{[], Ok, subst, ◌∙◌}
use Rattle.esc_egraph.specs.declared.state.State.{State}
use Rattle.esc_search.specs.SearchInside.{GoesLive}
use Rattle.esc_search.proofs.BackTo.{kept_both, kept_same}
use Rattle.esc_search.proofs.search.Search.assert_all.Goals as goal

pub facts-init : goal.facts-init
facts-init c = record {
  logged = c.requires.logged;
  kept = kept_same c.args.base.now c.args.self.now [] c.requires.logged.0.given
      c.requires.logged.0.formulas;
}

pub facts-preserved : goal.facts-preserved
facts-preserved c = record {
  logged = (
    subst (λ (x : State). GoesLive c.args.base.now c.assert_next.new.self (Ok x))
        c.in-Ok-Open.field-0-is c.in-Ok-Open.ensures.goes,
    c.assert_next.ensures.log ∙ c.facts.invariant.logged.1,
  );
  kept = kept_both c.args.base.now c.args.self.now c.facts.self c.assert_next.new.self
      c.facts.invariant.kept c.assert_next.ensures.kept;
}

pub returns-in-Ok-Closed-clause-begins : goal.returns-in-Ok-Closed-clause-begins
returns-in-Ok-Closed-clause-begins c = (
  c.assert_next.ensures.log ∙ c.facts.invariant.logged.1,
  subst (λ (x : State). GoesLive c.args.base.now c.assert_next.new.self (Ok x))
      c.in-Ok-Closed.field-0-is c.in-Ok-Closed.ensures.goes,
)

pub returns-in-Ok-Closed-clause-kept : goal.returns-in-Ok-Closed-clause-kept
returns-in-Ok-Closed-clause-kept c =
    kept_both c.args.base.now c.args.self.now c.facts.self c.assert_next.new.self
    c.facts.invariant.kept c.assert_next.ensures.kept

pub returns-in-Err-clause-kept : goal.returns-in-Err-clause-kept
returns-in-Err-clause-kept c =
    kept_both c.args.base.now c.args.self.now c.facts.self c.assert_next.new.self
    c.facts.invariant.kept c.assert_next.ensures.kept
