use Rattle.std.proofs.Common.{[], arith, ap, length, subst, sym, ◌≡◌, Some, ℕ}
use Rattle.std.specs.Prelude.{slice_get}
use Rattle.std.proofs.lemmas.List.{length_push}
use Rattle.esc_fact.specs.Legal.{first_facts}
use Rattle.esc_fact.specs.declared.fact.Fact.TheVariants as fact
use Rattle.esc_search.proofs.FrontFacts.{given_next, goal_next, logged_last}
use Rattle.esc_search.proofs.BackTo.{kept_both, kept_same}
use Rattle.esc_search.proofs.search.Search.log_all.Goals as goal

pub background-init : goal.background-init
background-init c = record {
  begun = c.requires.begun;
  few = c.requires.without_goal;
  kept = kept_same c.args.base.now c.args.self.now [] c.requires.begun.given
      c.requires.begun.formulas;
}

pub background-preserved : goal.background-preserved
background-preserved c = record {
  begun = c.in_ok-log_first.ensures.begun;
  few = omega (
    arith,
    c.background-test.true,
    c.count.ensures,
    c.len.ensures,
    ap length c.in_ok-log_first.ensures.log,
    length_push c.background.self.log (fact.Given c.count-place.result),
  );
  kept = kept_both c.args.base.now c.args.self.now c.background.self c.log_first.new.self
      c.background.invariant.kept c.log_first.ensures.kept;
}

pub log_first-requires-clause-next : goal.log_first-requires-clause-next
log_first-requires-clause-next c =
    subst (λ (k : ℕ). slice_get (first_facts c.args.base.now) (length c.background.self.log)
    ≡ Some (fact.Given k)) (sym c.count-place.ensures)
    (given_next c.args.base.now (length c.background.self.log)
    (omega (arith, c.count.ensures, c.len.ensures)))

pub log_first-requires-2-clause-next : goal.log_first-requires-2-clause-next
log_first-requires-2-clause-next c =
    goal_next c.args.base.now (length c.background.self.log) c.requires.goal
    (omega (arith, c.background.invariant.few, c.count.ensures, c.len.ensures))

pub returns-clause-logged : goal.returns-clause-logged
returns-clause-logged c =
    logged_last c.args.base.now c.background.self c.log_first-2.new.self c.log_first-2.result
    c.requires.goal (omega (arith, c.background.invariant.few, c.count.ensures, c.len.ensures))
    c.log_first-2.ensures.begun c.log_first-2.ensures.log
