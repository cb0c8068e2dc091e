use Rattle.std.proofs.Common.{Ok, ap, subst}
use Rattle.esc_egraph.specs.declared.state.State.{State}
use Rattle.esc_search.specs.SearchInside.{Begins}
use Rattle.esc_search.proofs.BackTo.{kept_both}
use Rattle.esc_search.proofs.Starting.{refuted_first, search_starts}
use Rattle.esc_search.proofs.search.Search.seek.Goals as goal

pub explore-requires : goal.explore-requires
explore-requires c = record {
  here = search_starts c.args.base.now c.begin.new.self c.requires.closed
      (subst (λ (x : State). Begins c.args.base.now c.begin.new.self (Ok x))
      c.in-Ok-Open.field-0-is c.in-Ok-Open.ensures.begins)
      (c.in-Ok-Open.ensures.live (ap Ok c.in-Ok-Open.field-0-is));
}

pub returns-in-Ok-Closed-clause-comes : goal.returns-in-Ok-Closed-clause-comes
returns-in-Ok-Closed-clause-comes c =
    let is = subst (λ (x : State). Begins c.args.base.now c.begin.new.self (Ok x))
    c.in-Ok-Closed.field-0-is c.in-Ok-Closed.ensures.begins in
    refuted_first c.args.base.now c.begin.new.self is.0 is.1

pub returns-in-Ok-Open-clause-kept : goal.returns-in-Ok-Open-clause-kept
returns-in-Ok-Open-clause-kept c =
    kept_both c.args.base.now c.args.self.now c.begin.new.self c.explore.new.self
    c.begin.ensures.kept c.explore.ensures.kept
