use Rattle.std.proofs.Common.{rules, refl, ap}
use Rattle.esc_clause.specs.ClauseContext.{ClauseContext}
use Rattle.esc_live.proofs.AddedClauses.{clauses_add, clauses_next, clauses_none}
use Rattle.esc_live.proofs.LiveNotes.{clauses_notes, live_both, live_nothing}
use Rattle.esc_live.proofs.branch.LiveBranch.add_clauses.Goals as goal

pub clauses-init : goal.clauses-init
clauses-init c = record {
  done = clauses_none c.args.self.now;
  undo = live_nothing c.args.trail.now.records c.args.self.now;
}

pub returns-in_err-add-clause-undo : goal.returns-in_err-add-clause-undo
returns-in_err-add-clause-undo c =
    live_both _ _ _ _ _ _ c.clauses.invariant.undo
    (clauses_notes c.clauses.self _ _ c.add.new.self c.add.ensures.undo)

pub clauses-preserved : goal.clauses-preserved
clauses-preserved c = record {
  done = clauses_next c.args.self.now c.clauses.self _ c.args.clauses.now c.clauses.clause-index
      _ c.clauses-test.true c.clause-item.is c.clauses.invariant.done
      (ap (λ (cs : ClauseContext). record c.clauses.self { clauses = cs }) c.in_ok-add.ensures.ok);
  undo = live_both _ _ _ _ _ _ c.clauses.invariant.undo
      (clauses_notes c.clauses.self _ _ c.add.new.self c.add.ensures.undo);
}
