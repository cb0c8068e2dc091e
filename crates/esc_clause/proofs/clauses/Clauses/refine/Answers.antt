use Rattle.std.proofs.Common.{◌<◌, ◌≤◌, length, refl, arith}
use Rattle.std.proofs.lemmas.Grind.{common_steps}
use Rattle.esc_trail.proofs.Lawful.{equal_is_lawful}
use Rattle.esc_trail.proofs.Noting.{notes_both}
use Rattle.esc_clause.specs.ClausesUndo.{clauses_undo, clauses_back, CanGoBack}
use Rattle.esc_clause.proofs.Refining.{Passing-more, Refining-empty, Refining-length, Refining-more}
use Rattle.esc_clause.proofs.Refining.{Refining-done, Refining-starts, Refining-stops}
use Rattle.esc_clause.proofs.Refining.{Refining-told}
use Rattle.esc_clause.proofs.clauses.Clauses.refine.Goals as goal

pub clauses-init : goal.clauses-init
clauses-init g c = Refining-starts g.R.Carries.carried _ c.args.self.now _ _ refl

pub settle-requires-clause-there : goal.settle-requires-clause-there
settle-requires-clause-there g c =
    let there : c.clauses.at < length c.args.self.now.clauses = grind (arith, common_steps) in
    omega (
      arith,
      there,
      Refining-length g.R.Carries.carried _ c.args.self.now _ _ _ _ _
          c.clauses.invariant.0,
    )

pub returns-in_err-here-clause-undo : goal.returns-in_err-here-clause-undo
returns-in_err-here-clause-undo g c =
    notes_both clauses_undo (equal_is_lawful clauses_back CanGoBack) g.R.Carries.carried _ _ _ _ _
    _ c.clauses.invariant.0.undo c.settle.ensures.undo

pub returns-then-is_empty : goal.returns-then-is_empty
returns-then-is_empty g c =
    let there : c.clauses.at < length c.args.self.now.clauses = grind (arith, common_steps) in
    let empty = c.is_empty.ensures.0 c.if-is_empty.true in
    record {
      exact =
          Refining-empty g.R.Carries.carried _ c.args.self.now _ _ _ _ _ _ _ _ _
          c.clauses.invariant there c.joined-told.ensures c.in_ok-here.ensures.exact
          c.in_ok-here.ensures.ok c.settle.ensures.undo empty;
      ok =
          Refining-stops g.R.Carries.carried _ c.args.self.now _ _ _ _ _ _ _ _ _
          c.clauses.invariant there c.joined-told.ensures c.in_ok-here.ensures.exact
          c.in_ok-here.ensures.ok c.settle.ensures.undo empty;
      err = tt;
      undo =
          (Refining-more g.R.Carries.carried _ c.args.self.now _ _ _ _ _ _ _ _ _
          c.clauses.invariant there c.joined-told.ensures c.in_ok-here.ensures.exact
          c.in_ok-here.ensures.ok c.settle.ensures.undo).undo;
    }

pub clauses-preserved : goal.clauses-preserved
clauses-preserved g c =
    let there : c.clauses.at < length c.args.self.now.clauses = grind (arith, common_steps) in
    Passing-more g.R.Carries.carried (g.J.Judge.judged c.args.judge.now) c.args.self.now
    c.args.trail.now.records c.clauses.self c.clauses.trail.records c.clauses.at c.clauses.told
    c.settle.new.self c.settle.new.trail.records c.in_ok-here.here c.joined-told.result
    c.clauses.invariant there c.joined-told.ensures c.in_ok-here.ensures.exact
    c.in_ok-here.ensures.ok c.settle.ensures.undo
    (λ e. let empty = c.is_empty.ensures.1 e in cc)

pub returns-clause-exact : goal.returns-clause-exact
returns-clause-exact g c =
    let past : length c.args.self.now.clauses ≤ c.clauses.at = grind (arith, common_steps) in
    Refining-told g.R.Carries.carried _ c.args.self.now _ _ _ _ _ c.clauses.invariant.0 past

pub returns-clause-ok : goal.returns-clause-ok
returns-clause-ok g c =
    let past : length c.args.self.now.clauses ≤ c.clauses.at = grind (arith, common_steps) in
    Refining-done g.R.Carries.carried _ c.args.self.now _ _ _ _ _ c.clauses.invariant past
