use Rattle.std.proofs.Common.{refl, sym, ◌∙◌, true≢false}
use Rattle.esc_trail.proofs.Noting.{notes_nothing}
use Rattle.esc_simplex.specs.SimplexUndo.{simplex_undo}
use Rattle.esc_simplex.specs.SimplexLaws.{simplex_lawful}
use Rattle.esc_simplex.proofs.Making.{makes_kept, makes_used, used_now, used_rest}
use Rattle.esc_simplex.proofs.simplex.Simplex.use_again.Goals as goal

pub returns-then-is_used-clause-makes : goal.returns-then-is_used-clause-makes
returns-then-is_used-clause-makes g c = makes_kept c.args.self.now c.args.self.now _ refl refl refl
    refl

pub returns-then-is_used-clause-undo : goal.returns-then-is_used-clause-undo
returns-then-is_used-clause-undo g c = notes_nothing simplex_undo g.R.Carries.carried
    c.args.trail.now.records c.args.trail.now.records c.args.self.now c.args.self.now refl
    (simplex_lawful.reflexive c.args.self.now)

pub list-requires-clause-new : goal.list-requires-clause-new
list-requires-clause-new g c h = true≢false (sym (c.is_used.ensures.1 h) ∙ c.if-is_used.false)

pub returns-clause-ok : goal.returns-clause-ok
returns-clause-ok g c = used_now c.args.self.now c.list.new.self c.args.u c.list.result
    c.list.ensures.ok

pub returns-clause-makes : goal.returns-clause-makes
returns-clause-makes g c = makes_used c.args.self.now c.list.new.self c.args.u c.list.result
    c.list.ensures.ok c.list.ensures.err

pub returns-clause-rest : goal.returns-clause-rest
returns-clause-rest g c = used_rest c.args.self.now c.list.new.self c.args.u c.list.result
    c.list.ensures.ok c.list.ensures.err
