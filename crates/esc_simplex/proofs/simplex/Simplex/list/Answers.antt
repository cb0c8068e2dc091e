use Rattle.std.proofs.Common.{sym, subst}
use Rattle.esc_trail.specs.Undo.{Notes}
use Rattle.esc_trail.proofs.Noting.{notes_nothing, notes_one}
use Rattle.esc_simplex.specs.SimplexUndo.{simplex_undo}
use Rattle.esc_simplex.specs.SimplexLaws.{simplex_lawful}
use Rattle.esc_simplex.specs.View.{IsSimplex}
use Rattle.esc_simplex.specs.declared.record.SimplexRec.TheVariants.{Listed}
use Rattle.esc_simplex.proofs.Listing.{can_unlist, same_unlisted, simplex_listed}
use Rattle.esc_simplex.proofs.Noted.{noted_one}
use Rattle.esc_simplex.proofs.simplex.Simplex.list.Goals as goal

pub returns-in_err-reserve-clause-undo : goal.returns-in_err-reserve-clause-undo
returns-in_err-reserve-clause-undo g c =
    notes_nothing simplex_undo g.R.Carries.carried c.args.trail.now.records
    c.reserve.new.self.records c.args.self.now c.args.self.now c.reserve.ensures.records
    (simplex_lawful.reflexive c.args.self.now)

pub returns-in_err-push-clause-simplex : goal.returns-in_err-push-clause-simplex
returns-in_err-push-clause-simplex g c =
    subst (λ bs. IsSimplex (record c.args.self.now { unknowns = bs }))
    (sym c.in_err-push.ensures.err) c.requires.simplex

pub returns-in_err-push-clause-undo : goal.returns-in_err-push-clause-undo
returns-in_err-push-clause-undo g c =
    subst (λ bs. Notes simplex_undo g.R.Carries.carried c.args.trail.now.records
    c.reserve.new.self.records c.args.self.now (record c.args.self.now { unknowns = bs }))
    (sym c.in_err-push.ensures.err)
    (notes_nothing simplex_undo g.R.Carries.carried c.args.trail.now.records
    c.reserve.new.self.records c.args.self.now c.args.self.now c.reserve.ensures.records
    (simplex_lawful.reflexive c.args.self.now))

pub returns-clause-simplex : goal.returns-clause-simplex
returns-clause-simplex g c =
    subst (λ bs. IsSimplex (record c.args.self.now { unknowns = bs })) (sym c.in_ok-push.ensures.ok)
    (simplex_listed c.args.self.now c.requires.simplex c.args.u c.requires.there c.requires.new)

pub returns-clause-undo : goal.returns-clause-undo
returns-clause-undo g c =
    subst (λ bs. Notes simplex_undo g.R.Carries.carried c.args.trail.now.records
    c.note.new.self.records c.args.self.now (record c.args.self.now { unknowns = bs }))
    (sym c.in_ok-push.ensures.ok)
    (notes_one simplex_undo g.R.Carries.carried c.args.trail.now.records c.note.new.self.records
    c.args.self.now _ Listed
    (noted_one c.args.trail.now.records c.reserve.new.self.records c.note.new.self.records
    c.carry.result (g.R.Carries.carried Listed) c.note.ensures.records c.reserve.ensures.records
    c.carry.ensures)
    (can_unlist c.args.self.now c.requires.simplex c.args.u c.requires.there c.requires.new)
    (same_unlisted c.args.self.now c.requires.simplex c.args.u c.requires.there c.requires.new))
