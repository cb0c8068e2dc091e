use Rattle.std.proofs.Common.{sym, subst}
use Rattle.esc_trail.specs.Undo.{Notes}
use Rattle.esc_trail.proofs.Noting.{notes_nothing, notes_one}
use Rattle.esc_simplex.specs.SimplexUndo.{simplex_undo}
use Rattle.esc_simplex.specs.SimplexLaws.{simplex_lawful}
use Rattle.esc_simplex.specs.View.{IsSimplex}
use Rattle.esc_simplex.specs.declared.record.SimplexRec.TheVariants.{Restricted}
use Rattle.esc_simplex.proofs.Kept.{can_unrestrict, same_unrestricted, simplex_restricted}
use Rattle.esc_simplex.proofs.Noted.{noted_one}
use Rattle.esc_simplex.proofs.Points.{used_in_rows}
use Rattle.esc_simplex.proofs.simplex.Simplex.restrict.Goals as goal

pub returns-in_err-reserve-clause-undo : goal.returns-in_err-reserve-clause-undo
returns-in_err-reserve-clause-undo g c =
    notes_nothing simplex_undo g.R.Carries.carried c.args.trail.now.records
    c.reserve.new.self.records c.args.self.now c.args.self.now c.reserve.ensures.records
    (simplex_lawful.reflexive c.args.self.now)

pub returns-in_err-push-clause-simplex : goal.returns-in_err-push-clause-simplex
returns-in_err-push-clause-simplex g c =
    subst (λ rs. IsSimplex (record c.args.self.now { restricted = rs }))
    (sym c.in_err-push.ensures.err) c.requires.simplex

pub returns-in_err-push-clause-undo : goal.returns-in_err-push-clause-undo
returns-in_err-push-clause-undo g c =
    subst (λ rs. Notes simplex_undo g.R.Carries.carried c.args.trail.now.records
    c.reserve.new.self.records c.args.self.now (record c.args.self.now { restricted = rs }))
    (sym c.in_err-push.ensures.err)
    (notes_nothing simplex_undo g.R.Carries.carried c.args.trail.now.records
    c.reserve.new.self.records c.args.self.now c.args.self.now c.reserve.ensures.records
    (simplex_lawful.reflexive c.args.self.now))

pub restrict-requires-clause-unknown : goal.restrict-requires-clause-unknown
restrict-requires-clause-unknown g c = used_in_rows c.args.self.now c.requires.simplex c.args.u
    c.requires.u

pub returns-clause-simplex : goal.returns-clause-simplex
returns-clause-simplex g c =
    subst (λ rs. IsSimplex (record c.args.self.now
    { tableau = c.restrict.new.self; restricted = rs })) (sym c.in_ok-push.ensures.ok)
    (simplex_restricted c.args.self.now c.requires.simplex c.restrict.new.self c.args.u
    c.restrict.ensures.table c.restrict.ensures.restricts c.requires.u c.requires.new)

pub returns-clause-undo : goal.returns-clause-undo
returns-clause-undo g c =
    subst (λ rs. Notes simplex_undo g.R.Carries.carried c.args.trail.now.records
    c.note.new.self.records c.args.self.now (record c.args.self.now
    { tableau = c.restrict.new.self; restricted = rs })) (sym c.in_ok-push.ensures.ok)
    (notes_one simplex_undo g.R.Carries.carried c.args.trail.now.records c.note.new.self.records
    c.args.self.now _ Restricted
    (noted_one c.args.trail.now.records c.reserve.new.self.records c.note.new.self.records
    c.carry.result (g.R.Carries.carried Restricted) c.note.ensures.records
    c.reserve.ensures.records c.carry.ensures)
    (can_unrestrict c.args.self.now c.requires.simplex c.restrict.new.self c.args.u
    c.restrict.ensures.table c.restrict.ensures.restricts c.requires.u c.requires.new)
    (same_unrestricted c.args.self.now c.requires.simplex c.restrict.new.self c.args.u
    c.restrict.ensures.table c.restrict.ensures.restricts c.requires.u c.requires.new))
