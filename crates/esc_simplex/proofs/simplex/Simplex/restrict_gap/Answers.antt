use Rattle.std.proofs.Common.{◌≡◌, IfErr, false, sym, subst}
use Rattle.esc_tableau.proofs.RunLaws.{err_is}
use Rattle.esc_trail.proofs.Noting.{notes_both}
use Rattle.esc_simplex.specs.Barred.{IsBarred}
use Rattle.esc_simplex.specs.Calls.{gap_in}
use Rattle.esc_simplex.specs.MakingInside.{GapRestrictedEnds, GapRestricts}
use Rattle.esc_simplex.specs.SimplexUndo.{simplex_undo}
use Rattle.esc_simplex.specs.SimplexLaws.{simplex_lawful}
use Rattle.esc_simplex.proofs.Equalled.{barred_once, gap_ends, gap_restricts}
use Rattle.esc_simplex.proofs.Making.{allows_alike, makes_keeping, restrictions_later}
use Rattle.esc_simplex.proofs.simplex.Simplex.restrict_gap.Goals as goal

pub returns-in_err-gap-clause-ends : goal.returns-in_err-gap-clause-ends
returns-in_err-gap-clause-ends g c = subst (GapRestrictedEnds c.args.self.now c.gap.new.self
    (gap_in c.args.self.now c.args.u c.args.v false))
    (sym (err_is c.from_residual.result c.in_err-gap.field-0.0 c.from_residual.ensures))
    (allows_alike c.args.self.now c.gap.new.self _ c.gap.ensures.makes c.requires.simplex
    c.gap.ensures.restricted)

pub returns-in_err-gap-clause-restricts : goal.returns-in_err-gap-clause-restricts
returns-in_err-gap-clause-restricts g c = subst (GapRestricts c.args.self.now c.gap.new.self
    (gap_in c.args.self.now c.args.u c.args.v false))
    (sym (err_is c.from_residual.result c.in_err-gap.field-0.0 c.from_residual.ensures))
    c.gap.ensures.restricted

pub returns-in_err-gap-clause-stop : goal.returns-in_err-gap-clause-stop
returns-in_err-gap-clause-stop g c = subst (λ r. IfErr r (IsBarred c.gap.new.self (λ t. ⊥) (λ f. f
    ≡ gap_in c.args.self.now c.args.u c.args.v false)))
    (sym (err_is c.from_residual.result c.in_err-gap.field-0.0 c.from_residual.ensures))
    c.in_err-gap.ensures.stop

pub at_least_zero-requires-clause-u : goal.at_least_zero-requires-clause-u
at_least_zero-requires-clause-u g c = c.in_ok-gap.ensures.ok.listed

pub returns-clause-ends : goal.returns-clause-ends
returns-clause-ends g c = gap_ends c.args.self.now c.gap.new.self c.at_least_zero.new.self
    c.gap.ensures.simplex c.in_ok-gap.gap (gap_in c.args.self.now c.args.u c.args.v false)
    (restrictions_later c.args.self.now c.gap.new.self _ c.gap.ensures.makes c.requires.simplex
    c.gap.ensures.restricted) c.in_ok-gap.ensures.ok c.at_least_zero.ensures.keeps
    c.at_least_zero.result c.at_least_zero.ensures.ends

pub returns-clause-restricts : goal.returns-clause-restricts
returns-clause-restricts g c = gap_restricts c.args.self.now c.gap.new.self
    c.at_least_zero.new.self c.requires.simplex c.in_ok-gap.gap
    (gap_in c.args.self.now c.args.u c.args.v false) c.in_ok-gap.ensures.new
    c.gap.ensures.restricted c.in_ok-gap.ensures.ok c.at_least_zero.ensures.keeps
    c.at_least_zero.result c.at_least_zero.ensures.ends

pub returns-clause-stop : goal.returns-clause-stop
returns-clause-stop g c = barred_once c.at_least_zero.new.self
    (gap_in c.args.self.now c.args.u c.args.v false) c.at_least_zero.result
    c.at_least_zero.ensures.stop

pub returns-clause-makes : goal.returns-clause-makes
returns-clause-makes g c = makes_keeping c.args.self.now c.gap.new.self c.at_least_zero.new.self _
    c.gap.ensures.makes c.at_least_zero.ensures.keeps

pub returns-clause-undo : goal.returns-clause-undo
returns-clause-undo g c = notes_both simplex_undo simplex_lawful g.R.Carries.carried
    c.args.trail.now.records c.gap.new.trail.records c.at_least_zero.new.trail.records
    c.args.self.now c.gap.new.self c.at_least_zero.new.self c.gap.ensures.undo
    c.at_least_zero.ensures.undo
