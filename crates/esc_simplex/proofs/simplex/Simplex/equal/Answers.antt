use Rattle.std.proofs.Common.{inl, Ok, IfErr, false, sym, subst}
use Rattle.std.specs.List.{Contains}
use Rattle.esc_tableau.proofs.RunLaws.{err_is}
use Rattle.esc_trail.proofs.Noting.{notes_both}
use Rattle.esc_simplex.specs.Barred.{IsBarred}
use Rattle.esc_simplex.specs.Calls.{EqualEnds, EqualRestricts, both_gaps, gap_in}
use Rattle.esc_simplex.specs.MakingInside.{GapRestrictedEnds, GapRestricts}
use Rattle.esc_simplex.specs.SimplexUndo.{simplex_undo}
use Rattle.esc_simplex.specs.SimplexLaws.{simplex_lawful}
use Rattle.esc_simplex.proofs.Alike.{barred_first}
use Rattle.esc_simplex.proofs.Equalled.{barred_at_second, closed_at_first, ends_second, gap_later, makes_first, makes_second, restricts_second, stopped_at_first}
use Rattle.esc_simplex.proofs.Making.{for_later}
use Rattle.esc_simplex.proofs.simplex.Simplex.equal.Goals as goal

pub returns-in_err-state-clause-ends : goal.returns-in_err-state-clause-ends
returns-in_err-state-clause-ends g c = subst (EqualEnds c.args.self.now c.restrict_gap.new.self
    c.args.u c.args.v)
    (sym (err_is c.from_residual.result c.in_err-state.field-0.0 c.from_residual.ensures))
    (stopped_at_first c.args.self.now c.args.u c.args.v c.requires.u c.requires.v
    c.restrict_gap.new.self c.in_err-state.field-0.0 c.in_err-state.ensures.ends)

pub returns-in_err-state-clause-restricts : goal.returns-in_err-state-clause-restricts
returns-in_err-state-clause-restricts g c = subst (EqualRestricts c.args.self.now
    c.restrict_gap.new.self c.args.u c.args.v)
    (sym (err_is c.from_residual.result c.in_err-state.field-0.0 c.from_residual.ensures))
    (inl c.in_err-state.ensures.restricts)

pub returns-in_err-state-clause-stop : goal.returns-in_err-state-clause-stop
returns-in_err-state-clause-stop g c = subst (λ r. IfErr r (IsBarred c.restrict_gap.new.self
    (λ t. ⊥) (Contains (both_gaps c.args.self.now c.args.u c.args.v))))
    (sym (err_is c.from_residual.result c.in_err-state.field-0.0 c.from_residual.ensures))
    (barred_first c.args.self.now c.restrict_gap.new.self c.args.u c.args.v
    c.in_err-state.field-0.0 c.in_err-state.ensures.stop)

pub returns-in_err-state-clause-makes : goal.returns-in_err-state-clause-makes
returns-in_err-state-clause-makes g c = makes_first c.args.self.now c.args.u c.args.v
    c.restrict_gap.new.self c.restrict_gap.ensures.makes

pub restrict_gap-requires-in-Open-clause-u : goal.restrict_gap-requires-in-Open-clause-u
restrict_gap-requires-in-Open-clause-u g c = for_later c.args.self.now c.restrict_gap.new.self _
    c.restrict_gap.ensures.makes c.args.v c.requires.v

pub restrict_gap-requires-in-Open-clause-v : goal.restrict_gap-requires-in-Open-clause-v
restrict_gap-requires-in-Open-clause-v g c = for_later c.args.self.now c.restrict_gap.new.self _
    c.restrict_gap.ensures.makes c.args.u c.requires.u

pub returns-in-Closed-clause-ends : goal.returns-in-Closed-clause-ends
returns-in-Closed-clause-ends g c = closed_at_first c.args.self.now c.args.u c.args.v
    c.requires.u c.requires.v c.restrict_gap.new.self
    (subst (λ s. GapRestrictedEnds c.args.self.now c.restrict_gap.new.self
    (gap_in c.args.self.now c.args.u c.args.v false) (Ok s)) c.in-Closed.is
    c.in_ok-state.ensures.ends)

pub returns-in-Closed-clause-restricts : goal.returns-in-Closed-clause-restricts
returns-in-Closed-clause-restricts g c = inl (subst (λ s. GapRestricts c.args.self.now
    c.restrict_gap.new.self (gap_in c.args.self.now c.args.u c.args.v false) (Ok s)) c.in-Closed.is
    c.in_ok-state.ensures.restricts)

pub returns-in-Closed-clause-makes : goal.returns-in-Closed-clause-makes
returns-in-Closed-clause-makes g c = makes_first c.args.self.now c.args.u c.args.v
    c.restrict_gap.new.self c.restrict_gap.ensures.makes

pub returns-in-Open-clause-ends : goal.returns-in-Open-clause-ends
returns-in-Open-clause-ends g c = ends_second c.args.self.now c.restrict_gap.new.self c.args.u
    c.args.v c.requires.u c.requires.v _ c.restrict_gap.ensures.makes
    c.restrict_gap-in-Open.new.self
    (subst (λ s. GapRestrictedEnds c.args.self.now c.restrict_gap.new.self
    (gap_in c.args.self.now c.args.u c.args.v false) (Ok s)) c.in-Open.is
    c.in_ok-state.ensures.ends).0
    c.restrict_gap-in-Open.result c.restrict_gap-in-Open.ensures.ends

pub returns-in-Open-clause-restricts : goal.returns-in-Open-clause-restricts
returns-in-Open-clause-restricts g c = restricts_second c.args.self.now c.restrict_gap.new.self
    c.args.u c.args.v c.requires.u c.requires.v _ c.restrict_gap.ensures.makes
    c.restrict_gap-in-Open.new.self _ c.restrict_gap-in-Open.ensures.makes
    (subst (λ s. GapRestricts c.args.self.now c.restrict_gap.new.self
    (gap_in c.args.self.now c.args.u c.args.v false) (Ok s)) c.in-Open.is
    c.in_ok-state.ensures.restricts)
    c.restrict_gap-in-Open.result c.restrict_gap-in-Open.ensures.restricts

pub returns-in-Open-clause-stop : goal.returns-in-Open-clause-stop
returns-in-Open-clause-stop g c = barred_at_second c.args.self.now c.restrict_gap.new.self
    c.restrict_gap-in-Open.new.self c.args.u c.args.v
    (gap_later c.args.self.now c.restrict_gap.new.self c.args.u c.args.v c.requires.u c.requires.v
    _ c.restrict_gap.ensures.makes)
    c.restrict_gap-in-Open.result c.restrict_gap-in-Open.ensures.stop

pub returns-in-Open-clause-makes : goal.returns-in-Open-clause-makes
returns-in-Open-clause-makes g c = makes_second c.args.self.now c.args.u c.args.v
    c.restrict_gap.new.self c.restrict_gap-in-Open.new.self c.restrict_gap.ensures.simplex
    (gap_later c.args.self.now c.restrict_gap.new.self c.args.u c.args.v c.requires.u c.requires.v
    _ c.restrict_gap.ensures.makes)
    c.restrict_gap.ensures.makes c.restrict_gap-in-Open.ensures.makes

pub returns-in-Open-clause-undo : goal.returns-in-Open-clause-undo
returns-in-Open-clause-undo g c = notes_both simplex_undo simplex_lawful g.R.Carries.carried
    c.args.trail.now.records c.restrict_gap.new.trail.records
    c.restrict_gap-in-Open.new.trail.records c.args.self.now c.restrict_gap.new.self
    c.restrict_gap-in-Open.new.self c.restrict_gap.ensures.undo
    c.restrict_gap-in-Open.ensures.undo
