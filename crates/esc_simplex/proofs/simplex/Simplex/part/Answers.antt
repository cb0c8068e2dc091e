use Rattle.std.proofs.Common.{true≢false, IfErr, sym, ◌∙◌, subst}
use Rattle.std.specs.List.{Contains}
use Rattle.esc_tableau.proofs.RunLaws.{err_is}
use Rattle.esc_simplex.specs.Barred.{IsBarred}
use Rattle.esc_simplex.specs.Calls.{ExceedShows, both_gaps}
use Rattle.esc_simplex.specs.SimplexLaws.{simplex_lawful}
use Rattle.esc_simplex.proofs.Alike.{barred_first, barred_second, below_back, equal_when, for_kept, parted_back}
use Rattle.esc_simplex.proofs.Parting.{parted_at_sample}
use Rattle.esc_simplex.proofs.Undoing.{keeps_lists_both}
use Rattle.esc_simplex.proofs.simplex.Simplex.part.Goals as goal

pub returns-then-not-are_alike-clause-ends : goal.returns-then-not-are_alike-clause-ends
returns-then-not-are_alike-clause-ends c =
    parted_at_sample c.args.self.now c.requires.simplex c.args.u c.args.v c.requires.u c.requires.v
    (λ e. true≢false (sym (c.are_alike.ensures.1 (c.value.ensures.value ∙ e
    ∙ sym c.value-2.ensures.value)) ∙ c.if-not-are_alike.true))

pub returns-in_err-above-clause-stop : goal.returns-in_err-above-clause-stop
returns-in_err-above-clause-stop c =
    subst (λ r. IfErr r (IsBarred c.exceeds.new.self (λ t. ⊥)
    (Contains (both_gaps c.args.self.now c.args.u c.args.v))))
    (sym (err_is c.from_residual.result c.in_err-above.field-0.0 c.from_residual.ensures))
    (barred_first c.args.self.now c.exceeds.new.self c.args.u c.args.v c.in_err-above.field-0.0
    c.in_err-above.ensures.stop)

pub returns-then-above-clause-ends : goal.returns-then-above-clause-ends
returns-then-above-clause-ends c = subst (ExceedShows c.args.self.now c.args.u c.args.v)
    c.if-above.true c.in_ok-above.ensures.ends

pub exceeds-requires-2-clause-upper : goal.exceeds-requires-2-clause-upper
exceeds-requires-2-clause-upper c = for_kept c.args.self.now c.exceeds.new.self c.args.v
    c.exceeds.ensures.keeps c.requires.v

pub exceeds-requires-2-clause-lower : goal.exceeds-requires-2-clause-lower
exceeds-requires-2-clause-lower c = for_kept c.args.self.now c.exceeds.new.self c.args.u
    c.exceeds.ensures.keeps c.requires.u

pub returns-in_err-below-clause-stop : goal.returns-in_err-below-clause-stop
returns-in_err-below-clause-stop c =
    subst (λ r. IfErr r (IsBarred c.exceeds-2.new.self (λ t. ⊥)
    (Contains (both_gaps c.args.self.now c.args.u c.args.v))))
    (sym (err_is c.from_residual-in_err-below.result c.in_err-below.field-0.0
    c.from_residual-in_err-below.ensures))
    (barred_second c.args.self.now c.exceeds.new.self c.exceeds-2.new.self c.args.u c.args.v
    c.in_err-below.field-0.0 c.exceeds.ensures.keeps c.in_err-below.ensures.stop)

pub returns-in_err-below-clause-keeps : goal.returns-in_err-below-clause-keeps
returns-in_err-below-clause-keeps c = keeps_lists_both c.args.self.now c.exceeds.new.self
    c.exceeds-2.new.self c.exceeds.ensures.keeps c.exceeds-2.ensures.keeps

pub returns-then-below-clause-ends : goal.returns-then-below-clause-ends
returns-then-below-clause-ends c =
    let parted = parted_back c.args.self.now c.exceeds.new.self c.args.v c.args.u
    c.exceeds.ensures.keeps c.exceeds.ensures.restricted
    (subst (ExceedShows c.exceeds.new.self c.args.v c.args.u) c.if-below.true
    c.in_ok-below.ensures.ends) in
    (parted.0, parted.1, λ e. parted.2 (sym e))

pub returns-then-below-clause-keeps : goal.returns-then-below-clause-keeps
returns-then-below-clause-keeps c = keeps_lists_both c.args.self.now c.exceeds.new.self
    c.exceeds-2.new.self c.exceeds.ensures.keeps c.exceeds-2.ensures.keeps

pub returns-clause-ends : goal.returns-clause-ends
returns-clause-ends c =
    equal_when c.args.self.now c.args.u c.args.v
    (subst (ExceedShows c.args.self.now c.args.u c.args.v) c.if-above.false
    c.in_ok-above.ensures.ends)
    (below_back c.args.self.now c.exceeds.new.self c.args.v c.args.u c.exceeds.ensures.keeps
    c.exceeds.ensures.restricted
    (subst (ExceedShows c.exceeds.new.self c.args.v c.args.u) c.if-below.false
    c.in_ok-below.ensures.ends))

pub returns-clause-keeps : goal.returns-clause-keeps
returns-clause-keeps c = keeps_lists_both c.args.self.now c.exceeds.new.self c.exceeds-2.new.self
    c.exceeds.ensures.keeps c.exceeds-2.ensures.keeps

pub returns-in_err-below-clause-same : goal.returns-in_err-below-clause-same
returns-in_err-below-clause-same c = simplex_lawful.transitive c.exceeds-2.new.self c.exceeds.new.self
    c.args.self.now c.exceeds-2.ensures.same c.exceeds.ensures.same

pub returns-then-below-clause-same : goal.returns-then-below-clause-same
returns-then-below-clause-same c = simplex_lawful.transitive c.exceeds-2.new.self c.exceeds.new.self
    c.args.self.now c.exceeds-2.ensures.same c.exceeds.ensures.same

pub returns-clause-same : goal.returns-clause-same
returns-clause-same c = simplex_lawful.transitive c.exceeds-2.new.self c.exceeds.new.self
    c.args.self.now c.exceeds-2.ensures.same c.exceeds.ensures.same

pub returns-then-not-are_alike-clause-same : goal.returns-then-not-are_alike-clause-same
returns-then-not-are_alike-clause-same c = simplex_lawful.reflexive c.args.self.now
