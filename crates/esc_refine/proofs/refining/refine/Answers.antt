use Rattle.std.proofs.Common.{Err, Ok, refl, subst, sym, true}
use Rattle.esc_egraph.specs.declared.state.State.TheVariants.{Closed}
use Rattle.esc_tableau.proofs.RunLaws.{err_is}
use Rattle.esc_live.specs.Calls.{Ends, HoldsWithDecision}
use Rattle.esc_live.specs.Promises.{IsSoundIn}
use Rattle.esc_refine.specs.ThinningInside.{Tells}
use Rattle.esc_refine.proofs.Rounds.{Goes-then, Goes-thinned, Round-starts, Stands-decided}
use Rattle.esc_refine.proofs.Rounds.{Stands-thinned, decided_ends, fewer_left, thin_closed}
use Rattle.esc_refine.proofs.refining.refine.Goals as goal

pub rounds-init : goal.rounds-init
rounds-init c =
    Round-starts c.args.trail.now.records c.args.branch.now _ refl c.requires.branch
    c.requires.given

pub thin-requires : goal.thin-requires
thin-requires c = record { branch = c.rounds.invariant.stands.branch }

-- ---- there is no memory

pub returns-in_default-clause-ends : goal.returns-in_default-clause-ends
returns-in_default-clause-ends c = tt

pub returns-in_default-clause-quiet : goal.returns-in_default-clause-quiet
returns-in_default-clause-quiet c e = cc

pub returns-in_default-clause-goes_on : goal.returns-in_default-clause-goes_on
returns-in_default-clause-goes_on c =
    (Goes-thinned _ _ _ _ _ _ c.rounds.invariant.goes c.thin.ensures.thinner
    c.thin.ensures.undo).goes_on

pub returns-in_default-clause-given : goal.returns-in_default-clause-given
returns-in_default-clause-given c =
    (Goes-thinned _ _ _ _ _ _ c.rounds.invariant.goes c.thin.ensures.thinner
    c.thin.ensures.undo).given

pub returns-in_default-clause-undo : goal.returns-in_default-clause-undo
returns-in_default-clause-undo c =
    (Goes-thinned _ _ _ _ _ _ c.rounds.invariant.goes c.thin.ensures.thinner
    c.thin.ensures.undo).undo

-- ---- a clause has nothing left

pub returns-in-Empty-clause-ends : goal.returns-in-Empty-clause-ends
returns-in-Empty-clause-ends c =
    thin_closed c.args.trail.now.records c.args.branch.now c.rounds.branch c.thin.new.branch
    c.rounds.invariant.stands
    (subst (Tells c.rounds.branch c.thin.new.branch) c.in-Empty.is c.in-Ok.ensures.tells)

pub returns-in-Empty-clause-quiet : goal.returns-in-Empty-clause-quiet
returns-in-Empty-clause-quiet c e = cc

pub returns-in-Empty-clause-goes_on : goal.returns-in-Empty-clause-goes_on
returns-in-Empty-clause-goes_on c =
    (Goes-thinned _ _ _ _ _ _ c.rounds.invariant.goes c.thin.ensures.thinner
    c.thin.ensures.undo).goes_on

pub returns-in-Empty-clause-given : goal.returns-in-Empty-clause-given
returns-in-Empty-clause-given c =
    (Goes-thinned _ _ _ _ _ _ c.rounds.invariant.goes c.thin.ensures.thinner
    c.thin.ensures.undo).given

pub returns-in-Empty-clause-undo : goal.returns-in-Empty-clause-undo
returns-in-Empty-clause-undo c =
    (Goes-thinned _ _ _ _ _ _ c.rounds.invariant.goes c.thin.ensures.thinner
    c.thin.ensures.undo).undo

-- ---- nothing is left to do

pub returns-in-Quiet-clause-ends : goal.returns-in-Quiet-clause-ends
returns-in-Quiet-clause-ends c =
    let stands =
    Stands-thinned c.args.trail.now.records c.args.branch.now c.rounds.branch
    c.thin.new.branch c.in-Ok.told c.rounds.invariant.stands c.in-Ok.ensures.branch
    c.in-Ok.ensures.tells in
    (stands.branch, stands.sound)

pub returns-in-Quiet-clause-quiet : goal.returns-in-Quiet-clause-quiet
returns-in-Quiet-clause-quiet c e =
    (subst (Tells c.rounds.branch c.thin.new.branch) c.in-Quiet.is c.in-Ok.ensures.tells).comes

pub returns-in-Quiet-clause-goes_on : goal.returns-in-Quiet-clause-goes_on
returns-in-Quiet-clause-goes_on c =
    (Goes-thinned _ _ _ _ _ _ c.rounds.invariant.goes c.thin.ensures.thinner
    c.thin.ensures.undo).goes_on

pub returns-in-Quiet-clause-given : goal.returns-in-Quiet-clause-given
returns-in-Quiet-clause-given c =
    (Goes-thinned _ _ _ _ _ _ c.rounds.invariant.goes c.thin.ensures.thinner
    c.thin.ensures.undo).given

pub returns-in-Quiet-clause-undo : goal.returns-in-Quiet-clause-undo
returns-in-Quiet-clause-undo c =
    (Goes-thinned _ _ _ _ _ _ c.rounds.invariant.goes c.thin.ensures.thinner
    c.thin.ensures.undo).undo

-- ---- an item is left alone

pub decide-requires-clause-branch : goal.decide-requires-clause-branch
decide-requires-clause-branch c = c.in-Ok.ensures.branch

pub decide-requires-clause-given : goal.decide-requires-clause-given
decide-requires-clause-given c =
    (Goes-thinned _ _ _ _ _ _ c.rounds.invariant.goes c.thin.ensures.thinner
    c.thin.ensures.undo).given

pub decide-requires-clause-live : goal.decide-requires-clause-live
decide-requires-clause-live c =
    (subst (Tells c.rounds.branch c.thin.new.branch) c.in-Unit.is c.in-Ok.ensures.tells).comes.live

pub decide-requires-clause-undecided : goal.decide-requires-clause-undecided
decide-requires-clause-undecided c =
    (subst (Tells c.rounds.branch c.thin.new.branch) c.in-Unit.is
    c.in-Ok.ensures.tells).comes.undecided

pub returns-in_err-decide-in-Unit-clause-ends : goal.returns-in_err-decide-in-Unit-clause-ends
returns-in_err-decide-in-Unit-clause-ends c =
    subst (Ends c.decide.new.self (λ M. IsSoundIn M c.args.branch.now))
    (sym (err_is c.from_residual.result c.in_err-decide-in-Unit.field-0.0
    c.from_residual.ensures))
    (decided_ends c.args.trail.now.records c.args.branch.now c.rounds.branch c.thin.new.branch
    c.decide.new.self c.in-Unit.at (Err c.in_err-decide-in-Unit.field-0.0)
    c.rounds.invariant.stands
    (subst (Tells c.rounds.branch c.thin.new.branch) c.in-Unit.is c.in-Ok.ensures.tells)
    c.in_err-decide-in-Unit.ensures.ends)

pub returns-in_err-decide-in-Unit-clause-quiet : goal.returns-in_err-decide-in-Unit-clause-quiet
returns-in_err-decide-in-Unit-clause-quiet c e =
    let is =
    err_is c.from_residual.result c.in_err-decide-in-Unit.field-0.0 c.from_residual.ensures in cc

pub returns-in_err-decide-in-Unit-clause-goes_on
    : goal.returns-in_err-decide-in-Unit-clause-goes_on
returns-in_err-decide-in-Unit-clause-goes_on c =
    (Goes-then _ _ _ _ _ _
    (Goes-thinned _ _ _ _ _ _ c.rounds.invariant.goes c.thin.ensures.thinner
    c.thin.ensures.undo)
    c.decide.ensures.goes_on c.decide.ensures.given c.decide.ensures.undo).goes_on

pub returns-in_err-decide-in-Unit-clause-given : goal.returns-in_err-decide-in-Unit-clause-given
returns-in_err-decide-in-Unit-clause-given c = c.decide.ensures.given

pub returns-in_err-decide-in-Unit-clause-undo : goal.returns-in_err-decide-in-Unit-clause-undo
returns-in_err-decide-in-Unit-clause-undo c =
    (Goes-then _ _ _ _ _ _
    (Goes-thinned _ _ _ _ _ _ c.rounds.invariant.goes c.thin.ensures.thinner
    c.thin.ensures.undo)
    c.decide.ensures.goes_on c.decide.ensures.given c.decide.ensures.undo).undo

-- ---- another round

pub rounds-smaller : goal.rounds-smaller
rounds-smaller c =
    let stands =
    Stands-decided c.args.trail.now.records c.args.branch.now c.rounds.branch c.thin.new.branch
    c.decide.new.self c.in-Unit.at c.rounds.invariant.stands
    (subst (Tells c.rounds.branch c.thin.new.branch) c.in-Unit.is c.in-Ok.ensures.tells)
    (subst (λ s. Ends c.decide.new.self
    (HoldsWithDecision c.thin.new.branch (record { at = c.in-Unit.at; holds = true })) (Ok s))
    c.in-Open.is c.in_ok-decide-in-Unit.ensures.ends) in
    fewer_left c.rounds.branch c.thin.new.branch c.decide.new.self _ c.thin.ensures.thinner
    stands.branch c.decide.ensures.goes_on c.in_ok-decide-in-Unit.ensures.decided

pub rounds-preserved : goal.rounds-preserved
rounds-preserved c =
    record {
      goes = Goes-then c.args.trail.now.records c.args.branch.now c.thin.new.trail.records
          c.decide.new.trail.records c.thin.new.branch c.decide.new.self
          (Goes-thinned c.args.trail.now.records c.args.branch.now c.rounds.trail.records
          c.thin.new.trail.records c.rounds.branch c.thin.new.branch c.rounds.invariant.goes
          c.thin.ensures.thinner c.thin.ensures.undo)
          c.decide.ensures.goes_on c.decide.ensures.given c.decide.ensures.undo;
      stands = Stands-decided c.args.trail.now.records c.args.branch.now c.rounds.branch
          c.thin.new.branch c.decide.new.self c.in-Unit.at c.rounds.invariant.stands
          (subst (Tells c.rounds.branch c.thin.new.branch) c.in-Unit.is c.in-Ok.ensures.tells)
          (subst (λ s. Ends c.decide.new.self
          (HoldsWithDecision c.thin.new.branch (record { at = c.in-Unit.at; holds = true }))
          (Ok s)) c.in-Open.is c.in_ok-decide-in-Unit.ensures.ends);
    }

-- ---- what was decided can't be

pub returns-in-Closed-clause-ends : goal.returns-in-Closed-clause-ends
returns-in-Closed-clause-ends c =
    decided_ends c.args.trail.now.records c.args.branch.now c.rounds.branch c.thin.new.branch
    c.decide.new.self c.in-Unit.at (Ok Closed) c.rounds.invariant.stands
    (subst (Tells c.rounds.branch c.thin.new.branch) c.in-Unit.is c.in-Ok.ensures.tells)
    (subst (λ s. Ends c.decide.new.self
    (HoldsWithDecision c.thin.new.branch (record { at = c.in-Unit.at; holds = true })) (Ok s))
    c.in-Closed.is c.in_ok-decide-in-Unit.ensures.ends)

pub returns-in-Closed-clause-quiet : goal.returns-in-Closed-clause-quiet
returns-in-Closed-clause-quiet c e = cc

pub returns-in-Closed-clause-goes_on : goal.returns-in-Closed-clause-goes_on
returns-in-Closed-clause-goes_on c =
    (Goes-then _ _ _ _ _ _
    (Goes-thinned _ _ _ _ _ _ c.rounds.invariant.goes c.thin.ensures.thinner
    c.thin.ensures.undo)
    c.decide.ensures.goes_on c.decide.ensures.given c.decide.ensures.undo).goes_on

pub returns-in-Closed-clause-given : goal.returns-in-Closed-clause-given
returns-in-Closed-clause-given c = c.decide.ensures.given

pub returns-in-Closed-clause-undo : goal.returns-in-Closed-clause-undo
returns-in-Closed-clause-undo c =
    (Goes-then _ _ _ _ _ _
    (Goes-thinned _ _ _ _ _ _ c.rounds.invariant.goes c.thin.ensures.thinner
    c.thin.ensures.undo)
    c.decide.ensures.goes_on c.decide.ensures.given c.decide.ensures.undo).undo
