use Rattle.std.proofs.Common.{inl, inr, true≢false, [], ◌∷◌, ◌++◌, refl, sym, ap, ◌∙◌, subst}
use Rattle.std.specs.List.{Contains}
use Rattle.esc_trail.proofs.Noting.{notes_nothing}
use Rattle.esc_simplex.specs.Calls.{LiftShows}
use Rattle.esc_simplex.specs.SimplexUndo.{simplex_undo}
use Rattle.esc_simplex.specs.SimplexLaws.{simplex_lawful}
use Rattle.esc_simplex.specs.declared.simplex.Simplex.{Simplex}
use Rattle.esc_simplex.proofs.Lifted.{above_restricted}
use Rattle.esc_simplex.proofs.Undoing.{keeps_lists_both, notes_from_same}
use Rattle.esc_simplex.proofs.simplex.Simplex.at_least_zero.Goals as goal

pub returns-then-is_restricted-clause-ends : goal.returns-then-is_restricted-clause-ends
returns-then-is_restricted-clause-ends g c =
    let there = c.is_restricted.ensures.0 c.if-is_restricted.true in
    (inl (there, refl), above_restricted c.args.self.now c.requires.simplex c.args.u there)

pub returns-then-is_restricted-clause-undo : goal.returns-then-is_restricted-clause-undo
returns-then-is_restricted-clause-undo g c = notes_nothing simplex_undo g.R.Carries.carried
    c.args.trail.now.records c.args.trail.now.records c.args.self.now c.args.self.now refl
    (simplex_lawful.reflexive c.args.self.now)

pub returns-in_err-lifted-clause-undo : goal.returns-in_err-lifted-clause-undo
returns-in_err-lifted-clause-undo g c = notes_nothing simplex_undo g.R.Carries.carried
    c.args.trail.now.records c.args.trail.now.records c.args.self.now c.lift.new.self refl
    c.lift.ensures.same

pub returns-then-not-lifted-clause-ends : goal.returns-then-not-lifted-clause-ends
returns-then-not-lifted-clause-ends g c = (
  c.lift.ensures.restricted,
  subst (LiftShows c.args.self.now c.lift.new.self c.args.u)
      c.if-not-lifted.true c.in_ok-lifted.ensures.ends,
)

pub returns-then-not-lifted-clause-undo : goal.returns-then-not-lifted-clause-undo
returns-then-not-lifted-clause-undo g c = notes_nothing simplex_undo g.R.Carries.carried
    c.args.trail.now.records c.args.trail.now.records c.args.self.now c.lift.new.self refl
    c.lift.ensures.same

pub restrict-requires-clause-u : goal.restrict-requires-clause-u
restrict-requires-clause-u g c = subst (λ us. Contains us c.args.u)
    (sym c.lift.ensures.keeps.unknowns) c.requires.u

pub restrict-requires-clause-new : goal.restrict-requires-clause-new
restrict-requires-clause-new g c h =
    true≢false (sym (c.is_restricted.ensures.1 (subst (λ rs. Contains rs c.args.u)
    c.lift.ensures.restricted h)) ∙ c.if-is_restricted.false)

pub restrict-requires-clause-sample : goal.restrict-requires-clause-sample
restrict-requires-clause-sample g c = (subst (LiftShows c.args.self.now c.lift.new.self c.args.u)
    c.if-not-lifted.false c.in_ok-lifted.ensures.ends).0

pub returns-in-Ok-clause-ends : goal.returns-in-Ok-clause-ends
returns-in-Ok-clause-ends g c = (
  inr (c.in-Ok.ensures.ok ∙ ap (λ rs. rs ++ c.args.u ∷ []) c.lift.ensures.restricted),
  (subst (LiftShows c.args.self.now c.lift.new.self c.args.u) c.if-not-lifted.false
      c.in_ok-lifted.ensures.ends).1,
)

pub returns-in-Ok-clause-keeps : goal.returns-in-Ok-clause-keeps
returns-in-Ok-clause-keeps g c = keeps_lists_both c.args.self.now c.lift.new.self
    c.restrict.new.self c.lift.ensures.keeps c.restrict.ensures.keeps

pub returns-in-Ok-clause-undo : goal.returns-in-Ok-clause-undo
returns-in-Ok-clause-undo g c = notes_from_same g.R.Carries.carried c.args.trail.now.records
    c.restrict.new.trail.records c.args.self.now c.lift.new.self c.restrict.new.self
    c.lift.ensures.same c.restrict.ensures.undo

pub returns-in-Err-clause-ends : goal.returns-in-Err-clause-ends
returns-in-Err-clause-ends g c = ap (λ (s : Simplex). s.restricted) c.in-Err.ensures.err
    ∙ c.lift.ensures.restricted

pub returns-in-Err-clause-keeps : goal.returns-in-Err-clause-keeps
returns-in-Err-clause-keeps g c = keeps_lists_both c.args.self.now c.lift.new.self
    c.restrict.new.self c.lift.ensures.keeps c.restrict.ensures.keeps

pub returns-in-Err-clause-undo : goal.returns-in-Err-clause-undo
returns-in-Err-clause-undo g c = notes_from_same g.R.Carries.carried c.args.trail.now.records
    c.restrict.new.trail.records c.args.self.now c.lift.new.self c.restrict.new.self
    c.lift.ensures.same c.restrict.ensures.undo
