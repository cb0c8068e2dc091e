use Rattle.std.proofs.Common.{◌≡◌, refl, ap, ◌∙◌, arith}
use Rattle.esc_trail.proofs.Noting.{notes_nothing}
use Rattle.esc_simplex.specs.Senses.{term}
use Rattle.esc_simplex.specs.SimplexUndo.{simplex_undo}
use Rattle.esc_simplex.specs.View.{sense_in}
use Rattle.esc_simplex.specs.declared.simplex.Simplex.{Simplex}
use Rattle.esc_simplex.proofs.Gapped.{many}
use Rattle.esc_simplex.proofs.Making.{makes_both, makes_more, stands_later}
use Rattle.esc_simplex.proofs.Undoing.{notes_from_same}
use Rattle.esc_simplex.proofs.simplex.Simplex.opaque_unknown.Goals as goal

pub returns-in_err-unknown-clause-restricted : goal.returns-in_err-unknown-clause-restricted
returns-in_err-unknown-clause-restricted g c = ap (λ (s : Simplex). s.restricted)
    c.column_for.ensures.rest

pub returns-in_err-unknown-clause-undo : goal.returns-in_err-unknown-clause-undo
returns-in_err-unknown-clause-undo g c = notes_nothing simplex_undo g.R.Carries.carried
    c.args.trail.now.records c.args.trail.now.records c.args.self.now c.column_for.new.self refl
    c.column_for.ensures.same

pub use_again-requires-clause-there : goal.use_again-requires-clause-there
use_again-requires-clause-there g c = omega (
  arith,
  c.in_ok-unknown.ensures.stands.there,
  many c.column_for.new.self,
)

pub returns-in_err-use_again-clause-makes : goal.returns-in_err-use_again-clause-makes
returns-in_err-use_again-clause-makes g c = makes_both c.args.self.now c.column_for.new.self
    c.use_again.new.self (λ s. s ≡ term c.args.term.now) c.column_for.ensures.simplex
    c.column_for.ensures.makes (makes_more c.column_for.new.self c.use_again.new.self
    (λ s. s ≡ sense_in c.column_for.new.self c.in_ok-unknown.unknown)
    (λ s. s ≡ term c.args.term.now) (λ s e. e ∙ c.in_ok-unknown.ensures.stands.is)
    c.use_again.ensures.makes)

pub returns-in_err-use_again-clause-restricted : goal.returns-in_err-use_again-clause-restricted
returns-in_err-use_again-clause-restricted g c = ap (λ (s : Simplex). s.restricted)
    c.use_again.ensures.rest ∙ ap (λ (s : Simplex). s.restricted) c.column_for.ensures.rest

pub returns-in_err-use_again-clause-undo : goal.returns-in_err-use_again-clause-undo
returns-in_err-use_again-clause-undo g c = notes_from_same g.R.Carries.carried
    c.args.trail.now.records c.use_again.new.trail.records c.args.self.now c.column_for.new.self
    c.use_again.new.self c.column_for.ensures.same c.use_again.ensures.undo

pub returns-clause-ok : goal.returns-clause-ok
returns-clause-ok g c = record {
  listed = c.in_ok-use_again.ensures.ok;
  stands = stands_later c.column_for.new.self c.use_again.new.self _ c.use_again.ensures.makes
      c.in_ok-unknown.unknown (term c.args.term.now) c.in_ok-unknown.ensures.stands;
}

pub returns-clause-makes : goal.returns-clause-makes
returns-clause-makes g c = makes_both c.args.self.now c.column_for.new.self
    c.use_again.new.self (λ s. s ≡ term c.args.term.now) c.column_for.ensures.simplex
    c.column_for.ensures.makes (makes_more c.column_for.new.self c.use_again.new.self
    (λ s. s ≡ sense_in c.column_for.new.self c.in_ok-unknown.unknown)
    (λ s. s ≡ term c.args.term.now) (λ s e. e ∙ c.in_ok-unknown.ensures.stands.is)
    c.use_again.ensures.makes)

pub returns-clause-restricted : goal.returns-clause-restricted
returns-clause-restricted g c = ap (λ (s : Simplex). s.restricted)
    c.use_again.ensures.rest ∙ ap (λ (s : Simplex). s.restricted) c.column_for.ensures.rest

pub returns-clause-undo : goal.returns-clause-undo
returns-clause-undo g c = notes_from_same g.R.Carries.carried
    c.args.trail.now.records c.use_again.new.trail.records c.args.self.now c.column_for.new.self
    c.use_again.new.self c.column_for.ensures.same c.use_again.ensures.undo
