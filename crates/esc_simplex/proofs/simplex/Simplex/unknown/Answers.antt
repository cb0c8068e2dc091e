use Rattle.std.proofs.Common.{◌≡◌, IfErr, refl, sym, ◌∙◌, subst, true≢false}
use Rattle.esc_tableau.proofs.RunLaws.{err_is}
use Rattle.esc_trail.proofs.Noting.{notes_nothing}
use Rattle.esc_simplex.specs.Barred.{IsBarred}
use Rattle.esc_simplex.specs.Calls.{IsOfTerm, UnknownEnds}
use Rattle.esc_simplex.specs.Senses.{term}
use Rattle.esc_simplex.specs.SimplexUndo.{simplex_undo}
use Rattle.esc_simplex.specs.SimplexLaws.{simplex_lawful}
use Rattle.esc_simplex.proofs.Addends.{form_barred, form_ends, itself_of_term, looked_into, opaque_only, opaque_used}
use Rattle.esc_simplex.proofs.Making.{makes_kept, makes_more}
use Rattle.esc_simplex.proofs.simplex.Simplex.unknown.Goals as goal

pub returns-in_err-linear-clause-ends : goal.returns-in_err-linear-clause-ends
returns-in_err-linear-clause-ends g c = subst (UnknownEnds c.args.term.now)
    (sym (err_is c.from_residual.result c.in_err-linear.field-0.0 c.from_residual.ensures))
    (form_ends c.args.term.now c.in_err-linear.field-0.0 c.in_err-linear.ensures)

pub returns-in_err-linear-clause-stop : goal.returns-in_err-linear-clause-stop
returns-in_err-linear-clause-stop g c = subst (λ r. IfErr r (IsBarred c.args.self.now
    (λ t. t ≡ c.args.term.now) (λ f. ⊥)))
    (sym (err_is c.from_residual.result c.in_err-linear.field-0.0 c.from_residual.ensures))
    (form_barred c.args.self.now c.args.term.now c.in_err-linear.field-0.0
    c.in_err-linear.ensures)

pub returns-in_err-linear-clause-makes : goal.returns-in_err-linear-clause-makes
returns-in_err-linear-clause-makes g c = makes_kept c.args.self.now c.args.self.now
    (IsOfTerm c.args.term.now) refl refl refl refl

pub returns-in_err-linear-clause-undo : goal.returns-in_err-linear-clause-undo
returns-in_err-linear-clause-undo g c = notes_nothing simplex_undo g.R.Carries.carried
    c.args.trail.now.records c.args.trail.now.records c.args.self.now c.args.self.now refl
    (simplex_lawful.reflexive c.args.self.now)

pub is_opaque-requires : goal.is_opaque-requires
is_opaque-requires g c = c.in_ok-linear.ensures.1

pub row_unknown-requires-clause-form : goal.row_unknown-requires-clause-form
row_unknown-requires-clause-form g c = c.in_ok-linear.ensures.1

pub row_unknown-requires-clause-fits : goal.row_unknown-requires-clause-fits
row_unknown-requires-clause-fits g c = c.in_ok-linear.ensures.0

pub row_unknown-requires-clause-looked_into : goal.row_unknown-requires-clause-looked_into
row_unknown-requires-clause-looked_into g c = looked_into c.args.term.now
    (λ opaque. true≢false (sym (c.is_opaque.ensures.1 opaque) ∙ c.if-not-is_opaque.true))

pub opaque_unknown-requires-clause-opaque : goal.opaque_unknown-requires-clause-opaque
opaque_unknown-requires-clause-opaque g c = c.is_opaque.ensures.0 c.if-not-is_opaque.false

pub returns-in-Ok-clause-parts : goal.returns-in-Ok-clause-parts
returns-in-Ok-clause-parts g c = opaque_used c.opaque_unknown.new.self c.args.term.now
    (c.is_opaque.ensures.0 c.if-not-is_opaque.false) c.in-Ok.unknown c.in-Ok.ensures.ok

pub returns-in-Ok-clause-once : goal.returns-in-Ok-clause-once
returns-in-Ok-clause-once g c = opaque_only c.args.self.now c.opaque_unknown.new.self
    c.args.term.now c.opaque_unknown.ensures.simplex
    (c.is_opaque.ensures.0 c.if-not-is_opaque.false) c.in-Ok.unknown c.in-Ok.ensures.ok

pub returns-in-Ok-clause-ends : goal.returns-in-Ok-clause-ends
returns-in-Ok-clause-ends g c = c.in_ok-linear.ensures.0

pub returns-in-Ok-clause-makes : goal.returns-in-Ok-clause-makes
returns-in-Ok-clause-makes g c = makes_more c.args.self.now c.opaque_unknown.new.self
    (λ s. s ≡ term c.args.term.now) (IsOfTerm c.args.term.now)
    (itself_of_term c.args.term.now) c.opaque_unknown.ensures.makes

pub returns-clause-makes : goal.returns-clause-makes
returns-clause-makes g c = makes_more c.args.self.now c.opaque_unknown.new.self
    (λ s. s ≡ term c.args.term.now) (IsOfTerm c.args.term.now)
    (itself_of_term c.args.term.now) c.opaque_unknown.ensures.makes
