use Rattle.std.proofs.Common.{◌≡◌, [], ◌∷◌, ◌++◌, IfErr, refl, sym, ap, ◌∙◌, subst}
use Rattle.esc_tableau.proofs.RunLaws.{err_is}
use Rattle.esc_trail.proofs.Noting.{notes_nothing}
use Rattle.esc_simplex.specs.Barred.{IsBarred}
use Rattle.esc_simplex.specs.Calls.{GapEnds}
use Rattle.esc_simplex.specs.Senses.{gap_of, sense_of, term}
use Rattle.esc_simplex.specs.SimplexUndo.{simplex_undo}
use Rattle.esc_simplex.specs.View.{IsInUse}
use Rattle.esc_simplex.specs.declared.simplex.Simplex.{Simplex}
use Rattle.esc_simplex.proofs.Listing.{in_use_now}
use Rattle.esc_simplex.proofs.Making.{makes_kept, makes_listed, makes_made, new_there, new_unlisted, stands_new}
use Rattle.esc_simplex.proofs.RowMade.{means, row_ends, row_stopped}
use Rattle.esc_simplex.proofs.Undoing.{notes_from_same}
use Rattle.esc_simplex.proofs.simplex.Simplex.add.Goals as goal

pub returns-in_err-unknown-clause-ends : goal.returns-in_err-unknown-clause-ends
returns-in_err-unknown-clause-ends g c =
    subst GapEnds (sym (err_is c.from_residual.result c.in_err-unknown.field-0.0
    c.from_residual.ensures)) (row_ends c.args.self.now.tableau c.args.parts.now c.args.constant
    c.in_err-unknown.field-0.0 c.in_err-unknown.ensures.stops)

pub returns-in_err-unknown-clause-stop : goal.returns-in_err-unknown-clause-stop
returns-in_err-unknown-clause-stop g c =
    subst (λ r. IfErr r (IsBarred c.make_row.new.self
    (λ t. sense_of c.args.self.now.made c.args.entry ≡ term t)
    (λ f. sense_of c.args.self.now.made c.args.entry ≡ gap_of f)))
    (sym (err_is c.from_residual.result c.in_err-unknown.field-0.0 c.from_residual.ensures))
    (subst (λ (s : Simplex). IsBarred s
    (λ t. sense_of c.args.self.now.made c.args.entry ≡ term t)
    (λ f. sense_of c.args.self.now.made c.args.entry ≡ gap_of f) c.in_err-unknown.field-0.0)
    (sym c.in_err-unknown.ensures.err)
    (row_stopped c.args.self.now c.requires.simplex c.args.entry c.args.parts.now c.args.constant
    c.requires.parts c.in_err-unknown.field-0.0 c.in_err-unknown.ensures.stops))

pub returns-in_err-unknown-clause-makes : goal.returns-in_err-unknown-clause-makes
returns-in_err-unknown-clause-makes g c =
    makes_kept c.args.self.now c.make_row.new.self _
    (ap (λ (s : Simplex). s.made) c.in_err-unknown.ensures.err)
    (ap (λ (s : Simplex). s.unknowns) c.make_row.ensures.rest)
    (ap (λ (s : Simplex). s.bound) c.make_row.ensures.rest)
    (ap (λ (s : Simplex). s.limit) c.make_row.ensures.rest)

pub returns-in_err-unknown-clause-restricted : goal.returns-in_err-unknown-clause-restricted
returns-in_err-unknown-clause-restricted g c = ap (λ (s : Simplex). s.restricted)
    c.make_row.ensures.rest

pub returns-in_err-unknown-clause-undo : goal.returns-in_err-unknown-clause-undo
returns-in_err-unknown-clause-undo g c = notes_nothing simplex_undo g.R.Carries.carried
    c.args.trail.now.records c.args.trail.now.records c.args.self.now c.make_row.new.self refl
    c.make_row.ensures.same

pub list-requires-clause-there : goal.list-requires-clause-there
list-requires-clause-there g c = new_there c.args.self.now c.requires.simplex c.args.entry
    (means c.args.self.now c.args.entry c.requires.built) c.make_row.new.self
    c.in_ok-unknown.ensures.ok c.in_ok-unknown.unknown c.in_ok-unknown.ensures.unknown

pub list-requires-clause-new : goal.list-requires-clause-new
list-requires-clause-new g c = new_unlisted c.args.self.now c.requires.simplex c.args.entry
    (means c.args.self.now c.args.entry c.requires.built) c.make_row.new.self
    c.in_ok-unknown.ensures.ok c.in_ok-unknown.unknown c.in_ok-unknown.ensures.unknown
    (ap (λ (s : Simplex). s.unknowns) c.make_row.ensures.rest)

pub returns-in-Ok-clause-ok : goal.returns-in-Ok-clause-ok
returns-in-Ok-clause-ok g c =
    subst (λ (s : Simplex). IsInUse s c.in_ok-unknown.unknown
    (sense_of c.args.self.now.made c.args.entry)) (sym c.in-Ok.ensures.ok)
    (in_use_now c.make_row.new.self c.make_row.ensures.simplex c.in_ok-unknown.unknown
    (new_there c.args.self.now c.requires.simplex c.args.entry
    (means c.args.self.now c.args.entry c.requires.built) c.make_row.new.self
    c.in_ok-unknown.ensures.ok c.in_ok-unknown.unknown c.in_ok-unknown.ensures.unknown)
    (new_unlisted c.args.self.now c.requires.simplex c.args.entry
    (means c.args.self.now c.args.entry c.requires.built) c.make_row.new.self
    c.in_ok-unknown.ensures.ok c.in_ok-unknown.unknown c.in_ok-unknown.ensures.unknown
    (ap (λ (s : Simplex). s.unknowns) c.make_row.ensures.rest))
    (sense_of c.args.self.now.made c.args.entry)
    (stands_new c.args.self.now c.requires.simplex c.args.entry
    (means c.args.self.now c.args.entry c.requires.built) c.make_row.new.self
    c.in_ok-unknown.ensures.ok c.in_ok-unknown.unknown c.in_ok-unknown.ensures.unknown))

pub returns-in-Ok-clause-new : goal.returns-in-Ok-clause-new
returns-in-Ok-clause-new g c = c.in_ok-unknown.ensures.unknown

pub returns-in-Ok-clause-listed : goal.returns-in-Ok-clause-listed
returns-in-Ok-clause-listed g c = ap (λ (s : Simplex). s.unknowns) c.in-Ok.ensures.ok
    ∙ ap (λ (s : Simplex). s.unknowns ++ c.in_ok-unknown.unknown ∷ []) c.make_row.ensures.rest

pub returns-in-Ok-clause-makes : goal.returns-in-Ok-clause-makes
returns-in-Ok-clause-makes g c =
    makes_listed c.args.self.now c.requires.simplex c.args.entry
    (means c.args.self.now c.args.entry c.requires.built) c.list.new.self
    (ap (λ (s : Simplex). s.made) c.in-Ok.ensures.ok ∙ c.in_ok-unknown.ensures.ok)
    (λ s. s ≡ sense_of c.args.self.now.made c.args.entry) refl
    (ap (λ (s : Simplex). s.bound) c.in-Ok.ensures.ok
    ∙ ap (λ (s : Simplex). s.bound) c.make_row.ensures.rest)
    (ap (λ (s : Simplex). s.limit) c.in-Ok.ensures.ok
    ∙ ap (λ (s : Simplex). s.limit) c.make_row.ensures.rest)
    c.in_ok-unknown.unknown c.in_ok-unknown.ensures.unknown
    (ap (λ (s : Simplex). s.unknowns) c.in-Ok.ensures.ok
    ∙ ap (λ (s : Simplex). s.unknowns ++ c.in_ok-unknown.unknown ∷ []) c.make_row.ensures.rest)

pub returns-in-Ok-clause-restricted : goal.returns-in-Ok-clause-restricted
returns-in-Ok-clause-restricted g c = ap (λ (s : Simplex). s.restricted) c.in-Ok.ensures.ok
    ∙ ap (λ (s : Simplex). s.restricted) c.make_row.ensures.rest

pub returns-in-Ok-clause-undo : goal.returns-in-Ok-clause-undo
returns-in-Ok-clause-undo g c = notes_from_same g.R.Carries.carried c.args.trail.now.records
    c.list.new.trail.records c.args.self.now c.make_row.new.self c.list.new.self
    c.make_row.ensures.same c.list.ensures.undo

pub returns-in-Err-clause-makes : goal.returns-in-Err-clause-makes
returns-in-Err-clause-makes g c =
    makes_made c.args.self.now c.requires.simplex c.args.entry
    (means c.args.self.now c.args.entry c.requires.built) c.list.new.self
    (ap (λ (s : Simplex). s.made) c.in-Err.ensures.err ∙ c.in_ok-unknown.ensures.ok)
    (λ s. s ≡ sense_of c.args.self.now.made c.args.entry) refl
    (ap (λ (s : Simplex). s.bound) c.in-Err.ensures.err
    ∙ ap (λ (s : Simplex). s.bound) c.make_row.ensures.rest)
    (ap (λ (s : Simplex). s.limit) c.in-Err.ensures.err
    ∙ ap (λ (s : Simplex). s.limit) c.make_row.ensures.rest)
    (ap (λ (s : Simplex). s.unknowns) c.in-Err.ensures.err
    ∙ ap (λ (s : Simplex). s.unknowns) c.make_row.ensures.rest)

pub returns-in-Err-clause-restricted : goal.returns-in-Err-clause-restricted
returns-in-Err-clause-restricted g c = ap (λ (s : Simplex). s.restricted) c.in-Err.ensures.err
    ∙ ap (λ (s : Simplex). s.restricted) c.make_row.ensures.rest

pub returns-in-Err-clause-undo : goal.returns-in-Err-clause-undo
returns-in-Err-clause-undo g c = notes_from_same g.R.Carries.carried c.args.trail.now.records
    c.list.new.trail.records c.args.self.now c.make_row.new.self c.list.new.self
    c.make_row.ensures.same c.list.ensures.undo
