use Rattle.std.proofs.Common.{◌≡◌, refl, length, sym, ap, ◌∙◌, subst, IfErr, IfOk}
use Rattle.esc_linear.specs.declared.form.Form.{Form}
use Rattle.esc_term.specs.declared.term.Term.{Term}
use Rattle.esc_trail.proofs.Noting.{notes_both}
use Rattle.esc_simplex.specs.Barred.{AreRowParts, IsBarred}
use Rattle.esc_simplex.specs.Calls.{IsOfTerm}
use Rattle.esc_simplex.specs.MakingInside.{IsAmong, IsLookedInto}
use Rattle.esc_simplex.specs.Senses.{gap_of, term}
use Rattle.esc_simplex.specs.SimplexUndo.{simplex_undo}
use Rattle.esc_simplex.specs.SimplexLaws.{simplex_lawful}
use Rattle.esc_simplex.specs.View.{IsBuiltAt, IsInUse, senses_in}
use Rattle.esc_simplex.specs.declared.made.Made.TheVariants as made
use Rattle.esc_simplex.proofs.Addends.{among_term, barred_term_alone, form_built, form_row, form_used, itself_of_term, opaque_addends, row_once, unknown_ends, used_of_form, when_ok}
use Rattle.esc_simplex.proofs.Making.{makes_both, makes_more}
use Rattle.esc_simplex.proofs.simplex.Simplex.row_unknown.Goals as goal

pub addends-requires-clause-opaque : goal.addends-requires-clause-opaque
addends-requires-clause-opaque g c = opaque_addends c.args.term.now c.as_slice.result.now
    (c.as_slice.ensures ∙ ap (λ (f : Form). f.parts) c.requires.form)

pub returns-in_default-clause-makes : goal.returns-in_default-clause-makes
returns-in_default-clause-makes g c = makes_more c.args.self.now c.addends.new.self
    (IsAmong c.as_slice.result.now) (IsOfTerm c.args.term.now)
    (among_term c.args.term.now c.as_slice.result.now
    (c.as_slice.ensures ∙ ap (λ (f : Form). f.parts) c.requires.form)) c.addends.ensures.makes

pub returns-in_default-copy-clause-makes : goal.returns-in_default-copy-clause-makes
returns-in_default-copy-clause-makes g c = makes_more c.args.self.now c.addends.new.self
    (IsAmong c.as_slice.result.now) (IsOfTerm c.args.term.now)
    (among_term c.args.term.now c.as_slice.result.now
    (c.as_slice.ensures ∙ ap (λ (f : Form). f.parts) c.requires.form)) c.addends.ensures.makes

pub add-requires-clause-parts : goal.add-requires-clause-parts
add-requires-clause-parts g c = subst (λ (t : Term). AreRowParts (senses_in c.addends.new.self)
    (term t) c.in-Ok.parts c.args.form.now.constant) (sym c.in-Ok-copy.ensures)
    (form_row c.addends.new.self c.args.term.now c.in-Ok.parts
    (used_of_form c.args.term.now c.as_slice.result.now
    (c.as_slice.ensures ∙ ap (λ (f : Form). f.parts) c.requires.form) c.addends.new.self
    c.in-Ok.parts c.in-Ok.ensures.ok)
    c.args.form.now.constant (ap (λ (f : Form). f.constant) c.requires.form))

pub add-requires-clause-built : goal.add-requires-clause-built
add-requires-clause-built g c = subst (λ (t : Term). IsBuiltAt c.addends.new.self.made
    (length c.addends.new.self.made) (made.Term t)) (sym c.in-Ok-copy.ensures)
    (form_built c.addends.new.self c.args.term.now c.in-Ok.parts
    (used_of_form c.args.term.now c.as_slice.result.now
    (c.as_slice.ensures ∙ ap (λ (f : Form). f.parts) c.requires.form) c.addends.new.self
    c.in-Ok.parts c.in-Ok.ensures.ok))

pub add-requires-clause-looked_into : goal.add-requires-clause-looked_into
add-requires-clause-looked_into g c = subst (λ (t : Term). IsLookedInto (term t))
    (sym c.in-Ok-copy.ensures) c.requires.looked_into

pub returns-clause-ok : goal.returns-clause-ok
returns-clause-ok g c = subst (λ (t : Term). IfOk c.add.result
    (λ u. IsInUse c.add.new.self u (term t))) c.in-Ok-copy.ensures c.add.ensures.ok

pub returns-clause-parts : goal.returns-clause-parts
returns-clause-parts g c = when_ok _ c.add.result
    (form_used c.addends.new.self c.args.term.now c.in-Ok.parts
    (used_of_form c.args.term.now c.as_slice.result.now
    (c.as_slice.ensures ∙ ap (λ (f : Form). f.parts) c.requires.form) c.addends.new.self
    c.in-Ok.parts c.in-Ok.ensures.ok) c.add.new.self _ c.add.ensures.makes)

pub returns-clause-once : goal.returns-clause-once
returns-clause-once g c = row_once c.args.self.now c.addends.new.self c.add.new.self
    c.args.term.now c.as_slice.result.now
    (opaque_addends c.args.term.now c.as_slice.result.now
    (c.as_slice.ensures ∙ ap (λ (f : Form). f.parts) c.requires.form))
    (c.requires.looked_into c.args.term.now refl) c.addends.ensures.makes _ c.add.ensures.makes
    c.addends.ensures.simplex c.add.result c.add.ensures.listed

pub returns-clause-ends : goal.returns-clause-ends
returns-clause-ends g c = unknown_ends c.args.term.now c.requires.fits c.add.result
    c.add.ensures.ends

pub returns-clause-stop : goal.returns-clause-stop
returns-clause-stop g c = barred_term_alone c.add.new.self c.args.term.now c.add.result
    (subst (λ (t : Term). IfErr c.add.result (IsBarred c.add.new.self (λ s. term t ≡ term s)
    (λ f. term t ≡ gap_of f))) c.in-Ok-copy.ensures c.add.ensures.stop)

pub returns-clause-makes : goal.returns-clause-makes
returns-clause-makes g c = makes_both c.args.self.now c.addends.new.self c.add.new.self
    (IsOfTerm c.args.term.now) c.addends.ensures.simplex
    (makes_more c.args.self.now c.addends.new.self
    (IsAmong c.as_slice.result.now) (IsOfTerm c.args.term.now)
    (among_term c.args.term.now c.as_slice.result.now
    (c.as_slice.ensures ∙ ap (λ (f : Form). f.parts) c.requires.form)) c.addends.ensures.makes)
    (makes_more c.addends.new.self c.add.new.self (λ s. s ≡ term c.in-Ok-copy.copy)
    (IsOfTerm c.args.term.now)
    (λ s e. itself_of_term c.args.term.now s (e ∙ ap term c.in-Ok-copy.ensures))
    c.add.ensures.makes)

pub returns-clause-restricted : goal.returns-clause-restricted
returns-clause-restricted g c = c.add.ensures.restricted ∙ c.addends.ensures.restricted

pub returns-clause-undo : goal.returns-clause-undo
returns-clause-undo g c = notes_both simplex_undo simplex_lawful g.R.Carries.carried
    c.args.trail.now.records c.addends.new.trail.records c.add.new.trail.records c.args.self.now
    c.addends.new.self c.add.new.self c.addends.ensures.undo c.add.ensures.undo
