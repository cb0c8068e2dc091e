use Rattle.std.proofs.Common.{refl, ◌∙◌, ap}
use Rattle.esc_read.proofs.Readings.{gives, refused}
use Rattle.esc_form.specs.Forms.{bare_form}
use Rattle.esc_form.proofs.FormulaLemmas.{bare_by}
use Rattle.esc_form.proofs.reader.FormReader.read_bare.Goals as goal

pub returns-in-Predicate : goal.returns-in-Predicate
returns-in-Predicate c =
    bare_by c.args.place c.args.text.now _
    (c.in-Predicate.ensures ∙ ap bare_form c.bare_token.ensures) (c.read_name.ensures)

pub returns-in-True : goal.returns-in-True
returns-in-True c =
    bare_by c.args.place c.args.text.now _ (c.in-True.ensures ∙ ap bare_form c.bare_token.ensures)
    (gives refl)

pub returns-in-False : goal.returns-in-False
returns-in-False c =
    bare_by c.args.place c.args.text.now _ (c.in-False.ensures ∙ ap bare_form c.bare_token.ensures)
    (gives refl)

pub returns-in-Other : goal.returns-in-Other
returns-in-Other c =
    bare_by c.args.place c.args.text.now _ (c.in-Other.ensures ∙ ap bare_form c.bare_token.ensures)
    (refused c.refusal.ensures)
