-- What the head of a list says where a formula, a pattern or a note is wanted.
use Rattle.std.specs.Prelude.{Bool, true, false, Option, Some, None}
use Rattle.esc_names.specs.declared.key.Key.TheVariants as key
use Rattle.esc_names.specs.declared.key.Note.{Note}
use Rattle.esc_read.specs.declared.token.Token.{Token}
use Rattle.esc_read.specs.declared.token.Token.TheVariants as token
use Rattle.esc_form.specs.declared.form.Form.{Form}
use Rattle.esc_form.specs.declared.form.Form.TheVariants as form
use Rattle.esc_form.specs.declared.form.BareForm.{BareForm}
use Rattle.esc_form.specs.declared.form.BareForm.TheVariants as bare

abbrev pub form_of : Token → Form
form_of token.Name = form.Predicate
form_of (token.Word key.And) = form.And
form_of (token.Word key.Or) = form.Or
form_of (token.Word key.Not) = form.Not
form_of (token.Word (key.Join how)) = form.Join how
form_of (token.Word (key.Bind how)) = form.Bind how
form_of (token.Word (key.Relate how)) = form.Relate how
form_of (token.Word key.Distinct) = form.Distinct
form_of (token.Word (key.Label how)) = form.Label how
form_of (token.Word (key.Note _)) = form.Misplaced
form_of (token.Word key.MultiPattern) = form.Misplaced
form_of _ = form.Other

abbrev pub bare_form : Token → BareForm
bare_form token.Name = bare.Predicate
bare_form (token.Word key.True) = bare.True
bare_form (token.Word key.False) = bare.False
bare_form _ = bare.Other

abbrev pub is_multi : Token → Bool
is_multi (token.Word key.MultiPattern) = true
is_multi _ = false

abbrev pub note_of : Token → Option Note
note_of (token.Word (key.Note note)) = Some note
note_of _ = None
