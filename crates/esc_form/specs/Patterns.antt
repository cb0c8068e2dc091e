-- What an expression reads as where a pattern or a note of a quantifier is wanted.
use Rattle.std.specs.Prelude.{ℕ, nat_le, if◌then◌else◌, List, [], ◌∷◌, ◌++◌, map, length, Option}
use Rattle.std.specs.Prelude.{Some, None}
use Rattle.std.specs.List.{flat_map}
use Rattle.esc_sexp.specs.declared.sexp.Sexp.{Sexp}
use Rattle.esc_term.specs.declared.term.Term.{Term}
use Rattle.esc_term.specs.declared.formula.Formula.{Formula}
use Rattle.esc_read.specs.declared.fault.FormKind.TheVariants.{WrongCount}
use Rattle.esc_names.specs.declared.key.Note.{Note}
use Rattle.esc_names.specs.declared.key.Note.TheVariants as says
use Rattle.esc_read.specs.Reading.{Reading, give, refuse, ◌>>=◌, ◌<$>◌, each, counted}
use Rattle.esc_read.specs.Tokens.{args_of, head_of, place_of}
use Rattle.esc_read.specs.Terms.{term}
use Rattle.esc_form.specs.declared.notes.Notes.{Notes}
use Rattle.esc_form.specs.Forms.{is_multi, note_of}

-- a reading whose value is made into another
abbrev pub made : {A B : Type 0} → (A → B) → Reading A → Reading B
made f reading = f <$> reading

-- ---- patterns

abbrev pub alone : Term → List Term
alone t = t ∷ []

-- one term or more, of the list at this place
abbrev pub several : ℕ → List Sexp → Reading (List Term)
several place args = counted (nat_le 1 (length args)) place (each (map term args))

-- the terms of a pattern: those behind MPAT, and else one
unfoldable pub pattern : Sexp → Reading (List Term)
pattern e = if is_multi (head_of e) then several (place_of e) (args_of e) else (alone <$> term e)

-- ---- notes

abbrev pub only_patterns : List (List Term) → Notes
only_patterns patterns = record { patterns = patterns; exempt = [] }

abbrev pub only_exempt : List Term → Notes
only_exempt terms = record { patterns = []; exempt = terms }

abbrev pub both_notes : Notes → Notes → Notes
both_notes first second =
    record { patterns = first.patterns ++ second.patterns; exempt = first.exempt ++ second.exempt }

-- the patterns and the exempt terms of several notes
abbrev pub all_notes : List Notes → Notes
all_notes notes =
    record { patterns = flat_map (λ n. n.patterns) notes; exempt = flat_map (λ n. n.exempt) notes }

-- a part in the place of a note of the quantifier at this place; where it is none, it is read as a
-- formula first
abbrev pub note_by : Option Note → ℕ → Sexp → Reading Formula → Reading Notes
note_by (Some says.Patterns) place e formula = only_patterns <$> each (map pattern (args_of e))
note_by (Some says.Exempt) place e formula = only_exempt <$> each (map term (args_of e))
note_by (Some says.Id) place e formula = give (record { patterns = []; exempt = [] })
note_by None place e formula = do
  _ ← formula
  refuse WrongCount place

unfoldable pub note : ℕ → Sexp → Reading Formula → Reading Notes
note place e formula = note_by (note_of (head_of e)) place e formula
