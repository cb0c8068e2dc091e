-- Patterns, by their heads and counts.
use Rattle.std.proofs.Common.{◌≡◌, ℕ, true, false, if◌then◌else◌, List, [], ◌∷◌, map, length, refl}
use Rattle.std.proofs.Common.{sym, ap, subst, suc, arith, Option, append-nil, Err, Result}
use Rattle.std.specs.Prelude.{nat_le}
use Rattle.std.proofs.lemmas.Bool.Decides.{nat_tests}
use Rattle.esc_sexp.specs.declared.sexp.Sexp.{Sexp}
use Rattle.esc_read.specs.declared.fault.FormKind.TheVariants.{WrongCount}
use Rattle.esc_read.specs.declared.fault.FormStop.{FormStop}
use Rattle.esc_read.specs.declared.fault.FormStop.TheVariants.{Memory}
use Rattle.esc_read.specs.Reading.{Context, Reading, ReadsIn, refuse, ◌<$>◌, each, counted}
use Rattle.esc_read.specs.Tokens.{args_of, head_of, place_of}
use Rattle.esc_read.specs.Terms.{term}
use Rattle.esc_read.proofs.Readings.{lacking}
use Rattle.esc_term.specs.declared.formula.Formula.TheVariants.{Distinct}
use Rattle.esc_names.specs.declared.key.Note.{Note}
use Rattle.esc_form.specs.declared.notes.Notes.{Notes}
use Rattle.esc_form.specs.Forms.{is_multi, note_of}
use Rattle.esc_form.specs.Formulas.{distinction, formula, note_of_part}
use Rattle.esc_form.specs.Patterns.{alone, note, note_by, pattern, several}

pub multi_pattern : (e : Sexp) → true ≡ is_multi (head_of e)
    → pattern e ≡ several (place_of e) (args_of e)
unfolding pattern
multi_pattern e h =
    ap (λ b. if b then several (place_of e) (args_of e) else (alone <$> term e)) (sym h)

pub one_pattern : (e : Sexp) → false ≡ is_multi (head_of e) → pattern e ≡ (alone <$> term e)
unfolding pattern
one_pattern e h =
    ap (λ b. if b then several (place_of e) (args_of e) else (alone <$> term e)) (sym h)

one_or_more : (n : ℕ) → nat_le 1 (suc n) ≡ true
one_or_more n = grind (arith, nat_tests)

pub several_none : (place : ℕ) (args : List Sexp) → length args ≡ 0
    → several place args ≡ refuse WrongCount place
several_none place [] h = refl
several_none place (e ∷ es) h = cc

pub several_some : (place : ℕ) (args : List Sexp) → (length args ≡ 0 → ⊥)
    → several place args ≡ each (map term args)
several_some place [] h = absurd (h refl)
several_some place (e ∷ es) h =
    ap (λ b. counted b place (each (map term (e ∷ es)))) (one_or_more (length es))

pub distinct_none : (place : ℕ) (args : List Sexp) → length args ≡ 0
    → distinction place args ≡ refuse WrongCount place
distinct_none place [] h = refl
distinct_none place (e ∷ es) h = cc

pub distinct_some : (place : ℕ) (args : List Sexp) → (length args ≡ 0 → ⊥)
    → distinction place args ≡ (Distinct <$> each (map term args))
distinct_some place [] h = absurd (h refl)
distinct_some place (e ∷ es) h =
    ap (λ b. counted b place (Distinct <$> each (map term (e ∷ es)))) (one_or_more (length es))

-- memory was wanting
pub lacks : {A : Type 0} {t : Context} {q : Result A FormStop} {reading : Reading A}
    → q ≡ Err Memory → ReadsIn t t q reading
lacks {t = t} e = lacking (record { more = []; is = sym (append-nil t.names) }) e

-- a part that is this note
pub note_is : {t u : Context} {r : Result Notes FormStop} (place : ℕ) (e : Sexp) (o : Option Note)
    → o ≡ note_of (head_of e)
    → ReadsIn t u r (note_by o place e (formula e)) → ReadsIn t u r (note_of_part place e)
unfolding note
note_is {t} {u} {r} place e o is p = subst (λ x. ReadsIn t u r (note_by x place e (formula e))) is p
