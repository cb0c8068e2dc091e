-- How the notes of a quantifier are gathered.
use Rattle.std.proofs.Common.{◌≡◌, ℕ, ◌+◌, ◌-◌, ◌<◌, ◌≤◌, List, [], ◌∷◌, ◌++◌, map, drop, length}
use Rattle.std.proofs.Common.{get_or, refl, sym, ◌∙◌, ap, ap₂, arith, append-nil, Ok, Err, Result}
use Rattle.std.specs.List.{flat_map}
use Rattle.std.proofs.lemmas.List.{get_or-take, length-take, length-drop}
use Rattle.std.proofs.lemmas.Grind.{flat_map-append, get_or_after_one}
use Rattle.esc_term.specs.declared.term.Term.{Term}
use Rattle.esc_read.specs.declared.fault.FormStop.{FormStop}
use Rattle.esc_read.specs.Reading.{Context, Reading, ReadsIn, ◌<$>◌, each}
use Rattle.esc_read.proofs.Readings.{Going, Going-ends, Going-fails, Going-next, Going-starts}
use Rattle.esc_read.proofs.Readings.{gives, next, stops}
use Rattle.esc_form.specs.declared.notes.Notes.{Notes}
use Rattle.esc_form.specs.Patterns.{all_notes, both_notes, note}
use Rattle.esc_sexp.specs.declared.sexp.Sexp.{Sexp}
use Rattle.esc_form.specs.Formulas.{Part, middle, note_of_part, part_of}

-- the first readings gave these notes together, and the rest of them is to come
pub record Gathering (before now : Context) (notes : Notes)
    (rest all : List (Reading Notes)) : Type 0 where
  pub list : List Notes
  pub is : notes ≡ all_notes list
  pub going : Going before now list rest all

more_patterns : (ns : List Notes) (n : Notes)
    → flat_map (λ m. m.patterns) (ns ++ n ∷ []) ≡ flat_map (λ m. m.patterns) ns ++ n.patterns
more_patterns ns n =
    flat_map-append (λ (m : Notes). m.patterns) ns (n ∷ [])
    ∙ ap (λ l. flat_map (λ m. m.patterns) ns ++ l) (append-nil n.patterns)

more_exempt : (ns : List Notes) (n : Notes)
    → flat_map (λ m. m.exempt) (ns ++ n ∷ []) ≡ flat_map (λ m. m.exempt) ns ++ n.exempt
more_exempt ns n =
    flat_map-append (λ (m : Notes). m.exempt) ns (n ∷ [])
    ∙ ap (λ l. flat_map (λ m. m.exempt) ns ++ l) (append-nil n.exempt)

one_note_more : (ns : List Notes) (n : Notes)
    → both_notes (all_notes ns) n ≡ all_notes (ns ++ n ∷ [])
one_note_more ns n =
    ap₂ (λ (ps : List (List Term)) (ts : List Term). let r : Notes =
    record { patterns = ps; exempt = ts } in r) (sym (more_patterns ns n))
    (sym (more_exempt ns n))

pub Gathering-starts : (t : Context) (notes : Notes) (all : List (Reading Notes))
    → notes ≡ all_notes [] → Gathering t t notes all all
Gathering-starts t notes all e = record { list = []; is = e; going = Going-starts t all }

module _ {X : Type 0} (f : X → Reading Notes) (xs : List X) where
  pub Gathering-next : {t u v : Context} {notes more : Notes} {r : Result Notes FormStop}
      {all : List (Reading Notes)} (i : ℕ) (x : X) (a : Notes) → i < length xs → x ≡ get_or xs i x
      → Gathering t u notes (map f (drop i xs)) all → ReadsIn u v r (f x) → r ≡ Ok a
      → more ≡ both_notes notes a → Gathering t v more (map f (drop (i + 1) xs)) all
  Gathering-next i x a h e p q ok grown = record {
    list = p.list ++ a ∷ [];
    is = grown ∙ ap (λ n. both_notes n a) p.is ∙ one_note_more p.list a;
    going = Going-next f xs i x a h e p.going q ok refl;
  }

  pub Gathering-fails : {t u v : Context} {notes : Notes} {r q : Result Notes FormStop}
      {all : List (Reading Notes)} (i : ℕ) (x : X) (s : FormStop) → i < length xs
      → x ≡ get_or xs i x
      → Gathering t u notes (map f (drop i xs)) all → ReadsIn u v r (f x) → r ≡ Err s → q ≡ Err s
      → ReadsIn t v q (all_notes <$> each all)
  Gathering-fails i x s h e p q err same = let ended : ReadsIn _ _ (Err s) (each _) =
      Going-fails f xs i x s h e p.going q err refl in stops s _ ended refl same

  pub Gathering-ends : {t u : Context} {notes : Notes} {all : List (Reading Notes)} (i : ℕ)
      → length xs ≤ i → Gathering t u notes (map f (drop i xs)) all
      → ReadsIn t u (Ok notes) (all_notes <$> each all)
  Gathering-ends i h p = next p.list _ (Going-ends f xs i h p.going) refl (gives (sym p.is))

-- notes as parts beside their readings
pub note_readings : (place : ℕ) (es : List Sexp)
    → map (λ (p : Part). note place p.0 p.1) (map part_of es) ≡ map (note_of_part place) es
note_readings place [] = refl
note_readings place (e ∷ es) = ap (λ l. note_of_part place e ∷ l) (note_readings place es)

-- ---- the parts between the first and the last

pub length_middle : {X : Type 0} (xs : List X) → length (middle xs) ≡ length xs - 2
length_middle xs = length-take (length xs - 2) (drop 1 xs) ∙ rw (length-drop 1 xs) (omega arith)

pub middle_at : {X : Type 0} (xs : List X) (at : ℕ) (x : X) → 1 ≤ at → at < length xs - 1
    → x ≡ get_or xs at x → x ≡ get_or (middle xs) (at - 1) x
middle_at xs at x low high e =
    let n : 1 + (at - 1) ≡ at = omega arith in
    e ∙ sym
    (get_or-take (length xs - 2) (drop 1 xs) (at - 1) x (omega arith)
    ∙ get_or_after_one xs (at - 1) x ∙ ap (λ k. get_or xs k x) n)

pub step_back : (at : ℕ) → 1 ≤ at → at - 1 + 1 ≡ at + 1 - 1
step_back at low = omega arith
