-- How reading in pieces goes on behind the expressions that were found.
use Rattle.std.proofs.Common.{◌≡◌, ℕ, Bool, true, false, List, [], ◌∷◌, ◌++◌, append_assoc, None, refl, sym, ap, subst, ◌∙◌}
use Rattle.std.proofs.lemmas.List.{append-nil}
use Rattle.esc_sexp.specs.declared.sexp.Sexp.{Sexp}
use Rattle.esc_sexp.specs.declared.sexp.SexpFault.{SexpFault}
use Rattle.esc_sexp.specs.Grammar as grammar
use Rattle.esc_sexp.specs.Grammar.{End, Finds, FirstFault, IsBlankText, Reads, broken, whole}
use Rattle.esc_sexp.specs.Unread.{Unread, Forgets, Gives, HoldsNothing, ReadsAlike}
use Rattle.esc_sexp.specs.Laws.{FoundStays}
use Rattle.esc_top.specs.Reading.{BeginsAs, HasFirst, HasWhole, IsBrokenBehind}
use Rattle.esc_top.specs.Ran.{MayFollow}
use Rattle.esc_top.specs.Underway.{KeepsEnd, GoesOnBehind, IsHungry}

-- ---- expressions one after another

pub BeginsAs-push : (finished : Bool) (p : ℕ) (bs : List ℕ) (es : List Sexp) (mid : ℕ)
    (between : List ℕ) (e : Sexp) (after : ℕ) (rest : List ℕ)
    → BeginsAs finished p bs es mid between → Finds finished mid between e after rest
    → BeginsAs finished p bs (es ++ e ∷ []) after rest
BeginsAs-push finished p bs [] mid between e after rest h found = (
  after,
  rest,
  subst (λ (x : List ℕ). Finds finished p x e after rest) h.1
      (subst (λ (n : ℕ). Finds finished n between e after rest) h.0 found),
  (refl, refl),
)
BeginsAs-push finished p bs (first ∷ es) mid between e after rest h found =
    (h.0, h.1, h.2, BeginsAs-push finished h.0 h.1 es mid between e after rest h.3 found)

-- the end of the text behind the expressions is its end
pub Reads-behind : (p : ℕ) (bs : List ℕ) (es : List Sexp) (after : ℕ) (rest : List ℕ) (end : End)
    → BeginsAs true p bs es after rest → Reads after rest [] end → Reads p bs es end
Reads-behind p bs [] after rest end h reads =
    subst (λ (x : List ℕ). Reads p x [] end) h.1 (subst (λ (n : ℕ). Reads n rest [] end) h.0 reads)
Reads-behind p bs (e ∷ es) after rest end h reads =
    grammar.then p bs e h.0 h.1 es end h.2 (Reads-behind h.0 h.1 es after rest end h.3 reads)

-- ---- texts that are read alike

pub alike_self : (finished : Bool) (p : ℕ) (xs : List ℕ) → ReadsAlike finished p xs p xs
alike_self finished p xs = record {
  found = λ e after rest. (λ h. h, λ h. h);
  fault = λ f. (λ h. h, λ h. h);
  blank = (λ h. h, λ h. h);
}

pub alike_along : (finished : Bool) (p q r : ℕ) (xs ys zs : List ℕ) → ReadsAlike finished p xs q ys
    → ReadsAlike finished q ys r zs → ReadsAlike finished p xs r zs
alike_along finished p q r xs ys zs h k = record {
  found = λ e after rest. (
    λ found. (k.found e after rest).0 ((h.found e after rest).0 found),
    λ found. (h.found e after rest).1 ((k.found e after rest).1 found),
  );
  fault = λ f. (
    λ fault. (k.fault f).0 ((h.fault f).0 fault),
    λ fault. (h.fault f).1
        ((k.fault f).1 fault),
  );
  blank = (λ blank. k.blank.0 (h.blank.0 blank), λ blank. h.blank.1 (k.blank.1 blank));
}

found_on : FoundStays → (told finished : Bool) (p : ℕ) (bs more : List ℕ) (e : Sexp) (after : ℕ)
    (rest : List ℕ) → KeepsEnd told finished more
    → Finds told p bs e after rest → Finds finished p (bs ++ more) e after (rest ++ more)
found_on found_stays true finished p bs more e after rest agrees found =
    let at_end : Finds true p (bs ++ []) e after (rest ++ []) =
    subst (λ (x : List ℕ). Finds true p x e after (rest ++ [])) (sym (append-nil bs))
    (subst (λ (x : List ℕ). Finds true p bs e after x) (sym (append-nil rest)) found) in
    subst (λ (x : List ℕ). Finds finished p (bs ++ x) e after (rest ++ x)) (sym (agrees refl).1)
    (subst (λ (b : Bool). Finds b p (bs ++ []) e after (rest ++ [])) (sym (agrees refl).0) at_end)
found_on found_stays false finished p bs more e after rest agrees found =
    found_stays finished p bs more e after rest found

-- ---- going on behind the expressions

pub behind_start : (unread : Unread) → unread ≡ record
    { place = 0; bytes = []; finished = false; fault = None } → GoesOnBehind [] [] unread
behind_start unread is finished more agrees =
    subst (λ (u : Unread). (after : ℕ) × (stand : List ℕ) × BeginsAs finished 0 more [] after stand
    × ReadsAlike finished after stand u.place (u.bytes ++ more)) (sym is)
    (0, more, (refl, refl), alike_self finished 0 more)

pub behind_found : FoundStays → (taken : List ℕ) (es : List Sexp) (e : Sexp) (old new : Unread)
    → Gives old e new → GoesOnBehind taken es old → GoesOnBehind taken (es ++ e ∷ []) new
behind_found found_stays taken es e old new gives behind finished more agrees =
    let same : new.finished ≡ old.finished = ap (λ (u : Unread). u.finished) gives.rest in
    let agreed : KeepsEnd old.finished finished more = subst
    (λ (b : Bool). KeepsEnd b finished more) same agrees in
    let h = behind finished more agreed in
    let found = (h.3.found e new.place (new.bytes ++ more)).1
    (found_on found_stays old.finished finished old.place old.bytes more e new.place new.bytes
    agreed gives.finds) in (
      new.place,
      new.bytes ++ more,
      BeginsAs-push finished 0 (taken ++ more) es h.0 h.1 e new.place
          (new.bytes ++ more) h.2 found,
      alike_self finished new.place (new.bytes ++ more),
    )

pub behind_forgot : (taken : List ℕ) (es : List Sexp) (old new : Unread) → Forgets old new
    → GoesOnBehind taken es old → GoesOnBehind taken es new
behind_forgot taken es old new forgets behind finished more agrees =
    let h = behind finished more (subst (λ (b : Bool). KeepsEnd b finished more) forgets.finished
    agrees) in (
      h.0,
      h.1,
      h.2,
      alike_along finished h.0 old.place new.place h.1 (old.bytes ++ more) (new.bytes
          ++ more) h.3 (forgets.alike finished more),
    )

pub behind_fed : (taken piece : List ℕ) (es : List Sexp) (old new : Unread) → old.finished ≡ false
    → new ≡ record old { bytes = old.bytes ++ piece }
    → GoesOnBehind taken es old → GoesOnBehind (taken ++ piece) es new
behind_fed taken piece es old new open_end is behind finished more agrees =
    let h = behind finished (piece ++ more) (λ told. absurd cc) in
    let begins = subst (λ (x : List ℕ). BeginsAs finished 0 x es h.0 h.1)
    (sym (append_assoc taken piece more)) h.2 in
    let alike = subst (λ (x : List ℕ). ReadsAlike finished h.0 h.1 old.place x)
    (sym (append_assoc old.bytes piece more)) h.3 in (
      h.0,
      h.1,
      begins,
      subst (λ (u : Unread). ReadsAlike finished h.0 h.1 u.place (u.bytes ++ more))
          (sym is) alike,
    )

pub behind_finished : (taken : List ℕ) (es : List Sexp) (old new : Unread) → new
    ≡ record old { finished = true } → GoesOnBehind taken es old → GoesOnBehind taken es new
behind_finished taken es old new is behind finished more agrees =
    let h = behind finished more (λ told. agrees (ap (λ (u : Unread). u.finished) is)) in (
      h.0,
      h.1,
      h.2,
      subst (λ (u : Unread). ReadsAlike finished h.0 h.1 u.place (u.bytes ++ more))
          (sym is) h.3,
    )

-- ---- how reading ends

pub breaks_behind : (taken : List ℕ) (es : List Sexp) (f : SexpFault) (unread : Unread)
    → FirstFault unread.finished unread.place unread.bytes f → GoesOnBehind taken es unread
    → IsBrokenBehind unread.finished taken es f
breaks_behind taken es f unread fault behind =
    let h = behind unread.finished [] (λ told. (told, refl)) in (
      h.0,
      h.1,
      subst (λ (x : List ℕ). BeginsAs unread.finished 0 x es h.0 h.1) (append-nil taken) h.2,
      (h.3.fault f).1 (subst (λ (x : List ℕ). FirstFault unread.finished unread.place x f)
          (sym (append-nil unread.bytes)) fault),
    )

pub reads_whole : (taken : List ℕ) (es : List Sexp) (unread : Unread) → IsBlankText unread.bytes
    → GoesOnBehind taken es unread → Reads 0 taken es whole
reads_whole taken es unread blank behind =
    let h = behind true [] (λ told. (refl, refl)) in
    let here = h.3.blank.1 (subst IsBlankText (sym (append-nil unread.bytes)) blank) in
    subst (λ (x : List ℕ). Reads 0 x es whole) (append-nil taken)
    (Reads-behind 0 (taken ++ []) es h.0 h.1 whole h.2 (grammar.ends_whole h.0 h.1 here))

pub has_first : (taken : List ℕ) (es : List Sexp) (unread : Unread) → GoesOnBehind taken es unread
    → (more : List ℕ) → MayFollow unread.finished more → HasFirst (taken ++ more) es
has_first taken es unread behind more follows =
    let h = behind true more (λ told. (refl, follows told)) in (h.0, h.1, h.2)

pub has_whole : (taken : List ℕ) (es : List Sexp) (unread : Unread) → unread.finished ≡ false
    → IsHungry unread → GoesOnBehind taken es unread → HasWhole taken es
has_whole taken es unread open_end hungry behind =
    let h = behind false [] (λ told. absurd cc) in
    let alike = subst (λ (x : List ℕ). ReadsAlike false h.0 h.1 unread.place x)
    (append-nil unread.bytes) h.3 in
    record {
      after = h.0;
      rest = h.1;
      begins = subst (λ (x : List ℕ). BeginsAs false 0 x es h.0 h.1) (append-nil taken) h.2;
      no_further = λ e end rest found. hungry.no_further e end rest
          (subst (λ (b : Bool). Finds b unread.place unread.bytes e end rest) (sym open_end)
          ((alike.found e end rest).0 found));
      no_fault = λ f fault. hungry.no_fault f (subst
          (λ (b : Bool). FirstFault b unread.place unread.bytes f) (sym open_end)
          ((alike.fault f).0 fault));
    }

-- what holds nothing further leaves the reader hungry
pub hungry : (old new : Unread) → HoldsNothing old → Forgets old new → IsHungry new
hungry old new holds forgets =
    let at : ReadsAlike old.finished old.place old.bytes new.place new.bytes =
    subst (λ (x : List ℕ). ReadsAlike old.finished old.place x new.place new.bytes)
    (append-nil old.bytes)
    (subst (λ (x : List ℕ). ReadsAlike old.finished old.place (old.bytes ++ []) new.place x)
    (append-nil new.bytes) (forgets.alike old.finished [])) in
    record {
      no_further = λ e after rest found. holds.no_whole e after rest
          ((at.found e after rest).1 (subst (λ (b : Bool). Finds b new.place new.bytes e after rest)
          forgets.finished found));
      no_fault = λ f fault. holds.no_fault f ((at.fault f).1
          (subst (λ (b : Bool). FirstFault b new.place new.bytes f) forgets.finished fault));
      blank = λ told. at.blank.0 (holds.blank (sym forgets.finished ∙ told));
    }
