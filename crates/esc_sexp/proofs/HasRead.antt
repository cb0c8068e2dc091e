-- What the parse has read: how it goes on, and what of it need not be kept.
use Rattle.std.proofs.Common.{◌≡◌, ℕ, zero, suc, ◌+◌, ◌-◌, ◌<◌, ◌≤◌, Bool, true, false, ◌||◌, List}
use Rattle.std.proofs.Common.{[], ◌∷◌, ◌++◌, length, take, drop, refl, sym, ap, subst, ◌∙◌}
use Rattle.std.proofs.Common.{append_assoc, length-append, arith}
use Rattle.std.specs.Option.{IfSome}
use Rattle.std.specs.Prelude.{Option, None, Some, get_or, set}
use Rattle.std.proofs.Math.Seq.{drop-append_seam, drop-length, take-suc}
use Rattle.std.proofs.lemmas.List.{at_drop_more, drop-take, length-set, length-take-le}
use Rattle.esc_sexp.specs.Begun.{OpenList, Token}
use Rattle.esc_sexp.specs.Begun as token
use Rattle.esc_sexp.specs.ParseInside.{Standing, goes, nothing_begun, is_text, has_begun, steps}
use Rattle.esc_sexp.specs.Grammar as grammar
use Rattle.esc_sexp.specs.Grammar.{is_any, is_apart, Opens, Begins, outermost, begun_at, max_length}
use Rattle.esc_sexp.specs.ReadingInside.{reading, Timely, HasRead, IsEnough}
use Rattle.esc_sexp.proofs.Steps.{Keeps, steps-keeps, is_apart-append}
use Rattle.esc_sexp.proofs.Times.{room_of, KeepsTime, steps-time}
use Rattle.esc_sexp.proofs.Tellings.{begun}
use Rattle.esc_sexp.proofs.Reaches.{reading-goes}
use Rattle.esc_sexp.proofs.Fronts.{same_between, same_remark}
use Rattle.esc_sexp.proofs.Beginnings.{begins_reached}

-- ---- going on

pub read_nothing : (p : ℕ) → HasRead p [] nothing_begun
read_nothing p =
    record { begins = grammar.between (grammar.outside [] grammar.nothing) refl; timely = tt }

-- where the parse begins anew
pub read_anew : (p at : ℕ) (bytes : List ℕ) (s : Standing) → s ≡ nothing_begun
    → HasRead p (drop at (take at bytes)) s
read_anew p at bytes s is =
    let none : drop at (take at bytes) ≡ [] =
    ap (λ (n : ℕ). drop at (take n bytes)) (omega arith) ∙ drop-take at 0 bytes in
    subst (λ (t : Standing). HasRead p (drop at (take at bytes)) t) (sym is)
    (subst (λ (xs : List ℕ). HasRead p xs nothing_begun) (sym none) (read_nothing p))

pub read_byte : (p : ℕ) (before : List ℕ) (b : ℕ) (s t : Standing) → HasRead p before s
    → goes t ≡ steps s (p + length before) b → HasRead p (before ++ b ∷ []) t
read_byte p before b s t read is = record {
  begins = subst (Keeps p before b) (sym is)
      (steps-keeps p before s b read.begins (room_of p before s.from s.opens s.token b
      read.timely));
  timely = subst (KeepsTime p before b) (sym is) (steps-time p before s b read.timely);
}

-- a byte of a list more
pub read_step : (q : ℕ) (before : List ℕ) (p i : ℕ) (bytes : List ℕ) (s t : Standing)
    → i < length bytes → q + length before ≡ p → goes t ≡ steps s (p + i) (get_or bytes i 0)
    → HasRead q (before ++ take i bytes) s → HasRead q (before ++ take (i + 1) bytes) t
read_step q before p i bytes s t within place step read =
    let b : ℕ = get_or bytes i 0 in
    let size : q + length (before ++ take i bytes) ≡ p + i =
    omega (
      arith,
      place,
      length-append before (take i bytes),
      length-take-le i bytes (omega (arith, within)),
    ) in
    let next : suc i ≡ i + 1 = omega arith in
    let then : (before ++ take i bytes) ++ b ∷ [] ≡ before ++ take (i + 1) bytes =
    append_assoc before (take i bytes) (b ∷ [])
    ∙ ap (λ (xs : List ℕ). before ++ xs) (sym (take-suc bytes i 0 within))
    ∙ ap (λ (n : ℕ). before ++ take n bytes) next in
    subst (λ (xs : List ℕ). HasRead q xs t)
    then (read_byte q (before ++ take i bytes) b s t read
    (step ∙ ap (λ (n : ℕ). steps s n b) (sym size)))

pub reading_step : (finished : Bool) (s t : Standing) (p i : ℕ) (bytes : List ℕ) → i < length bytes
    → goes t ≡ steps s (p + i) (get_or bytes i 0)
    → reading finished s (p + i) (drop i bytes)
    ≡ reading finished t (p + (i + 1)) (drop (i + 1) bytes)
reading_step finished s t p i bytes within step =
    at_drop_more (reading finished s (p + i)) bytes i 0 within
    ∙ reading-goes finished s t (p + i) (get_or bytes i 0) (drop (i + 1) bytes) (sym step)
    ∙ ap (λ (n : ℕ). reading finished t n (drop (i + 1) bytes)) (omega arith)

-- where the expression began is known, if one has begun
same_from : (finished : Bool) (p : ℕ) (bytes : List ℕ) (x y : ℕ) (opens : List OpenList) (t : Token)
    (q : ℕ) (more : List ℕ) → Timely p bytes x opens t → Timely p bytes y opens t
    → reading finished (record { from = x; opens = opens; token = t }) q more
    ≡ reading finished (record { from = y; opens = opens; token = t }) q more
same_from finished p bytes x y (o ∷ os) t q more h k =
    ap (λ (z : ℕ). reading finished (record { from = z; opens = o ∷ os; token = t }) q more)
    (h.0 ∙ sym k.0)
same_from finished p bytes x y [] token.between q more h k = same_between finished x y q more
same_from finished p bytes x y [] token.comment q more h k = same_remark finished x y q more
same_from finished p bytes x y [] (token.bare at text) q more h k =
    ap (λ (z : ℕ). reading finished (record
    { from = z; opens = []; token = token.bare at text }) q more) (h.0 ∙ sym k.0)
same_from finished p bytes x y [] (token.barred at text) q more h k =
    ap (λ (z : ℕ). reading finished (record
    { from = z; opens = []; token = token.barred at text }) q more) (h.0 ∙ sym k.0)

-- whatever follows, going on tells what reading from the start tells
pub goes_on : (finished : Bool) (p : ℕ) (bytes : List ℕ) (s : Standing) (more : List ℕ)
    → HasRead p bytes s
    → reading finished nothing_begun p (bytes ++ more) ≡ reading finished s (p + length bytes) more
goes_on finished p bytes s more read =
    let known = begun p bytes s.from s.opens s.token read.begins read.timely in
    let r = begins_reached p bytes s.opens s.token known.begins known.short in
    r.reaches finished more ∙ same_from finished p bytes r.from s.from s.opens s.token
    (p + length bytes) more r.timely read.timely

-- ---- the bytes of what has begun

-- the bytes from a place on without the blanks and comments before what has begun
record Trimmed (P : ℕ → List ℕ → Type 0) (p : ℕ) (bytes : List ℕ) (from : ℕ) : Type 0 where
  gap : List ℕ
  first : ℕ
  body : List ℕ
  bytes_are : bytes ≡ gap ++ first ∷ body
  from_is : from ≡ p + length gap
  there : P from (first ∷ body)

trim_lists : {p : ℕ} {bytes : List ℕ} {o : OpenList} {os : List OpenList} → Opens p bytes (o ∷ os)
    → Trimmed (λ q xs. Opens q xs (o ∷ os)) p bytes (outermost o os)
trim_lists {p} (grammar.within outer inner bytes o [] (grammar.outside gap g) deep at all is) =
    record {
      gap = outer;
      first = 40;
      body = inner;
      bytes_are = is;
      from_is = at;
      there = grammar.within [] inner (40 ∷ inner) o [] (grammar.outside [] grammar.nothing) deep
          (omega arith) all refl;
    }
trim_lists {p} (grammar.within outer inner bytes o (q ∷ os) around deep at all is) =
    let t = trim_lists around in
    let size : length outer ≡ length t.gap + length (t.first ∷ t.body) =
    ap length t.bytes_are ∙ length-append t.gap (t.first ∷ t.body) in
    record {
      gap = t.gap;
      first = t.first;
      body = t.body ++ 40 ∷ inner;
      bytes_are = is ∙ ap (λ (x : List ℕ). x ++ 40 ∷ inner) t.bytes_are
          ∙ append_assoc t.gap (t.first ∷ t.body) (40 ∷ inner);
      from_is = t.from_is;
      there = grammar.within (t.first ∷ t.body) inner (t.first ∷ t.body ++ 40 ∷ inner) o
          (q ∷ os) t.there deep (omega (arith, at, size, t.from_is)) all refl;
    }

-- an open list and what stands behind its bytes
trim_more : {p : ℕ} {front bytes : List ℕ} {o : OpenList} {os : List OpenList} (t : Token)
    (tail : List ℕ) → Opens p front (o ∷ os) → bytes ≡ front ++ tail
    → ((q : ℕ) (xs : List ℕ) → q + length xs ≡ p + length front → Opens q xs (o ∷ os)
    → is_apart xs ≡ is_apart front → Begins q (xs ++ tail) (o ∷ os) t)
    → Trimmed (λ q xs. Begins q xs (o ∷ os) t) p bytes (outermost o os)
trim_more {p} {front} {bytes} {o} {os} t tail opens is then =
    let c = trim_lists opens in
    let size : length front ≡ length c.gap + length (c.first ∷ c.body) =
    ap length c.bytes_are ∙ length-append c.gap (c.first ∷ c.body) in
    record {
      gap = c.gap;
      first = c.first;
      body = c.body ++ tail;
      bytes_are = is ∙ ap (λ (x : List ℕ). x ++ tail) c.bytes_are
          ∙ append_assoc c.gap (c.first ∷ c.body) tail;
      from_is = c.from_is;
      there = then (outermost o os) (c.first ∷ c.body) (omega (arith, size, c.from_is)) c.there
          (sym (ap is_apart c.bytes_are ∙ is_apart-append c.gap c.first c.body));
    }

trim_within : {p : ℕ} {bytes : List ℕ} {o : OpenList} {os : List OpenList} {t : Token}
    → Begins p bytes (o ∷ os) t → Trimmed (λ q xs. Begins q xs (o ∷ os) t) p bytes (outermost o os)
trim_within (grammar.between opens apart) =
    let c = trim_lists opens in
    record {
      gap = c.gap;
      first = c.first;
      body = c.body;
      bytes_are = c.bytes_are;
      from_is = c.from_is;
      there = grammar.between c.there (sym (ap is_apart c.bytes_are
          ∙ is_apart-append c.gap c.first c.body) ∙ apart);
    }
trim_within (grammar.remark front text opens h is) =
    trim_more token.comment (59 ∷ text) opens is
    (λ q xs place there same. grammar.remark xs text there h refl)
trim_within (grammar.in_bare front text at opens apart h at_is is) =
    trim_more (token.bare at text) text opens is
    (λ q xs place there same. grammar.in_bare xs text at there (same ∙ apart) h
    (at_is ∙ sym place) refl)
trim_within (grammar.in_bars front text at opens h at_is is) =
    trim_more (token.barred at text) (124 ∷ text) opens is
    (λ q xs place there same. grammar.in_bars xs text at there h (at_is ∙ sym place) refl)

trim_bare : (p : ℕ) (bytes : List ℕ) (at : ℕ) (text : List ℕ)
    → Begins p bytes [] (token.bare at text)
    → Trimmed (λ q xs. Begins q xs [] (token.bare at text)) p bytes at
trim_bare p bytes at [] (grammar.in_bare front text' at' opens apart h at_is is) =
    absurd (omega (arith, h.0))
trim_bare p bytes at (b ∷ bs) (grammar.in_bare front text' at' opens apart h at_is is) = record {
  gap = front;
  first = b;
  body = bs;
  bytes_are = is;
  from_is = at_is;
  there = grammar.in_bare [] (b ∷ bs) at (grammar.outside [] grammar.nothing) refl h
      (omega arith) refl;
}

trim_barred : (p : ℕ) (bytes : List ℕ) (at : ℕ) (text : List ℕ)
    → Begins p bytes [] (token.barred at text)
    → Trimmed (λ q xs. Begins q xs [] (token.barred at text)) p bytes at
trim_barred p bytes at text (grammar.in_bars front text' at' opens h at_is is) = record {
  gap = front;
  first = 124;
  body = text;
  bytes_are = is;
  from_is = at_is;
  there = grammar.in_bars [] text at (grammar.outside [] grammar.nothing) h (omega arith) refl;
}

trim : (p : ℕ) (bytes : List ℕ) (s : Standing) → HasRead p bytes s → has_begun s ≡ true
    → Trimmed (λ q xs. Begins q xs s.opens s.token) p bytes s.from
trim p bytes s read begun_so = by_form s.opens s.token read.begins read.timely begun_so
  where
    by_form : (opens : List OpenList) (t : Token) → Begins p bytes opens t
        → Timely p bytes s.from opens t → (is_any opens || is_text t) ≡ true
        → Trimmed (λ q xs. Begins q xs opens t) p bytes s.from
    by_form (o ∷ os) t begins timely h = subst (Trimmed (λ q xs. Begins q xs (o ∷ os) t) p bytes)
        (sym timely.0) (trim_within begins)
    by_form [] token.between begins timely h = cc
    by_form [] token.comment begins timely h = cc
    by_form [] (token.bare at text) begins timely h =
        subst (Trimmed (λ q xs. Begins q xs [] (token.bare at text)) p bytes) (sym timely.0)
        (trim_bare p bytes at text begins)
    by_form [] (token.barred at text) begins timely h =
        subst (Trimmed (λ q xs. Begins q xs [] (token.barred at text)) p bytes) (sym timely.0)
        (trim_barred p bytes at text begins)

in_time : (p : ℕ) (bytes : List ℕ) (from : ℕ) (opens : List OpenList) (t : Token)
    → Timely p bytes from opens t → (is_any opens || is_text t) ≡ true
    → p + length bytes ≤ from + max_length
in_time p bytes from (o ∷ os) t timely h = omega (arith, timely.0, timely.1)
in_time p bytes from [] token.between timely h = cc
in_time p bytes from [] token.comment timely h = cc
in_time p bytes from [] (token.bare at text) timely h = omega (arith, timely.0, timely.1)
in_time p bytes from [] (token.barred at text) timely h = omega (arith, timely.0, timely.1)

same_end : (p q : ℕ) (xs ys : List ℕ) (from : ℕ) (at : Option ℕ) → p + length xs ≡ q + length ys
    → IfSome at (λ n. (from ≡ n) × (p + length xs ≤ n + max_length))
    → IfSome at (λ n. (from ≡ n) × (q + length ys ≤ n + max_length))
same_end p q xs ys from None is h = tt
same_end p q xs ys from (Some n) is h = (h.0, omega (arith, h.1, is))

-- ---- what is enough to keep

-- of what has begun, the bytes from its first on
pub enough_begun : (s : Standing) (p : ℕ) (bytes : List ℕ) → HasRead p bytes s → has_begun s ≡ true
    → IsEnough s p bytes (s.from - p) bytes × (p ≤ s.from)
enough_begun s p bytes read begun_so =
    let t = trim p bytes s read begun_so in
    let kept : List ℕ = t.first ∷ t.body in
    let size : length bytes ≡ length t.gap + length kept =
    ap length t.bytes_are ∙ length-append t.gap kept in
    let count : s.from - p ≡ length t.gap = omega (arith, t.from_is) in
    let rest : drop (s.from - p) bytes ≡ kept = ap (λ (n : ℕ). drop n bytes) count
    ∙ ap (drop (length t.gap)) t.bytes_are ∙ drop-append_seam t.gap kept in
    let place : p + (s.from - p) ≡ s.from = omega (arith, t.from_is) in
    let there : HasRead s.from kept s = record {
      begins = t.there;
      timely =
          same_end p s.from bytes kept s.from (begun_at s.opens s.token)
          (omega (arith, size, t.from_is)) read.timely;
    } in
    let short : length kept ≤ max_length = omega
    (arith, size, t.from_is, in_time p bytes s.from s.opens s.token read.timely begun_so) in (
      record {
        as_many = refl;
        within = omega (arith, count, size);
        same = subst (λ (q : ℕ). HasRead q (drop (s.from - p) bytes) s) (sym place)
            (subst (λ (xs : List ℕ). HasRead s.from xs s) (sym rest) there);
        short = subst (λ (xs : List ℕ). length xs ≤ max_length) (sym rest) short;
      },
      omega (arith, t.from_is),
    )

set_last : (bytes : List ℕ) (n b : ℕ) → length bytes ≡ suc n → drop n (set bytes n b) ≡ b ∷ []
set_last [] n b h = absurd (omega (arith, h))
set_last (c ∷ []) zero b h = refl
set_last (c ∷ d ∷ bs) zero b h = absurd (omega (arith, h))
set_last (c ∷ bs) (suc n) b h = set_last bs n b (omega (arith, h))

pub in_comment : (s : Standing) (p : ℕ) (bytes : List ℕ) → HasRead p bytes s
    → s.token ≡ token.comment → 0 < length bytes
in_comment s p bytes read is = by_form s.opens (subst (Begins p bytes s.opens) is read.begins)
  where
    by_form : (opens : List OpenList) → Begins p bytes opens token.comment → 0 < length bytes
    by_form opens (grammar.remark front text o h e) =
        omega (arith, ap length e, length-append front (59 ∷ text))

none_open : (s : Standing) → has_begun s ≡ false → s.opens ≡ []
none_open s h = by_form s.opens h
  where
    by_form : (opens : List OpenList) → (is_any opens || is_text s.token) ≡ false → opens ≡ []
    by_form [] e = refl
    by_form (o ∷ os) e = cc

-- of a comment outside all lists, a semicolon
pub enough_comment : (s : Standing) (p : ℕ) (bytes : List ℕ) (n : ℕ) → HasRead p bytes s
    → has_begun s ≡ false → s.token ≡ token.comment → n ≡ length bytes - 1
    → IsEnough s p bytes n (set bytes n 59)
enough_comment s p bytes n read h is last =
    let some : 0 < length bytes = in_comment s p bytes read is in
    let rest : drop n (set bytes n 59) ≡ 59 ∷ [] =
    set_last bytes n 59 (omega (arith, some, last)) in
    let there : Standing = record { from = s.from; opens = []; token = token.comment } in
    let is_there : there ≡ s = ap (λ (t : Token). record { from = s.from; opens = []; token = t })
    (sym is) ∙ ap (λ (os : List OpenList). record s { opens = os }) (sym (none_open s h)) in
    let read_there : HasRead (p + n) (59 ∷ []) there =
    record {
      begins = grammar.remark [] [] (grammar.outside [] grammar.nothing) tt refl;
      timely = tt;
    } in
    record {
      as_many = length-set bytes n 59;
      within = omega (arith, last, length-set bytes n 59);
      same = subst (λ (xs : List ℕ). HasRead (p + n) xs s) (sym rest)
          (subst (HasRead (p + n) (59 ∷ [])) is_there read_there);
      short = omega (arith, ap length rest);
    }

not_text : (s : Standing) → has_begun s ≡ false → (s.token ≡ token.comment → ⊥)
    → s.token ≡ token.between
not_text s h other = by_form s.opens s.token h other
  where
    by_form : (opens : List OpenList) (t : Token) → (is_any opens || is_text t) ≡ false
        → (t ≡ token.comment → ⊥) → t ≡ token.between
    by_form (o ∷ os) t e k = cc
    by_form [] token.between e k = refl
    by_form [] token.comment e k = absurd (k refl)
    by_form [] (token.bare at text) e k = cc
    by_form [] (token.barred at text) e k = cc

-- of blanks, nothing
pub enough_blank : (s : Standing) (p : ℕ) (bytes : List ℕ) (n : ℕ) → has_begun s ≡ false
    → (s.token ≡ token.comment → ⊥) → n ≡ length bytes → IsEnough s p bytes n bytes
enough_blank s p bytes n h other all =
    let rest : drop n bytes ≡ [] = ap (λ (k : ℕ). drop k bytes) all ∙ drop-length bytes in
    let there : Standing = record { from = s.from; opens = []; token = token.between } in
    let is_there : there ≡ s = ap (λ (t : Token). record { from = s.from; opens = []; token = t })
    (sym (not_text s h other)) ∙ ap (λ (os : List OpenList). record s { opens = os })
    (sym (none_open s h)) in
    let read_there : HasRead (p + n) [] there =
    record { begins = grammar.between (grammar.outside [] grammar.nothing) refl; timely = tt }
    in
    record {
      as_many = refl;
      within = omega (arith, all);
      same = subst (λ (xs : List ℕ). HasRead (p + n) xs s) (sym rest)
          (subst (HasRead (p + n) []) is_there read_there);
      short = omega (arith, ap length rest);
    }
