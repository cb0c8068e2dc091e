-- The status that a run ends with is due, and no other is.
use Rattle.std.proofs.Common.{◌≡◌, ℕ, zero, suc, ◌-◌, ◌≤◌, Bool, true, false, IsTrue, inl, inr}
use Rattle.std.proofs.Common.{List, [], ◌∷◌, ◌++◌, length, take, append_assoc, length-append, arith}
use Rattle.std.proofs.Common.{Option, None, Some, Err, refl, sym, ap, subst, ◌∙◌}
use Rattle.std.specs.Prelude.{◌≢◌}
use Rattle.std.specs.Io.KnownBytes.{IsAtEnd}
use Rattle.std.proofs.lemmas.List.{append-nil}
use Rattle.esc_io.specs.Taking.{Takes}
use Rattle.esc_options.specs.declared.options.Options.{Options}
use Rattle.esc_sexp.specs.declared.sexp.Sexp.{Sexp}
use Rattle.esc_sexp.specs.declared.sexp.SexpFault.{SexpFault}
use Rattle.esc_sexp.specs.Grammar as grammar
use Rattle.esc_sexp.specs.Grammar.{End, Finds, FirstFault, Reads, broken, whole}
use Rattle.esc_sexp.specs.Laws.{ExpressionOrFault, FaultStays, FoundStays, OneExpression, OneReading}
use Rattle.esc_words.specs.Uses.{Text}
use Rattle.esc_words.specs.Words.{AsksFor}
use Rattle.esc_words.specs.declared.read.WordsStop.TheVariants.{Bad}
use Rattle.esc_top.specs.Laws.{AreRight, AreTooMany, BreaksIn, CanBeRead, IsDue, StatusIsDue}
use Rattle.esc_top.specs.Laws.{as_read, is_stopped}
use Rattle.esc_top.specs.Progress.{Progress}
use Rattle.esc_top.specs.Ran.{AreAsked, IsReadTo}
use Rattle.esc_top.specs.Reading.{BeginsAs, HasWhole, IsBrokenBehind, max_input}
use Rattle.esc_top.specs.declared.status.Status.{Status}
use Rattle.esc_top.specs.declared.status.Status.TheVariants.{Proved, Answered, BadWords, Syntax}
use Rattle.esc_top.specs.declared.status.Status.TheVariants.{WriteFault, TooMuch}
use Rattle.esc_top.proofs.ReadingLemmas.{Reads-behind}

-- ---- the front of a text

take_over : (n : ℕ) (xs ys : List ℕ) → length xs ≤ n → take n (xs ++ ys) ≡ xs
    ++ take (n - length xs) ys
take_over n [] ys few = ap (λ m. take m ys) (omega arith)
take_over zero (x ∷ xs) ys few = absurd (omega (arith, few))
take_over (suc n) (x ∷ xs) ys few =
    ap (λ l. x ∷ l) (take_over n xs ys (omega (arith, few)))
    ∙ ap (λ m. x ∷ (xs ++ take m ys)) (omega arith)

none_left : (n : ℕ) → n - n ≡ 0
none_left n = omega arith

take_front : (xs ys : List ℕ) → take (length xs) (xs ++ ys) ≡ xs
take_front xs ys = take_over (length xs) xs ys (omega arith)
    ∙ ap (λ m. xs ++ take m ys) (none_left (length xs)) ∙ append-nil xs

-- ---- a text that goes on

module _ (found_stays : FoundStays) (fault_stays : FaultStays) where
  begins_on : (finished : Bool) (p : ℕ) (bs more : List ℕ) (es : List Sexp) (after : ℕ)
      (rest : List ℕ)
      → BeginsAs false p bs es after rest → BeginsAs finished p (bs ++ more) es after (rest ++ more)
  begins_on finished p bs more [] after rest h = (h.0, ap (λ l. l ++ more) h.1)
  begins_on finished p bs more (e ∷ es) after rest h = (
    h.0,
    h.1 ++ more,
    found_stays finished p bs more e h.0 h.1 h.2,
    begins_on finished h.0 h.1
        more es after rest h.3,
  )

  broken_on : (finished : Bool) (bs more : List ℕ) (es : List Sexp) (f : SexpFault)
      → IsBrokenBehind false bs es f → IsBrokenBehind finished (bs ++ more) es f
  broken_on finished bs more es f h = (
    h.0,
    h.1 ++ more,
    begins_on finished 0 bs more es h.0 h.1
        h.2,
    fault_stays finished h.0 h.1 more f h.3,
  )

reads_broken : (bs : List ℕ) (es : List Sexp) (f : SexpFault) → IsBrokenBehind true bs es f
    → Reads 0 bs es (broken f)
reads_broken bs es f h = Reads-behind 0 bs es h.0 h.1 (broken f) h.2
    (grammar.ends_broken h.0 h.1 f h.3)

-- ---- what is whole is not broken

module _ (one_expression : OneExpression) (either : ExpressionOrFault) where
  whole_and_broken : (p : ℕ) (bs : List ℕ) (es fs : List Sexp) (after : ℕ) (rest : List ℕ) (at : ℕ)
      (stand : List ℕ) (f : SexpFault)
      → BeginsAs false p bs es after rest
      → ((e : Sexp) (end : ℕ) (behind : List ℕ) → Finds false after rest e end behind → ⊥)
      → ((g : SexpFault) → FirstFault false after rest g → ⊥)
      → BeginsAs false p bs fs at stand → FirstFault false at stand f → ⊥
  whole_and_broken p bs [] [] after rest at stand f h none clean k fault =
      clean f (subst (λ (x : List ℕ). FirstFault false after x f) (k.1 ∙ sym h.1)
      (subst (λ (n : ℕ). FirstFault false n stand f) (k.0 ∙ sym h.0) fault))
  whole_and_broken p bs [] (e ∷ fs) after rest at stand f h none clean k fault =
      none e k.0 k.1 (subst (λ (x : List ℕ). Finds false after x e k.0 k.1) (sym h.1)
      (subst (λ (n : ℕ). Finds false n bs e k.0 k.1) (sym h.0) k.2))
  whole_and_broken p bs (e ∷ es) [] after rest at stand f h none clean k fault =
      either false p bs e h.0 h.1 f h.2 (subst (λ (x : List ℕ). FirstFault false p x f) k.1
      (subst (λ (n : ℕ). FirstFault false n stand f) k.0 fault))
  whole_and_broken p bs (e ∷ es) (d ∷ fs) after rest at stand f h none clean k fault =
      let same = one_expression false p bs e d h.0 k.0 h.1 k.1 h.2 k.2 in
      whole_and_broken h.0 h.1 es fs after rest at stand f h.3 none clean
      (subst (λ (x : List ℕ). BeginsAs false h.0 x fs at stand) (sym same.2)
      (subst (λ (n : ℕ). BeginsAs false n k.1 fs at stand) (sym same.1) k.3)) fault

-- ---- what the bytes that were taken say of all

left_over : (bytes : List ℕ) (rest : Option (List ℕ)) (taken : List ℕ)
    → Takes (Some bytes) rest taken → (behind : List ℕ) × (bytes ≡ taken ++ behind)
    × (IsAtEnd rest → behind ≡ [])
left_over bytes None taken takes = absurd takes.consumed
left_over bytes (Some behind) taken takes = (behind, takes.consumed, λ end. end)

module _ (found_stays : FoundStays) (fault_stays : FaultStays) (words : List Text)
    (options : Options) (bytes : List ℕ) (rest : Option (List ℕ))
    (p : Progress options.limits (Some bytes) rest) where
  abbrev behind : List ℕ
  behind = (left_over bytes rest p.taken p.consumed).0

  bytes-are : bytes ≡ p.taken ++ behind
  bytes-are = (left_over bytes rest p.taken p.consumed).1

  all_taken : IsTrue p.ended → p.taken ≡ bytes
  all_taken ended = sym (bytes-are ∙ ap (λ l. p.taken
      ++ l) ((left_over bytes rest p.taken p.consumed).2 (p.at_end ended)) ∙ append-nil p.taken)

  whole_read : IsTrue p.ended → length p.taken ≤ max_input → Reads 0 p.taken p.expressions whole
      → CanBeRead bytes
  whole_read ended few reads = (
    p.expressions,
    subst (λ (l : List ℕ). Reads 0 l p.expressions whole) (all_taken ended) reads,
    subst (λ (l : List ℕ). length l ≤ max_input) (all_taken ended) few,
  )

  breaks : (f : SexpFault) (b : Bool) → p.ended ≡ b → length p.taken ≤ max_input
      → IsBrokenBehind b p.taken p.expressions f → BreaksIn bytes f
  breaks f true ended few h = (
    p.expressions,
    subst (λ (l : List ℕ). Reads 0 l p.expressions (broken f)) (all_taken ended)
        (reads_broken p.taken p.expressions f h),
    inl (subst (λ (l : List ℕ). length l ≤ max_input) (all_taken ended) few),
  )
  breaks f false ended few h =
      let on : IsBrokenBehind true (p.taken ++ behind) p.expressions f = broken_on found_stays
      fault_stays true p.taken behind p.expressions f h in
      let seam : take max_input bytes ≡ p.taken ++ take (max_input - length p.taken) behind = ap
      (take max_input) bytes-are ∙ take_over max_input p.taken behind few in (
        p.expressions,
        subst (λ (l : List ℕ). Reads 0 l p.expressions (broken f)) (sym bytes-are)
            (reads_broken (p.taken ++ behind) p.expressions f on),
        inr (subst (λ (l : List ℕ). IsBrokenBehind false l p.expressions f) (sym seam)
            (broken_on found_stays fault_stays false p.taken
            (take (max_input - length p.taken) behind) p.expressions f h)),
      )

  too_many : (first : List ℕ) (byte : ℕ) → p.taken ≡ first ++ byte ∷ [] → length first ≡ max_input
      → HasWhole first p.expressions → AreTooMany bytes
  too_many first byte is long held =
      let all : bytes ≡ first ++ (byte ∷ behind) = bytes-are ∙ ap (λ l. l ++ behind) is
      ∙ append_assoc first (byte ∷ []) behind in
      let front : take max_input bytes ≡ first = ap (take max_input) all
      ∙ ap (λ n. take n (first ++ (byte ∷ behind))) (sym long)
      ∙ take_front first (byte ∷ behind) in (
        p.expressions,
        subst (λ (l : List ℕ). HasWhole l p.expressions) (sym front) held,
        omega (arith, ap length all, length-append first (byte ∷ behind), long),
      )

  due : (status : Status) → AreAsked status words options p.taken p.told
      → IsReadTo status p.ended p.taken p.expressions p.told
      → (status ≢ TooMuch → length p.taken ≤ max_input)
      → is_stopped status ≡ false → IsDue words bytes status
  due Proved asked read within runs_on =
      ((options, asked), whole_read read.0 (within (λ e. cc)) read.1)
  due Answered asked read within runs_on =
      ((options, asked), whole_read read.0 (within (λ e. cc)) read.1)
  due BadWords asked read within runs_on = asked
  due (Syntax f) asked read within runs_on =
      ((options, asked), breaks f p.ended refl (within (λ e. cc)) read)
  due TooMuch asked read within runs_on =
      ((options, asked), too_many read.first read.byte read.taken_is read.long read.held)
  due status asked read within runs_on = absurd (cc)

-- ---- no two statuses are due

module _ (one_expression : OneExpression) (either : ExpressionOrFault) (one_reading : OneReading)
    (bytes : List ℕ) where
  read_and_broken : (f : SexpFault) → CanBeRead bytes → BreaksIn bytes f → ⊥
  read_and_broken f h k = let same : whole ≡ broken f
      = (one_reading 0 bytes h.0 k.0 whole (broken f) h.1 k.1).1 in cc

  read_and_many : CanBeRead bytes → AreTooMany bytes → ⊥
  read_and_many h k = omega (arith, h.2, k.2)

  one_fault_due : (f g : SexpFault) → BreaksIn bytes f → BreaksIn bytes g → Syntax f ≡ Syntax g
  one_fault_due f g h k = let same : broken f ≡ broken g
      = (one_reading 0 bytes h.0 k.0 (broken f) (broken g) h.1 k.1).1 in let faults : f ≡ g = cc
      in ap Syntax faults

  broken_and_many : (f : SexpFault) → BreaksIn bytes f → AreTooMany bytes → ⊥
  broken_and_many f h k = elim h.2 [
    | inl few ↦ omega (arith, few, k.2)
    | inr early ↦ whole_and_broken one_expression either 0 (take max_input bytes) k.0 h.0 k.1.after
        k.1.rest early.0 early.1 f
        k.1.begins k.1.no_further k.1.no_fault early.2 early.3
  ]

  module _ (words : List Text) where
    right_and_bad : AreRight words → AsksFor words (Err Bad) → ⊥
    right_and_bad right bad = bad right.1.0 right.1.1

    read_and_due : (t : Status) → AreRight words → CanBeRead bytes → IsDue words bytes t
        → as_read t ≡ Answered
    read_and_due Proved right h k = refl
    read_and_due Answered right h k = refl
    read_and_due BadWords right h k = absurd (right_and_bad right k)
    read_and_due (Syntax f) right h k = absurd (read_and_broken f h k.1)
    read_and_due TooMuch right h k = absurd (read_and_many h k.1)
    read_and_due t right h k = absurd k

    bad_and_due : (t : Status) → AsksFor words (Err Bad) → IsDue words bytes t
        → as_read t ≡ BadWords
    bad_and_due BadWords bad k = refl
    bad_and_due Proved bad k = absurd (right_and_bad k.0 bad)
    bad_and_due Answered bad k = absurd (right_and_bad k.0 bad)
    bad_and_due (Syntax f) bad k = absurd (right_and_bad k.0 bad)
    bad_and_due TooMuch bad k = absurd (right_and_bad k.0 bad)
    bad_and_due t bad k = absurd k

    broken_and_due : (t : Status) (f : SexpFault) → AreRight words → BreaksIn bytes f
        → IsDue words bytes t → as_read t ≡ Syntax f
    broken_and_due Proved f right h k = absurd (read_and_broken f k.1 h)
    broken_and_due Answered f right h k = absurd (read_and_broken f k.1 h)
    broken_and_due BadWords f right h k = absurd (right_and_bad right k)
    broken_and_due (Syntax g) f right h k = one_fault_due g f k.1 h
    broken_and_due TooMuch f right h k = absurd (broken_and_many f h k.1)
    broken_and_due t f right h k = absurd k

    many_and_due : (t : Status) → AreRight words → AreTooMany bytes → IsDue words bytes t
        → as_read t ≡ TooMuch
    many_and_due Proved right h k = absurd (read_and_many k.1 h)
    many_and_due Answered right h k = absurd (read_and_many k.1 h)
    many_and_due BadWords right h k = absurd (right_and_bad right k)
    many_and_due (Syntax f) right h k = absurd (broken_and_many f k.1 h)
    many_and_due TooMuch right h k = refl
    many_and_due t right h k = absurd k

    one_due : (s t : Status) → IsDue words bytes s → IsDue words bytes t → as_read t ≡ as_read s
    one_due Proved t h k = read_and_due t h.0 h.1 k
    one_due Answered t h k = read_and_due t h.0 h.1 k
    one_due BadWords t h k = bad_and_due t h k
    one_due (Syntax f) t h k = broken_and_due t f h.0 h.1 k
    one_due TooMuch t h k = many_and_due t h.0 h.1 k
    one_due s t h k = absurd h

due_read : (words : List Text) (bytes : List ℕ) (s : Status) → IsDue words bytes s
    → IsDue words bytes (as_read s)
due_read words bytes Proved h = h
due_read words bytes Answered h = h
due_read words bytes BadWords h = h
due_read words bytes (Syntax f) h = h
due_read words bytes TooMuch h = h
due_read words bytes s h = absurd h

due_of_read : (words : List Text) (bytes : List ℕ) (s : Status) → IsDue words bytes (as_read s)
    → IsDue words bytes s
due_of_read words bytes Proved h = h
due_of_read words bytes Answered h = h
due_of_read words bytes BadWords h = h
due_of_read words bytes (Syntax f) h = h
due_of_read words bytes TooMuch h = h
due_of_read words bytes s h = absurd h

no_write_fault : (s : Status) → is_stopped s ≡ false → s ≢ WriteFault
no_write_fault WriteFault runs_on e = cc
no_write_fault s runs_on e = cc

pub status_is_due : FoundStays → FaultStays → OneExpression → ExpressionOrFault → OneReading
    → StatusIsDue
status_is_due found fault one either reading words bytes rest written now before after result ran
    runs_on =
    let is : result ≡ ran.reached = (ran.whole_text (no_write_fault result runs_on)).0 in
    let reached : IsDue words bytes ran.reached =
    due found fault words ran.options bytes rest ran.progress ran.reached ran.asked ran.read
    ran.within
    (subst (λ (s : Status). is_stopped s ≡ false) is runs_on) in
    let mine : IsDue words bytes result = subst (IsDue words bytes) (sym is) reached in
    λ status. (
      λ other. one_due one either reading bytes words result status mine other,
      λ same. due_of_read words bytes status (subst (IsDue words bytes) (sym same)
          (due_read words bytes result mine)),
    )
