-- The steps of a run keep what stands between them, and lead to its end.
use Rattle.std.proofs.Common.{◌≡◌, ℕ, ◌+◌, ◌≤◌, Bool, true, false, ◌&&◌, List, [], ◌∷◌, ◌++◌}
use Rattle.std.proofs.Common.{length, append_assoc, length-append, arith, Option, None, Result}
use Rattle.std.proofs.Common.{Ok, Err, refl, sym, ap, subst, ◌∙◌}
use Rattle.std.specs.Prelude.{◌≢◌, IsErr, if◌then◌else◌, not}
use Rattle.std.specs.Io.KnownBytes.{IsAtEnd, Keeps}
use Rattle.esc_io.specs.Putting.{Grows, GrowsByFront, Puts}
use Rattle.esc_io.specs.Taking.{Takes}
use Rattle.esc_io.proofs.PuttingLemmas.{Grows-start, Grows-then, Grows-flushed}
use Rattle.esc_io.proofs.PuttingLemmas.{GrowsByFront-then, GrowsByFront-whole}
use Rattle.esc_options.specs.declared.options.Options.{Options}
use Rattle.esc_read.specs.Reading.{Extends}
use Rattle.esc_sexp.specs.declared.sexp.Sexp.{Sexp}
use Rattle.esc_sexp.specs.declared.sexp.SexpFault.{SexpFault}
use Rattle.esc_sexp.specs.Laws.{FoundStays}
use Rattle.esc_sexp.specs.Unread.{Unread, Forgets, Gives, HasFault, fault_by}
use Rattle.esc_report.specs.Text.{report_text}
use Rattle.esc_answers.specs.State.{State}
use Rattle.esc_top.specs.Answers.{AnswersExpression}
use Rattle.esc_top.specs.DeskInside.{IsNew}
use Rattle.esc_top.specs.Progress.{Progress}
use Rattle.esc_top.specs.Ran.{IsCounted, IsReadTo}
use Rattle.esc_top.specs.Reading.{HasFirst, max_input}
use Rattle.esc_top.specs.Told.{Told, all_proved, is_proved_report}
use Rattle.esc_top.specs.Underway.{AnswersOne, Broken, Came, EndsByCount, IsHungry, Reached}
use Rattle.esc_top.specs.Underway.{Stops, StopsByCount, Underway, state_of, status_at}
use Rattle.esc_top.specs.declared.desk.Desk.{Desk}
use Rattle.esc_top.specs.declared.input.Stop.{Stop}
use Rattle.esc_top.specs.declared.input.Stop.TheVariants as stop
use Rattle.esc_top.specs.declared.status.Status.{Status}
use Rattle.esc_top.specs.declared.status.Status.TheVariants.{Proved, Answered, BadWords, Syntax}
use Rattle.esc_top.specs.declared.status.Status.TheVariants.{ReadFault, WriteFault, Memory, TooMuch}
use Rattle.esc_top.proofs.ProgressLemmas.{progress_fed, progress_start, progress_told}
use Rattle.esc_top.proofs.ProgressLemmas.{progress_unfed}
use Rattle.esc_top.proofs.ReadingLemmas.{behind_fed, behind_finished, behind_forgot, behind_found}
use Rattle.esc_top.proofs.ReadingLemmas.{behind_start, breaks_behind, has_first, has_whole}
use Rattle.esc_top.proofs.ReadingLemmas.{reads_whole}
use Rattle.esc_top.proofs.ToldLemmas.{all_proved-push, texts-push}

-- ---- expressions

zero_within : 0 ≤ max_input
zero_within = omega arith

-- nothing was read
pub underway_start : (options : Options) (left written : Option (List ℕ)) (unread : Unread)
    (desk : Desk) → unread ≡ record { place = 0; bytes = []; finished = false; fault = None }
    → IsNew options desk → Underway options left left written written unread desk
underway_start options left written unread desk is new = record {
  progress = progress_start options.limits left;
  ended = sym (ap (λ (u : Unread). u.finished) is);
  untold = ap (λ (u : Unread). u.fault) is;
  behind = behind_start unread is;
  reached = subst (λ (u : Unread). u.place + length u.bytes ≡ 0) (sym is) refl;
  within = zero_within;
  options_are = new.options_are;
  names = sym new.names;
  state = sym new.state;
  clean = new.clean;
  grown = Grows-start written;
}

-- an expression is answered
module _ {E : Type 0} {options : Options} {left rest written now after : Option (List ℕ)}
    (old : Unread) (desk desk' : Desk) (e : Sexp) (r : Result (Unit {0}) E)
    (h : Underway options left rest written now old desk)
    (answers : AnswersOne {E = E} desk desk' e now after r) where
  answered : Progress options.limits left rest
  answered =
      progress_told options.limits h.progress e
      (record { names = desk'.names; before = state_of desk; report = answers.report })
      (state_of desk')
      (subst (λ (n : List (List ℕ)). Extends n desk'.names) (sym h.names) answers.names)
      answers.distinct (sym h.state)
      (subst (λ (s : State). AnswersExpression options.limits desk'.names s e answers.report
      (state_of desk')) (sym h.state)
      (subst (λ (o : Options). AnswersExpression o.limits desk'.names (state_of desk) e
      answers.report (state_of desk')) h.options_are answers.answers))

  put : Puts now after r (report_text desk'.names options.show answers.report)
  put = subst (λ (o : Options). Puts now after r (report_text desk'.names o.show answers.report))
      h.options_are answers.put

pub underway_told : {E : Type 0} {options : Options} {left rest written now after : Option (List ℕ)}
    → FoundStays → (old new : Unread) (desk desk' : Desk) (e : Sexp)
    → Underway options left rest written now old desk → Gives old e new
    → AnswersOne {E = E} desk desk' e now after (Ok tt)
    → Underway options left rest written after new desk'
unfolding answered
underway_told {E} {options} {left} {rest} {written} {now} {after} stays old new desk desk' e h
    gives answers =
    let told : Told = record {
      names = desk'.names;
      before = state_of desk;
      report = answers.report;
    } in
    record {
      progress = answered old desk desk' e (Ok tt) h answers;
      ended = h.ended ∙ sym (ap (λ (u : Unread). u.finished) gives.rest);
      untold = ap (λ (u : Unread). u.fault) gives.rest ∙ h.untold;
      behind = behind_found stays h.progress.taken h.progress.expressions e old new gives h.behind;
      reached = gives.end ∙ h.reached;
      within = h.within;
      options_are = answers.options ∙ h.options_are;
      names = refl;
      state = refl;
      clean = answers.clean ∙ ap (λ (b : Bool). b && is_proved_report answers.report) h.clean
          ∙ sym (all_proved-push h.progress.told told);
      grown = subst (λ (l : List ℕ). Grows written after l)
          (sym (texts-push options.show h.progress.told told))
          (Grows-then h.grown (put old desk desk' e (Ok tt) h answers).whole);
    }

pub broken_told : {E : Type 0} {options : Options} {left rest written now after : Option (List ℕ)}
    → FoundStays → (old new : Unread) (desk desk' : Desk) (e : Sexp) (failed : E)
    → Underway options left rest written now old desk → Gives old e new
    → AnswersOne {E = E} desk desk' e now after (Err failed)
    → Broken options left rest written after
unfolding answered
broken_told {E} {options} {left} {rest} {written} {now} {after} stays old new desk desk' e failed
    h gives answers =
    let told : Told = record {
      names = desk'.names;
      before = state_of desk;
      report = answers.report;
    } in
    let finished : h.progress.ended ≡ new.finished = h.ended
    ∙ sym (ap (λ (u : Unread). u.finished) gives.rest) in
    let es : List Sexp = h.progress.expressions ++ e ∷ [] in
    record {
      progress = answered old desk desk' e (Err failed) h answers;
      within = h.within;
      read = subst (λ (b : Bool). IsReadTo WriteFault b h.progress.taken es (h.progress.told ++ told
          ∷ [])) (sym finished)
          (has_first h.progress.taken es new (behind_found stays h.progress.taken
          h.progress.expressions e old new gives h.behind));
      front = subst (λ (l : List ℕ). GrowsByFront written after l)
          (sym (texts-push options.show h.progress.told told))
          (GrowsByFront-then h.grown (put old desk desk' e (Err failed) h answers).front);
    }

-- no expression is whole
pub underway_forgot : {options : Options} {left rest written now : Option (List ℕ)}
    (old new : Unread) (desk : Desk) → Underway options left rest written now old desk
    → Forgets old new → Underway options left rest written now new desk
underway_forgot old new desk h forgets = record {
  progress = h.progress;
  ended = h.ended ∙ sym forgets.finished;
  untold = forgets.fault ∙ h.untold;
  behind = behind_forgot h.progress.taken h.progress.expressions old new forgets h.behind;
  reached = forgets.end ∙ h.reached;
  within = h.within;
  options_are = h.options_are;
  names = h.names;
  state = h.state;
  clean = h.clean;
  grown = h.grown;
}

-- ---- pieces

pub underway_flushed : {options : Options} {left rest written now after : Option (List ℕ)}
    {unread : Unread} {desk : Desk} → Underway options left rest written now unread desk
    → Keeps now after → Underway options left rest written after unread desk
underway_flushed h k = record {
  progress = h.progress;
  ended = h.ended;
  untold = h.untold;
  behind = h.behind;
  reached = h.reached;
  within = h.within;
  options_are = h.options_are;
  names = h.names;
  state = h.state;
  clean = h.clean;
  grown = Grows-flushed h.grown k;
}

pub underway_fed : {options : Options} {left mid rest written now : Option (List ℕ)}
    (old new : Unread) (desk : Desk) (piece : List ℕ)
    → Underway options left mid written now old desk → Takes mid rest piece → old.finished ≡ false
    → new ≡ record old { bytes = old.bytes ++ piece }
    → old.place + length old.bytes + length piece ≤ max_input
    → Underway options left rest written now new desk
underway_fed old new desk piece h takes open_end is few =
    let taken = h.progress.taken in
    record {
      progress = progress_fed h.progress piece false takes (λ told. absurd cc);
      ended = sym (ap (λ (u : Unread). u.finished) is ∙ open_end);
      untold = ap (λ (u : Unread). u.fault) is ∙ h.untold;
      behind = behind_fed taken piece h.progress.expressions old new open_end is h.behind;
      reached = subst (λ (u : Unread). u.place + length u.bytes ≡ length (taken ++ piece)) (sym is)
          (let e = h.reached in omega (
            arith,
            length-append old.bytes piece,
            length-append taken
                piece,
          ));
      within = let e = h.reached in omega (arith, few, length-append taken piece);
      options_are = h.options_are;
      names = h.names;
      state = h.state;
      clean = h.clean;
      grown = h.grown;
    }

pub underway_finished : {options : Options} {left mid rest written now : Option (List ℕ)}
    (old new : Unread) (desk : Desk) → Underway options left mid written now old desk
    → Takes mid rest [] → IsAtEnd rest → new ≡ record old { finished = true }
    → Underway options left rest written now new desk
underway_finished old new desk h takes end is = record {
  progress = progress_unfed h.progress true takes (λ told. end);
  ended = sym (ap (λ (u : Unread). u.finished) is);
  untold = ap (λ (u : Unread). u.fault) is ∙ h.untold;
  behind = behind_finished h.progress.taken h.progress.expressions old new is h.behind;
  reached = subst (λ (u : Unread). u.place + length u.bytes ≡ length h.progress.taken) (sym is)
      h.reached;
  within = h.within;
  options_are = h.options_are;
  names = h.names;
  state = h.state;
  clean = h.clean;
  grown = h.grown;
}

-- ---- statuses

stands : {options : Options} {left rest written now : Option (List ℕ)} (unread : Unread)
    (desk : Desk) (status : Status) → (h : Underway options left rest written now unread desk)
    → status ≢ WriteFault → status ≢ BadWords
    → IsReadTo status unread.finished h.progress.taken h.progress.expressions h.progress.told
    → Reached options left rest written now status
stands unread desk status h runs_on worded read = record {
  progress = h.progress;
  read = subst (λ (b : Bool). IsReadTo status b h.progress.taken h.progress.expressions
      h.progress.told) (sym h.ended) read;
  within = λ other. h.within;
  no_write_fault = runs_on;
  no_bad_words = worded;
  grown = h.grown;
}

pub reached_syntax : {options : Options} {left rest written now : Option (List ℕ)} (unread : Unread)
    (desk : Desk) (f : SexpFault) → Underway options left rest written now unread desk
    → HasFault unread f → Reached options left rest written now (Syntax f)
reached_syntax unread desk f h fault =
    let here : fault_by unread None f = subst (λ (told : Option SexpFault). fault_by unread told f)
    h.untold fault in
    stands unread desk (Syntax f) h (λ e. cc) (λ e. cc)
    (breaks_behind h.progress.taken h.progress.expressions f unread here.0 h.behind)

pub reached_memory : {options : Options} {left rest written now : Option (List ℕ)} (unread : Unread)
    (desk : Desk) → Underway options left rest written now unread desk
    → Reached options left rest written now Memory
reached_memory unread desk h = stands unread desk Memory h (λ e. cc) (λ e. cc)
    (has_first h.progress.taken h.progress.expressions unread h.behind)

-- the bytes of a piece were taken, and the reader did not get them
pub reached_unfed : {options : Options} {left mid rest written now : Option (List ℕ)}
    (unread : Unread) (desk : Desk) (piece : List ℕ) → unread.finished ≡ false
    → Underway options left mid written now unread desk → Takes mid rest piece
    → unread.place + length unread.bytes + length piece ≤ max_input
    → Reached options left rest written now Memory
reached_unfed unread desk piece open_end h takes few =
    let taken = h.progress.taken in
    record {
      progress = progress_fed h.progress piece false takes (λ told. absurd cc);
      read = λ more follows. subst (λ (l : List ℕ). HasFirst l h.progress.expressions)
          (sym (append_assoc taken piece more))
          (has_first taken h.progress.expressions unread h.behind (piece ++ more)
          (λ told. absurd cc));
      within = λ other. let e = h.reached in omega (arith, few, length-append taken piece);
      no_write_fault = λ e. cc;
      no_bad_words = λ e. cc;
      grown = h.grown;
    }

pub reached_read_fault : {options : Options} {left mid rest written now : Option (List ℕ)}
    (unread : Unread) (desk : Desk) → unread.finished ≡ false
    → Underway options left mid written now unread desk → IsHungry unread → Takes mid rest []
    → Reached options left rest written now ReadFault
reached_read_fault unread desk open_end h empty takes = record {
  progress = progress_unfed h.progress false takes (λ told. absurd cc);
  read = has_whole h.progress.taken h.progress.expressions unread open_end empty h.behind;
  within = λ other. h.within;
  no_write_fault = λ e. cc;
  no_bad_words = λ e. cc;
  grown = h.grown;
}

pub reached_too_much : {options : Options} {left mid rest written now : Option (List ℕ)}
    (unread : Unread) (desk : Desk) (byte : ℕ) → unread.finished ≡ false
    → Underway options left mid written now unread desk → IsHungry unread
    → Takes mid rest (byte ∷ []) → unread.place + length unread.bytes ≡ max_input
    → Reached options left rest written now TooMuch
reached_too_much unread desk byte open_end h empty takes full = record {
  progress = progress_fed h.progress (byte ∷ []) false takes (λ told. absurd cc);
  read = record {
    first = h.progress.taken;
    byte = byte;
    taken_is = refl;
    long = sym h.reached ∙ full;
    held = has_whole h.progress.taken h.progress.expressions unread open_end empty h.behind;
  };
  within = λ other. absurd (other refl);
  no_write_fault = λ e. cc;
  no_bad_words = λ e. cc;
  grown = h.grown;
}

pub reached_proved : {options : Options} {left rest written now : Option (List ℕ)} (unread : Unread)
    (desk : Desk) → unread.finished ≡ true → Underway options left rest written now unread desk
    → IsHungry unread → desk.all_proved ≡ true → Reached options left rest written now Proved
reached_proved unread desk told h empty clean =
    stands unread desk Proved h (λ e. cc) (λ e. cc) (
      told,
      reads_whole h.progress.taken h.progress.expressions unread (empty.blank told)
          h.behind,
      sym h.clean ∙ clean,
    )

pub reached_answered : {options : Options} {left rest written now : Option (List ℕ)}
    (unread : Unread) (desk : Desk) → unread.finished ≡ true
    → Underway options left rest written now unread desk → IsHungry unread → desk.all_proved ≡ false
    → Reached options left rest written now Answered
reached_answered unread desk told h empty dirty =
    stands unread desk Answered h (λ e. cc) (λ e. cc) (
      told,
      reads_whole h.progress.taken h.progress.expressions unread (empty.blank told)
          h.behind,
      ap not (sym h.clean ∙ dirty),
    )

-- want of memory before anything was read
pub reached_at_once : (options : Options) (left written : Option (List ℕ))
    → Reached options left left written written Memory
reached_at_once options left written = record {
  progress = progress_start options.limits left;
  read = λ more follows. (0, more, (refl, refl));
  within = λ other. zero_within;
  no_write_fault = λ e. cc;
  no_bad_words = λ e. cc;
  grown = Grows-start written;
}

-- a flush failed
pub broken_flush : {options : Options} {left rest written now after : Option (List ℕ)}
    (unread : Unread) (desk : Desk) → Underway options left rest written now unread desk
    → Keeps now after → Broken options left rest written after
broken_flush unread desk h k = record {
  progress = h.progress;
  read = subst (λ (b : Bool). IsReadTo WriteFault b h.progress.taken h.progress.expressions
      h.progress.told) (sym h.ended)
      (has_first h.progress.taken h.progress.expressions unread h.behind);
  within = h.within;
  front = GrowsByFront-whole (Grows-flushed h.grown k);
}

-- ---- results

pub stops_broken : {E : Type 0} {options : Options} {left rest written now : Option (List ℕ)}
    (unread : Unread) (desk : Desk) (r : Result Stop E) → IsErr r
    → Broken options left rest written now → Stops options left rest written now unread desk r
stops_broken unread desk (Ok s) h broken = cc
stops_broken unread desk (Err e) h broken = broken

pub stops_hungry : (E : Type 0) {options : Options} {left rest written now : Option (List ℕ)}
    (unread : Unread) (desk : Desk) (s : Stop) → s ≡ stop.Hungry
    → Stops {E = E} options left rest written now unread desk (Ok s)
    → Underway options left rest written now unread desk × IsHungry unread
stops_hungry E {options} {left} {rest} {written} {now} unread desk s is h = subst
    (λ (x : Stop). Stops {E = E} options left rest written now unread desk (Ok x)) is h

pub stops_ended : (E : Type 0) {options : Options} {left rest written now : Option (List ℕ)}
    (unread : Unread) (desk : Desk) (s : Stop) (status : Status) → s ≡ stop.Ended status
    → Stops {E = E} options left rest written now unread desk (Ok s)
    → Reached options left rest written now status
stops_ended E {options} {left} {rest} {written} {now} unread desk s status is h = subst
    (λ (x : Stop). Stops {E = E} options left rest written now unread desk (Ok x)) is h

pub ended_count : (E : Type 0) (s : Stop) (status : Status) (before now : ℕ) → s ≡ stop.Ended status
    → StopsByCount {E = E} (Ok s) before now → IsCounted status before now
ended_count E s status before now is h = subst (λ (x : Stop). StopsByCount {E = E} (Ok x) before
    now) is h

pub stops_count : {E : Type 0} (r : Result Stop E) (n : ℕ) → IsErr r → StopsByCount r n n
stops_count (Ok s) n h = cc
stops_count (Err e) n h = refl

pub came_broken : {E : Type 0} {options : Options} {left rest written now : Option (List ℕ)}
    (r : Result Status E) → IsErr r → Broken options left rest written now
    → Came options left rest written now r
came_broken (Ok s) h broken = cc
came_broken (Err e) h broken = broken

-- at the end of the input
pub reached_at : (E : Type 0) {options : Options} {left rest written now : Option (List ℕ)}
    (unread : Unread) (desk : Desk) (s : Stop) → (s ≡ stop.Hungry → unread.finished ≡ true)
    → Stops {E = E} options left rest written now unread desk (Ok s)
    → Reached options left rest written now (status_at s desk.all_proved)
reached_at E unread desk (stop.Ended status) told h = h
reached_at E {options} {left} {rest} {written} {now} unread desk stop.Hungry told h = by_proved
    desk.all_proved refl
  where
    by_proved : (b : Bool) → desk.all_proved ≡ b → Reached options left rest written now
        (if desk.all_proved then Proved else Answered)
    by_proved true is = subst (λ (c : Bool). Reached options left rest written now
        (if c then Proved else Answered)) (sym is)
        (reached_proved unread desk (told refl) h.0 h.1 is)
    by_proved false is = subst (λ (c : Bool). Reached options left rest written now
        (if c then Proved else Answered)) (sym is)
        (reached_answered unread desk (told refl) h.0 h.1 is)

pub count_at : (E F : Type 0) (s : Stop) (all_proved : Bool) (before now : ℕ)
    → StopsByCount {E = E} (Ok s) before now → EndsByCount {E = F} (Ok (status_at s all_proved))
    before now
count_at E F (stop.Ended status) all_proved before now h = h
count_at E F stop.Hungry true before now h = h
count_at E F stop.Hungry false before now h = h
