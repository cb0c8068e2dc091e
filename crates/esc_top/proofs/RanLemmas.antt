-- The last line is written, and the run has ended.
use Rattle.std.proofs.Common.{◌≡◌, ℕ, List, [], arith, Option, Result, Ok, Err, inl, inr, refl}
use Rattle.std.proofs.Common.{sym, subst}
use Rattle.std.specs.Prelude.{◌≢◌}
use Rattle.std.proofs.lemmas.List.{append-nil}
use Rattle.esc_io.specs.Putting.{GrowsByFront, Puts}
use Rattle.esc_io.proofs.PuttingLemmas.{Grows-start, Grows-then, GrowsByFront-then}
use Rattle.esc_options.specs.declared.options.Options.{Options}
use Rattle.esc_words.specs.Uses.{Text, options_of}
use Rattle.esc_words.specs.Words.{AsksFor}
use Rattle.esc_words.specs.declared.read.WordsStop.TheVariants.{Bad}
use Rattle.esc_top.specs.LastLine.{last_line}
use Rattle.esc_top.specs.Ran.{AreAsked, IsCounted, Ran}
use Rattle.esc_top.specs.Told.{Told, texts}
use Rattle.esc_top.specs.Underway.{Broken, Came, Meets, Met, Reached}
use Rattle.esc_top.specs.declared.status.Status.{Status}
use Rattle.esc_top.specs.declared.status.Status.TheVariants.{Proved, Answered, BadWords, Syntax}
use Rattle.esc_top.specs.declared.status.Status.TheVariants.{ReadFault, WriteFault, Memory, TooMuch}
use Rattle.esc_top.proofs.ProgressLemmas.{progress_start}

-- ---- words

-- words that ask for something allow each status but one
asked : (words : List Text) (options : Options) (taken : List ℕ) (told : List Told)
    → AsksFor words (Ok options) → (status : Status) → status ≢ BadWords
    → AreAsked status words options taken told
asked words options taken told asks BadWords other = absurd (other refl)
asked words options taken told asks Memory other = inl asks
asked words options taken told asks Proved other = asks
asked words options taken told asks Answered other = asks
asked words options taken told asks (Syntax fault) other = asks
asked words options taken told asks ReadFault other = asks
asked words options taken told asks WriteFault other = asks
asked words options taken told asks TooMuch other = asks

met_reached : {left rest written now : Option (List ℕ)} (words : List Text) (options : Options)
    (status : Status) → AsksFor words (Ok options) → Reached options left rest written now status
    → Met words left rest written now status
met_reached words options status asks h = record {
  options = options;
  progress = h.progress;
  asked = asked words options h.progress.taken h.progress.told asks status h.no_bad_words;
  read = h.read;
  within = h.within;
  no_write_fault = h.no_write_fault;
  grown = h.grown;
}

pub meets_came : {E : Type 0} (left rest written now : Option (List ℕ)) (words : List Text)
    (options : Options) (r : Result Status E) → AsksFor words (Ok options)
    → Came options left rest written now r → Meets words left rest written now r
meets_came left rest written now words options (Ok status) asks h =
    met_reached words options status asks h
meets_came left rest written now words options (Err e) asks h = (options, asks, h)

-- nothing is read where the words ask for nothing
pub met_bad_words : (words : List Text) (left written : Option (List ℕ)) → AsksFor words (Err Bad)
    → Met words left left written written BadWords
met_bad_words words left written asks = record {
  options = options_of [];
  progress = progress_start (options_of []).limits left;
  asked = asks;
  read = (refl, refl, refl);
  within = λ other. omega arith;
  no_write_fault = λ e. cc;
  grown = Grows-start written;
}

-- nor where memory is wanting to read them
pub met_at_once : (words : List Text) (left written : Option (List ℕ))
    → Met words left left written written Memory
met_at_once words left written = record {
  options = options_of [];
  progress = progress_start (options_of []).limits left;
  asked = inr (refl, refl);
  read = λ more follows. (0, more, (refl, refl));
  within = λ other. omega arith;
  no_write_fault = λ e. cc;
  grown = Grows-start written;
}

-- ---- the end

pub ran_whole : {left rest written now after : Option (List ℕ)} {E : Type 0} (words : List Text)
    (m n : ℕ) (status : Status) → Met words left rest written now status → IsCounted status m n
    → Puts {T = Unit {0}} {E = E} now after (Ok tt) (last_line status)
    → Ran words left rest written after m n status
ran_whole words m n status h counted put = record {
  options = h.options;
  reached = status;
  progress = h.progress;
  asked = h.asked;
  read = h.read;
  within = h.within;
  counted = counted;
  whole_text = λ runs_on. (refl, Grows-then h.grown put.whole);
  front = GrowsByFront-then h.grown put.front;
}

pub ran_short : {left rest written now after : Option (List ℕ)} {E : Type 0} (words : List Text)
    (m n : ℕ) (status : Status) (failed : E) → Met words left rest written now status
    → IsCounted status m n
    → Puts {T = Unit {0}} {E = E} now after (Err failed) (last_line status)
    → Ran words left rest written after m n WriteFault
ran_short words m n status failed h counted put = record {
  options = h.options;
  reached = status;
  progress = h.progress;
  asked = h.asked;
  read = h.read;
  within = h.within;
  counted = counted;
  whole_text = λ runs_on. absurd (runs_on refl);
  front = GrowsByFront-then h.grown put.front;
}

pub ran_broken : {left rest written now : Option (List ℕ)} (words : List Text) (m n : ℕ)
    (options : Options) → AsksFor words (Ok options) → Broken options left rest written now
    → n ≡ m → Ran words left rest written now m n WriteFault
ran_broken {left} {rest} {written} {now} words m n options asks h same = record {
  options = options;
  reached = WriteFault;
  progress = h.progress;
  asked = asks;
  read = h.read;
  within = λ other. h.within;
  counted = same;
  whole_text = λ runs_on. absurd (runs_on refl);
  front = subst (λ (l : List ℕ). GrowsByFront written now l)
      (sym (append-nil (texts options.show h.progress.told))) h.front;
}
