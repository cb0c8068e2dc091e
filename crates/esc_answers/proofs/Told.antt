-- What is told of a goal is so.
use Rattle.std.proofs.Common.{◌≡◌, ◌<◌, ◌^◌, ℕ, ◌+◌, List, subst, arith}
use Rattle.std.specs.Prelude.{IsTrue}
use Rattle.std.specs.List.{list_all}
use Rattle.esc_term.specs.declared.formula.Formula.{Formula}
use Rattle.esc_fact.specs.Base.{formulas_in}
use Rattle.esc_form.specs.declared.command.Command.{Command}
use Rattle.esc_form.specs.declared.command.Kind.{Kind}
use Rattle.esc_form.specs.declared.command.Kind.TheVariants.{Goal}
use Rattle.esc_fact.specs.declared.fact.Fact.{Fact}
use Rattle.esc_outcome.specs.Causes.{IsStuck}
use Rattle.esc_outcome.specs.PlainLaws.{PlainValidIsRefuted}
use Rattle.esc_outcome.specs.TreeLaws.{occurrences_in}
use Rattle.esc_outcome.specs.declared.branch.Branch.{Branch}
use Rattle.esc_options.specs.declared.options.Limits.{Limits}
use Rattle.esc_outcome.specs.declared.stuck.Stuck.{Stuck}
use Rattle.esc_report.specs.Goals.{IsFreeGoal, base_of}
use Rattle.esc_report.specs.Laws.{FreeGoalIsPlainAndFree, PlainGoalIsPlain}
use Rattle.esc_report.specs.PlainFormulas.{is_plain_formula}
use Rattle.esc_report.specs.declared.report.Report.{Report}
use Rattle.esc_report.specs.declared.report.Report.TheVariants as report
use Rattle.esc_verdict.specs.Causes.{IsCause, IsOutOfFacts, IsOutOfRounds}
use Rattle.esc_verdict.specs.Laws.{PlainIsNotRefuted, PlainRunsOutOfSplits}
use Rattle.esc_verdict.specs.declared.cause.Cause.{Cause}
use Rattle.esc_verdict.specs.declared.cause.Cause.TheVariants as cause
use Rattle.esc_verdict.specs.declared.cause.RoundsMade.{RoundsMade}
use Rattle.esc_answers.specs.Answers.{Answers, AnswersGoal, AnswersKind}
use Rattle.esc_answers.specs.Laws.{AnswersAreSharp, AnswersAreSound, IsSharpOf, IsShortOfSplits}
use Rattle.esc_answers.specs.Laws.{IsSoundOf}
use Rattle.esc_answers.specs.State.{State}

-- a command that is a goal is answered as one
goal_answered : (s t : State) (command : Command) (limits : Limits) (r : Report) (f : Formula)
    → Answers s command limits r t → command.kind ≡ Goal f
    → AnswersGoal limits (base_of s.assumed f) (s.goals + 1) command.place r
goal_answered s t command limits r f answers is =
    let here : AnswersKind limits s command.place (Goal f) r t =
    subst (λ (k : Kind). AnswersKind limits s command.place k r t) is answers in
    here.0

-- ---- plain goals

module _ (law : PlainValidIsRefuted) (plain : PlainGoalIsPlain) where
  sound_goal : (limits : Limits) (fs : List Formula) (f : Formula) (number place : ℕ) (r : Report)
      → AnswersGoal limits (base_of fs f) number place r → IsTrue (list_all is_plain_formula fs)
      → IsTrue (is_plain_formula f) → IsSoundOf fs f r
  sound_goal limits fs f number place (report.Valid goal log formulas) h assumed is_plain =
      law (base_of fs f) log formulas (plain fs f assumed is_plain) h.1
  sound_goal limits fs f number place (report.Invalid goal found) h assumed is_plain = tt
  sound_goal limits fs f number place (report.Unknown goal why) h assumed is_plain = tt
  sound_goal limits fs f number place (report.Memory goal at) h assumed is_plain = tt
  sound_goal limits fs f number place (report.Refused at why) h assumed is_plain = tt
  sound_goal limits fs f number place report.Done h assumed is_plain = tt

  pub answers_are_sound : AnswersAreSound
  answers_are_sound s t command limits r f answers is assumed is_plain =
      sound_goal limits s.assumed f (s.goals + 1) command.place r
      (goal_answered s t command limits r f answers is) assumed is_plain

-- ---- goals without arithmetic

not_below : (n : ℕ) → n < n → ⊥
not_below n h = omega (arith, h)

module _ (law : PlainRunsOutOfSplits) (free : FreeGoalIsPlainAndFree) (limits : Limits)
    (fs : List Formula) (f : Formula) (is : IsFreeGoal fs f) where
  abbrev most : ℕ
  most = 2 ^ occurrences_in (formulas_in (base_of fs f))

  -- the same limits, where as many splits are allowed as a tree can have
  abbrev with_splits : Limits
  with_splits = record {
    depth = limits.depth;
    rounds = limits.rounds;
    facts = limits.facts;
    splits = most;
    pivots = limits.pivots;
  }

  -- a stop of the arithmetic does not ask how many splits are allowed
  still_stuck : (branch : Branch) (stuck : Stuck) → IsStuck (base_of fs f) limits branch stuck
      → IsStuck (base_of fs f) with_splits branch stuck
  still_stuck branch stuck h =
      record { grown = h.grown; jam = h.jam; literals = h.literals; told = h.told }

  -- neither do rounds
  still_out_of_rounds : (branch : Branch) (made : RoundsMade)
      → IsOutOfRounds (base_of fs f) limits branch made
      → IsOutOfRounds (base_of fs f) with_splits branch made
  still_out_of_rounds branch made h = record {
    grown = h.grown;
    within = h.within;
    logged = h.logged;
    spent = h.spent;
    rounds = h.rounds;
    rest = h.rest;
    next = h.next;
    classes = h.classes;
    least = h.least;
    consistent = h.consistent;
    literals_are = h.literals_are;
    follow = h.follow;
  }

  -- nor facts
  still_out_of_facts : (branch : Branch) (next : Fact)
      → IsOutOfFacts (base_of fs f) limits branch next
      → IsOutOfFacts (base_of fs f) with_splits branch next
  still_out_of_facts branch next h = record {
    legal = h.legal;
    spent = h.spent;
    next_new = h.next_new;
    next_legal = h.next_legal;
    grown = h.grown;
  }

  short_of_splits : (why : Cause) → IsCause (base_of fs f) limits why
      → IsShortOfSplits fs f limits why
  short_of_splits (cause.Splits branch next) h =
      law (base_of fs f) limits (cause.Splits branch next) (free fs f is) h
  short_of_splits (cause.Overflow branch stuck) h =
      not_below most (law (base_of fs f) with_splits (cause.Overflow branch stuck) (free fs f is)
      (still_stuck branch stuck h.0, h.1))
  short_of_splits (cause.Pivots branch stuck) h =
      not_below most (law (base_of fs f) with_splits (cause.Pivots branch stuck) (free fs f is)
      (still_stuck branch stuck h.0, h.1))
  short_of_splits (cause.Rounds branch made) h =
      not_below most (law (base_of fs f) with_splits (cause.Rounds branch made) (free fs f is)
      (still_out_of_rounds branch made h))
  short_of_splits (cause.Facts branch next) h =
      not_below most (law (base_of fs f) with_splits (cause.Facts branch next) (free fs f is)
      (still_out_of_facts branch next h))

module _ (valid : PlainValidIsRefuted) (not_refuted : PlainIsNotRefuted)
    (splits : PlainRunsOutOfSplits) (free : FreeGoalIsPlainAndFree) where
  sharp_goal : (limits : Limits) (fs : List Formula) (f : Formula) (number place : ℕ)
      (r : Report) → AnswersGoal limits (base_of fs f) number place r → IsFreeGoal fs f
      → IsSharpOf fs f limits r
  sharp_goal limits fs f number place (report.Valid goal log formulas) h is =
      valid (base_of fs f) log formulas (free fs f is).plain h.1
  sharp_goal limits fs f number place (report.Invalid goal found) h is =
      not_refuted (base_of fs f) limits found (free fs f is) h.1
  sharp_goal limits fs f number place (report.Unknown goal why) h is =
      short_of_splits splits free limits fs f is why h.1
  sharp_goal limits fs f number place (report.Memory goal at) h is = tt
  sharp_goal limits fs f number place (report.Refused at why) h is = h
  sharp_goal limits fs f number place report.Done h is = h

  pub answers_are_sharp : AnswersAreSharp
  answers_are_sharp s t command limits r f answers is_goal is =
      sharp_goal limits s.assumed f (s.goals + 1) command.place r
      (goal_answered s t command limits r f answers is_goal) is
