-- What a search comes to.
use Rattle.std.specs.Prelude.{◌≡◌, ◌≤◌, ◌+◌, ◌-◌, ◌^◌, ℕ, min, List, [], ◌∷◌, ◌++◌, Some, None}
use Rattle.std.specs.Prelude.{length, map, slice_get, take}
use Rattle.std.specs.List.{filter_map, range_with_len}
use Rattle.esc_term.specs.declared.formula.Formula.{Formula}
use Rattle.esc_term.specs.Model.{Model, read_in}
use Rattle.esc_term.specs.Refuted.{AllTrue, Refuted}
use Rattle.esc_clause.specs.Refinement.{next_split}
use Rattle.esc_context.specs.Left.{IsLeft}
use Rattle.esc_fact.specs.Depth.{IsWithinLimits}
use Rattle.esc_fact.specs.Fact.{formulas_of}
use Rattle.esc_fact.specs.Legal.{IsLegal, first_facts}
use Rattle.esc_fact.specs.declared.base.Base.{Base}
use Rattle.esc_fact.specs.declared.fact.Fact.{Fact}
use Rattle.esc_fact.specs.declared.fact.Fact.TheVariants.{Given}
use Rattle.esc_live.specs.Promises.{IsBranch, IsGiven, IsSoundIn}
use Rattle.esc_live.specs.View.{judge_on, literals_on, live_on, logged}
use Rattle.esc_outcome.specs.Causes.{AllFollow}
use Rattle.esc_outcome.specs.JamLaws.{stuck_with}
use Rattle.esc_outcome.specs.Tree.{path_formulas}
use Rattle.esc_outcome.specs.declared.branch.Branch.{Branch}
use Rattle.esc_outcome.specs.declared.stuck.Stuck.{Stuck}
use Rattle.esc_refine.specs.Refining.{IsDone, IsQuiet}
use Rattle.esc_verdict.specs.Causes.{IsCause}
use Rattle.esc_verdict.specs.Rounds.{AreRounds, IsSaturated}
use Rattle.esc_verdict.specs.declared.cause.Cause.{Cause}
use Rattle.esc_verdict.specs.declared.cause.Cause.TheVariants as cause
use Rattle.esc_verdict.specs.declared.cause.Start.{Start}
use Rattle.esc_search.specs.declared.outcome.Outcome.{Outcome}
use Rattle.esc_search.specs.declared.outcome.Outcome.TheVariants as outcome
use Rattle.esc_search.specs.declared.search.Search.{Search}
use Rattle.esc_search.specs.declared.tally.Tally.{Tally}

-- the facts that are live on the branch at hand, in the order in which they became live
abbrev pub live_facts : Search → List Fact
live_facts s = filter_map (slice_get s.log) s.branch.book.live

-- the branch at hand
abbrev pub branch_of : Search → Branch
branch_of s = record { log = s.log; sides = s.sides; splits = s.splits; under = s.under }

-- what was decided on the way to the branch at hand
abbrev pub decided_on : Base → Search → List Formula
decided_on base s = path_formulas (formulas_of base s.log) s.splits s.under

-- ---- before

-- a front of the background is asserted, and nothing else
pub record IsReady (base : Base) (s : Search) : Type 0 where
  pub log : s.log ≡ take (length s.log) (first_facts base)
  pub without_goal : length s.log ≤ length base.background
  pub formulas : logged s.branch ≡ formulas_of base s.log
  -- each fact of it is live, and was added at the root
  pub live : s.branch.book.live ≡ range_with_len 0 (length s.log)
  pub sides : s.sides ≡ map (λ fact. None) s.log
  pub splits : s.splits ≡ []
  pub under : s.under ≡ None
  pub branch : IsBranch s.branch
  pub given : IsGiven s.branch
  pub sound : (M : Model) → AllTrue (read_in M) (live_on s.branch) → IsSoundIn M s.branch
  pub limit : s.branch.sharing.theory.limit ≡ s.limits.pivots

-- what is ready for one base is ready for each other one whose background has the same front
abbrev pub ReadyIsAlike : Type 0
ReadyIsAlike = (base other : Base) (s : Search)
    → take (length s.log) other.background ≡ take (length s.log) base.background
    → length s.log ≤ length other.background → IsReady base s → IsReady other s

-- ---- after

-- the log is legal, and its formulas are refuted
pub record IsRefutedLog (base : Base) (s : Search) : Type 0 where
  pub legal : IsLegal base s.log
  pub refuted : Refuted (formulas_of base s.log)

-- each literal follows from the live facts with what was decided on the way
abbrev pub LiteralsFollow : Base → Search → Type 0
LiteralsFollow base s =
    AllFollow (formulas_of base (live_facts s) ++ decided_on base s) (literals_on s.branch)

-- a round of the live facts and of the literals adds nothing
abbrev pub IsSaturatedHere : Base → Search → Type 0
IsSaturatedHere base s =
    IsSaturated base s.limits.depth (live_facts s) (literals_on s.branch)

-- rounds with these starts gave the facts
abbrev pub GaveRounds : Base → Search → List Fact → List Start → Type 0
GaveRounds base s facts = AreRounds base s.limits.depth facts (literals_on s.branch)

-- the branch at hand is left open: its live facts are within limits, rounds gave them, each is
-- covered, and no round adds any
pub record IsLeftOpen (base : Base) (s : Search) : Type 0 where
  pub branch : IsBranch s.branch
  pub done : IsDone s.branch
  pub within : IsWithinLimits base s.limits.depth s.limits.facts (live_facts s)
  pub left : IsLeft base s.branch.sharing (live_facts s) (literals_on s.branch)
  pub follow : LiteralsFollow base s
  pub saturated : IsSaturatedHere base s
  pub starts : List Start
  pub rounds : GaveRounds base s (live_facts s) starts

-- The cause tells of the branch at hand: how its arithmetic is stuck; what is to be split next,
-- where nothing is left to refine and no round adds facts; which facts are live before another
-- round; or that the fact comes next in a round.
abbrev pub IsStuckSo : Search → Stuck → Type 0
IsStuckSo s stuck = stuck ≡ stuck_with s.branch.sharing stuck.jam (literals_on s.branch)

abbrev pub TellsOf : Base → Search → Cause → Type 0
TellsOf base s (cause.Overflow branch stuck) = (branch ≡ branch_of s) × IsStuckSo s stuck
TellsOf base s (cause.Pivots branch stuck) = (branch ≡ branch_of s) × IsStuckSo s stuck
TellsOf base s (cause.Splits branch next) = (branch ≡ branch_of s) × IsBranch s.branch
    × IsQuiet s.branch × IsSaturatedHere base s
    × (starts : List Start) × GaveRounds base s (live_facts s) starts
    × (next_split (judge_on s.branch) s.branch.clauses ≡ Some next)
TellsOf base s (cause.Rounds branch made) = (branch ≡ branch_of s) × IsBranch s.branch
    × IsQuiet s.branch × (made.live ≡ live_facts s) × (made.literals ≡ literals_on s.branch)
TellsOf base s (cause.Facts branch next) = (branch ≡ branch_of s) × (rest : List Fact)
    × (starts : List Start) × GaveRounds base s (live_facts s ++ next ∷ rest) starts

pub record IsStopped (base : Base) (s : Search) (cause : Cause) : Type 0 where
  pub cause_is : IsCause base s.limits cause
  pub tells : TellsOf base s cause
  pub follow : LiteralsFollow base s

abbrev pub ComesTo : Base → Search → Outcome → Type 0
ComesTo base s outcome.Closed = IsRefutedLog base s
ComesTo base s outcome.Open = IsLeftOpen base s
ComesTo base s (outcome.Stopped cause) = IsStopped base s cause
ComesTo base s outcome.Memory = Unit {0}

-- ---- one more formula of the background

-- a cause of the arithmetic
abbrev pub IsOfArithmetic : Cause → Type 0
IsOfArithmetic (cause.Overflow branch stuck) = Unit {0}
IsOfArithmetic (cause.Pivots branch stuck) = Unit {0}
IsOfArithmetic (cause.Splits branch next) = ⊥
IsOfArithmetic (cause.Rounds branch made) = ⊥
IsOfArithmetic (cause.Facts branch next) = ⊥

-- Open where it is asserted too, Closed where the formulas so far are refuted
abbrev pub GivenEnds : Base → Search → Outcome → Type 0
GivenEnds base s outcome.Open = IsReady base s
GivenEnds base s outcome.Closed = Refuted (formulas_of base s.log)
GivenEnds base s (outcome.Stopped why) = IsStopped base s why × IsOfArithmetic why
GivenEnds base s outcome.Memory = Unit {0}

-- the fact that names it was logged, but where memory is wanting
abbrev pub LogsGiven : List Fact → List Fact → Outcome → Type 0
LogsGiven old new outcome.Memory = Unit {0}
LogsGiven old new _ = new ≡ old ++ Given (length old) ∷ []

-- ---- how many searches came to each answer

-- one more, at most the greatest
abbrev pub one_more : ℕ → ℕ
one_more n = min (n + 1) (2 ^ 64 - 1)

abbrev pub tallied : Tally → Outcome → Tally
tallied t outcome.Closed = record t { closed = one_more t.closed }
tallied t outcome.Open = record t { left_open = one_more t.left_open }
tallied t (outcome.Stopped why) = record t { stopped = one_more t.stopped }
tallied t outcome.Memory = t
