-- How a search stands between any two steps.
use Rattle.std.specs.Prelude.{◌≡◌, ◌≢◌, ◌<◌, ◌≤◌, ◌+◌, ◌-◌, ◌*◌, ℕ, Bool, true, false, List, []}
use Rattle.std.specs.Prelude.{◌∷◌, ◌++◌, Some, None, Result, Ok, Err, drop, length, map}
use Rattle.std.specs.Prelude.{slice_get, take}
use Rattle.std.specs.List.{All, AllPairs, Contains, filter_map, range_with_len}
use Rattle.esc_term.specs.declared.formula.Formula.{Formula}
use Rattle.esc_term.specs.Model.{Model, read_in}
use Rattle.esc_term.specs.Refuted.{AllTrue, Refuted}
use Rattle.esc_cover.specs.Laws.{HoldsIn}
use Rattle.esc_clause.specs.declared.decision.Decision.{Decision}
use Rattle.esc_clause.specs.declared.occurrence.Occurrence.{Occurrence}
use Rattle.esc_trail.specs.Undo.{CanRewind, rewind}
use Rattle.esc_egraph.specs.declared.state.State.{State}
use Rattle.esc_egraph.specs.declared.state.State.TheVariants as state
use Rattle.esc_simplex.specs.declared.stop.Stop.{Stop}
use Rattle.esc_simplex.specs.declared.stop.Stop.TheVariants as stop
use Rattle.esc_fact.specs.Fact.{formulas_of}
use Rattle.esc_fact.specs.Depth.{deep}
use Rattle.esc_fact.specs.Legal.{IsClosedBase, IsLegal, first_facts, made_facts}
use Rattle.esc_fact.specs.declared.base.Base.{Base}
use Rattle.esc_fact.specs.declared.fact.Fact.{Fact}
use Rattle.esc_book.specs.Book.{IsLiveOccurrence}
use Rattle.esc_live.specs.Calls.{HoldsWithDecision, IsStoppedAt}
use Rattle.esc_live.specs.LiveUndo.{AreSame, live_undo}
use Rattle.esc_live.specs.Promises.{IsBranch, IsGiven, IsSoundIn, IsUndecided}
use Rattle.esc_live.specs.View.{literals_on, live_on, logged}
use Rattle.esc_live.specs.declared.branch.LiveBranch.{LiveBranch}
use Rattle.esc_outcome.specs.Grown.{Grown, IsDoneIn}
use Rattle.esc_outcome.specs.Tree.{IsFree, IsRefutedAt, Side, path_formulas, path_of}
use Rattle.esc_outcome.specs.declared.branch.Split.{Split}
use Rattle.esc_play.specs.Play.{HasMore}
use Rattle.esc_verdict.specs.Rounds.{AreMatched, AreRounds}
use Rattle.esc_verdict.specs.declared.cause.Start.{Start}
use Rattle.esc_search.specs.Levels.{GoesBackTo}
use Rattle.esc_search.specs.Proving.{ComesTo, IsOfArithmetic, branch_of, decided_on}
use Rattle.esc_search.specs.Proving.{live_facts}
use Rattle.esc_search.specs.declared.course.Course.{Course}
use Rattle.esc_search.specs.declared.open_split.OpenSplit.{OpenSplit}
use Rattle.esc_search.specs.declared.outcome.Outcome.{Outcome}
use Rattle.esc_search.specs.declared.outcome.Outcome.TheVariants as outcome
use Rattle.esc_search.specs.declared.search.Search.{Search}
use Rattle.esc_search.specs.declared.step.Step.{Step}
use Rattle.esc_search.specs.declared.step.Step.TheVariants as step

-- ---- what holds always

-- each open split was made behind where the search is to go back to
abbrev pub IsBehind : Search → List OpenSplit → Type 0
IsBehind t waiting = All (λ o. length t.trail.records ≤ o.mark) waiting

-- the formulas of the branch are those of the log, its arithmetic is given by them, limits and
-- tally are as they were, and what the search could go back to, before all open splits, it still
-- can
pub record IsKept (base : Base) (old : Search) (before : List OpenSplit) (new : Search)
    (after : List OpenSplit) : Type 0 where
  pub given : IsGiven new.branch
  pub formulas : logged new.branch ≡ formulas_of base new.log
  pub limits : new.limits ≡ old.limits
  pub tally : new.tally ≡ old.tally
  pub levels : (t : Search) → IsBehind t before → GoesBackTo old t
      → GoesBackTo new t × IsBehind t after

-- the formulas of the live facts with what was decided on the way
abbrev pub said_on : Base → Search → List Formula
said_on base s = formulas_of base (live_facts s) ++ decided_on base s

-- ---- where the arithmetic stopped

pub record IsHalted (base : Base) (s : Search) (why : Stop) : Type 0 where
  pub grown : Grown base s.limits.depth (branch_of s)
  pub formulas : logged s.branch ≡ formulas_of base s.log
  pub limit : s.branch.sharing.theory.limit ≡ s.limits.pivots
  pub stopped : IsStoppedAt s.branch why
  pub follow : (M : Model) → AllTrue (read_in M) (said_on base s)
      → All (HoldsIn M) (literals_on s.branch)

abbrev pub HaltsUnlessMemory : Base → Search → Stop → Type 0
HaltsUnlessMemory base s stop.Memory = Unit {0}
HaltsUnlessMemory base s why = IsHalted base s why

-- want of memory, or a cause of the arithmetic
abbrev pub IsArithmeticStop : Outcome → Type 0
IsArithmeticStop outcome.Closed = ⊥
IsArithmeticStop outcome.Open = ⊥
IsArithmeticStop (outcome.Stopped why) = IsOfArithmetic why
IsArithmeticStop outcome.Memory = Unit {0}

-- ---- at the beginning

-- a front of the facts that name a formula of the base is logged, and a front of these is live
pub record IsBegun (base : Base) (s : Search) : Type 0 where
  pub log : s.log ≡ take (length s.log) (first_facts base)
  pub formulas : logged s.branch ≡ formulas_of base s.log
  pub live : s.branch.book.live ≡ range_with_len 0 (length s.branch.book.live)
  pub few : length s.branch.book.live ≤ length s.log
  pub sides : s.sides ≡ map (λ fact. None) s.log
  pub splits : s.splits ≡ []
  pub under : s.under ≡ None
  pub branch : IsBranch s.branch
  pub given : IsGiven s.branch
  pub sound : (M : Model) → AllTrue (read_in M) (live_on s.branch) → IsSoundIn M s.branch
  pub limit : s.branch.sharing.theory.limit ≡ s.limits.pivots

-- all of them are logged
abbrev pub IsLogged : Base → Search → Type 0
IsLogged base s = IsBegun base s × (s.log ≡ first_facts base)

-- the next formula of the background is logged, and all others of the log are live
pub record IsLoggedNext (base : Base) (s : Search) : Type 0 where
  pub begun : IsBegun base s
  pub last : length s.log ≡ length s.branch.book.live + 1
  pub without_goal : length s.log ≤ length base.background

-- at Open the next fact is live, and at Closed the log is refuted
abbrev pub GoesLive : Base → Search → Result State Stop → Type 0
GoesLive base s (Ok state.Open) = IsBegun base s
GoesLive base s (Ok state.Closed) = Refuted (formulas_of base s.log)
GoesLive base s (Err why) = HaltsUnlessMemory base s why

-- at Open facts are asserted; at Closed the log is refuted
abbrev pub Begins : Base → Search → Result State Stop → Type 0
Begins base s (Ok state.Open) = IsLogged base s
Begins base s (Ok state.Closed) = (s.log ≡ first_facts base) × Refuted (formulas_of base s.log)
Begins base s (Err why) = HaltsUnlessMemory base s why

-- ---- open splits

-- what was decided on the way to the side is among the decisions
abbrev pub WasDecided : List Split → Side → List Decision → Type 0
WasDecided splits side decisions = All (Contains decisions) (path_of splits side)

-- the facts of the log that are live on the branch
abbrev pub facts_on : List Fact → LiveBranch → List Fact
facts_on log v = filter_map (slice_get log) v.book.live

-- the live facts of the branch with what was decided on the way to the side
abbrev pub said_under : List Formula → LiveBranch → List Split → Side → List Formula
said_under fs v splits side = live_on v ++ path_formulas fs splits side

-- the live facts, with those that are still to come of a round, are a legal list within the limit
-- of depth, and rounds that began so gave them, each matched by those before it
pub record AreGathered (base : Base) (depth : ℕ) (log : List Fact) (v : LiveBranch)
    (starts : List Start) (coming : List Fact) : Type 0 where
  pub places : All (λ k. k < length log) v.book.live
  pub begins : HasMore (first_facts base) (facts_on log v)
  pub legal : IsLegal base (facts_on log v ++ coming)
  pub shallow : All (λ d. d.depth ≤ depth) (deep base (facts_on log v ++ coming))
  pub rounds : AreRounds base depth (facts_on log v ++ coming) (literals_on v) starts
  pub matched : AreMatched base (facts_on log v ++ coming) (literals_on v)

-- how the branch was where it was split, with a log of which this one has more
pub record WasSplit (base : Base) (depth : ℕ) (log : List Fact) (splits : List Split)
    (starts : List Start) (split : Split) (w : LiveBranch) : Type 0 where
  pub branch : IsBranch w
  pub formulas : HasMore (logged w) (formulas_of base log)
  pub gathered : AreGathered base depth log w starts []
  pub sound : (M : Model)
      → AllTrue (read_in M) (said_under (formulas_of base log) w splits split.under)
      → IsSoundIn M w
  pub decided : WasDecided splits split.under w.clauses.decisions
  pub occurs : IsLiveOccurrence w.book split.at
  pub undecided : IsUndecided w split.at

-- the branch can go back to where it was split
pub record IsWaiting (base : Base) (s : Search) (starts : List Start) (o : OpenSplit) : Type 0 where
  pub there : slice_get s.splits o.number ≡ Some o.split
  pub free : IsFree s.splits (Some (o.number, false))
  pub elsewhere : s.under ≢ Some (o.number, false)
  pub within : o.mark ≤ length s.trail.records
  pub undoable : CanRewind live_undo s.branch (drop o.mark s.trail.records)
  pub begun : o.rounds ≤ length starts
  pub before : LiveBranch
  pub same : AreSame (rewind live_undo s.branch (drop o.mark s.trail.records)) before
  pub split : WasSplit base s.limits.depth s.log s.splits (take o.rounds starts) o.split before

pub record IsOlder (a b : OpenSplit) : Type 0 where
  pub mark : a.mark ≤ b.mark
  pub number : a.number < b.number
  pub rounds : a.rounds ≤ b.rounds

-- where the branch is done, so is the first side of the newest open split, or the root; and where
-- an open split stands is done only with the first side of the split before it, or the root
abbrev pub Climbs : (Side → Type 0) → Side → List OpenSplit → Side → Type 0
Climbs done target [] under = done under → done target
Climbs done target (o ∷ os) under =
    (done o.split.under → done target) × Climbs done (Some (o.number, true)) os under

-- whatever else is logged
abbrev pub ClimbsOn : List Formula → List Split → List OpenSplit → Side → Type 0
ClimbsOn fs splits waiting under =
    (more : List Formula) → Climbs (IsRefutedAt (fs ++ more) splits) None waiting under

-- ---- the whole

pub record IsSearch (base : Base) (s : Search) (course : Course) : Type 0 where
  pub closed : IsClosedBase base
  pub legal : IsLegal base s.log
  pub few_facts : length (made_facts s.log) ≤ s.limits.facts
  pub formulas : logged s.branch ≡ formulas_of base s.log
  pub grown : Grown base s.limits.depth (branch_of s)
  pub given : IsGiven s.branch
  pub limit : s.branch.sharing.theory.limit ≡ s.limits.pivots
  pub few : length s.splits ≤ s.limits.splits
  pub few_rounds : length course.starts ≤ s.limits.rounds
  pub free : IsFree s.splits s.under
  pub waits : All (IsWaiting base s course.starts) course.waiting
  pub older : AllPairs IsOlder course.waiting
  pub climbs : ClimbsOn (formulas_of base s.log) s.splits course.waiting s.under

-- the branch at hand is open, and these facts are still to come of its last round
pub record IsOpenHere (base : Base) (s : Search) (starts : List Start) (coming : List Fact) :
    Type 0 where
  pub branch : IsBranch s.branch
  pub gathered : AreGathered base s.limits.depth s.log s.branch starts coming
  pub sound : (M : Model)
      → AllTrue (read_in M) (said_under (formulas_of base s.log) s.branch s.splits s.under)
      → IsSoundIn M s.branch
  pub decided : WasDecided s.splits s.under s.branch.clauses.decisions

-- the branch at hand is open, or refuted
abbrev pub IsHere : Base → Search → List Start → List Fact → State → Type 0
IsHere base s starts coming state.Open = IsOpenHere base s starts coming
IsHere base s starts coming state.Closed = IsDoneIn base (branch_of s) s.under

-- where these facts are still to come
abbrev pub IsAmid : Base → Search → Course → List Fact → State → Type 0
IsAmid base s course coming state =
    IsSearch base s course × IsHere base s course.starts coming state

abbrev pub IsAt : Base → Search → Course → State → Type 0
IsAt base s course = IsAmid base s course []

abbrev pub Reaches : Base → Search → Course → List Fact → Result State Stop → Type 0
Reaches base s course coming (Ok state) = IsAmid base s course coming state
Reaches base s course coming (Err why) = HaltsUnlessMemory base s why

-- the occurrence is to be decided so where the search is
pub record IsToDecide (base : Base) (s : Search) (starts : List Start) (at : Occurrence)
    (holds : Bool) : Type 0 where
  pub branch : IsBranch s.branch
  pub gathered : AreGathered base s.limits.depth s.log s.branch starts []
  pub occurs : IsLiveOccurrence s.branch.book at
  pub undecided : IsUndecided s.branch at
  pub so : (M : Model)
      → AllTrue (read_in M) (said_under (formulas_of base s.log) s.branch s.splits s.under)
      → HoldsWithDecision s.branch (record { at = at; holds = holds }) M
  pub decided : WasDecided s.splits s.under
      (s.branch.clauses.decisions ++ record { at = at; holds = holds } ∷ [])

-- ---- steps

-- twice the splits that may still come, and the open ones
abbrev pub sides_left : Search → Course → ℕ
sides_left s course = 2 * (s.limits.splits - length s.splits) + length course.waiting

-- for each of these as many rounds as may be, and those that may still come on the branch
abbrev pub steps_left : Search → Course → ℕ
steps_left s course =
    sides_left s course * (s.limits.rounds + 1) + (s.limits.rounds - length course.starts)

-- where these facts are still to come
abbrev pub StepsAmid : Base → Search → Course → List Fact → Step → Type 0
StepsAmid base s course coming (step.Goes state) = IsAmid base s course coming state
StepsAmid base s course coming (step.Ends outcome) = ComesTo base s outcome

abbrev pub StepsTo : Base → Search → Course → Step → Type 0
StepsTo base s course = StepsAmid base s course []

-- where the search goes on, fewer steps are left than this
abbrev pub IsNearer : ℕ → ℕ → Step → Type 0
IsNearer before after (step.Goes state) = after < before
IsNearer before after (step.Ends outcome) = Unit {0}
