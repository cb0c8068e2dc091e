-- What holds of the facts of rounds.
use Rattle.std.specs.Prelude.{◌≢◌, ℕ, ◌≤◌, List, [], ◌∷◌, ◌++◌, length}
use Rattle.std.specs.List.{All, Contains}
use Rattle.esc_term.specs.declared.formula.Item.{Item}
use Rattle.esc_fact.specs.Depth.{deep}
use Rattle.esc_fact.specs.Legal.{IsLegal}
use Rattle.esc_fact.specs.declared.base.Base.{Base}
use Rattle.esc_fact.specs.declared.fact.Fact.{Fact}
use Rattle.esc_outcome.specs.Causes.{AllFollow, formulas_on}
use Rattle.esc_outcome.specs.GrownLaws.{IsMadeOn}
use Rattle.esc_outcome.specs.declared.branch.Branch.{Branch}
use Rattle.esc_verdict.specs.Rounds.{AreMatched, AreRounds, IsMatched, IsRoundOf, IsSaturated}
use Rattle.esc_verdict.specs.declared.cause.Start.{Start}

-- ---- behind the facts that it is of

-- the first facts of a round may follow the facts that it is of
abbrev pub RoundMayFollow : Type 0
RoundMayFollow = (base : Base) (depth : ℕ) (facts : List Fact) (items : List Item)
    (first rest : List Fact) → IsLegal base facts
    → IsRoundOf base depth facts items (first ++ rest) → IsLegal base (facts ++ first)

-- they lie within the limit there
abbrev pub RoundIsWithin : Type 0
RoundIsWithin = (base : Base) (depth : ℕ) (facts : List Fact) (items : List Item)
    (first rest : List Fact) → All (λ d. d.depth ≤ depth) (deep base facts)
    → IsRoundOf base depth facts items (first ++ rest)
    → All (λ d. d.depth ≤ depth) (deep base (facts ++ first))

-- where the round has no facts, nothing is due
abbrev pub EmptyRoundIsSaturated : Type 0
EmptyRoundIsSaturated = (base : Base) (depth : ℕ) (facts : List Fact) (items : List Item)
    → IsRoundOf base depth facts items [] → IsSaturated base depth facts items

-- ---- what makes them

-- each was matched by the facts that the round is of
abbrev pub RoundIsMatched : Type 0
RoundIsMatched = (base : Base) (depth : ℕ) (facts : List Fact) (items : List Item)
    (list : List Fact) → IsRoundOf base depth facts items list
    → All (IsMatched base facts items) list

-- what was matched by facts and literals was so by more of them
abbrev pub MatchedByMore : Type 0
MatchedByMore = (base : Base) (facts others : List Fact) (items more : List Item) (fact : Fact)
    → All (Contains others) facts → IsMatched base facts items fact
    → IsMatched base others (items ++ more) fact

-- one more fact that was matched
abbrev pub MatchedGrows : Type 0
MatchedGrows = (base : Base) (facts : List Fact) (items more : List Item) (fact : Fact)
    → AreMatched base facts items → IsMatched base facts items fact
    → AreMatched base (facts ++ fact ∷ []) (items ++ more)

-- what was matched by facts of the log is made on the branch, if the literals follow there
abbrev pub MatchedIsMade : Type 0
MatchedIsMade = (base : Base) (branch : Branch) (facts : List Fact) (items : List Item)
    (fact : Fact) → All (Contains branch.log) facts → AllFollow (formulas_on base branch) items
    → IsMatched base facts items fact → IsMadeOn base branch fact

-- ---- one round after another

-- literals behind the others change no round that was made
abbrev pub RoundsStay : Type 0
RoundsStay = (base : Base) (depth : ℕ) (facts : List Fact) (items more : List Item)
    (starts : List Start) → AreRounds base depth facts items starts
    → AreRounds base depth facts (items ++ more) starts

-- behind the rounds that were made comes that of their facts and of the literals
abbrev pub RoundsGrow : Type 0
RoundsGrow = (base : Base) (depth : ℕ) (facts list : List Fact) (items more : List Item)
    (starts : List Start) → AreRounds base depth facts items starts → list ≢ []
    → IsRoundOf base depth facts items list
    → AreRounds base depth (facts ++ list) (items ++ more)
    (starts ++ record { facts = length facts; literals = length items } ∷ [])

-- ---- a log

-- a fact that may follow some facts of a legal log, and is not in it, may come at its end
abbrev pub LogMayGrow : Type 0
LogMayGrow = (base : Base) (log facts : List Fact) (fact : Fact) → IsLegal base log
    → All (Contains log) facts → IsLegal base (facts ++ fact ∷ []) → (Contains log fact → ⊥)
    → IsLegal base (log ++ fact ∷ [])
