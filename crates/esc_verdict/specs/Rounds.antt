-- Which facts the rounds of a branch gave, and what makes them.
use Rattle.std.specs.Prelude.{◌≡◌, ◌≢◌, ◌≤◌, ℕ, Any, List, [], ◌∷◌, ◌++◌, length, map, take}
use Rattle.std.specs.List.{All, Contains}
use Rattle.esc_term.specs.declared.formula.Formula.{Formula}
use Rattle.esc_term.specs.declared.formula.Formula.TheVariants.{Eq}
use Rattle.esc_term.specs.declared.formula.Item.{Item}
use Rattle.esc_term.specs.declared.term.Term.{Term}
use Rattle.esc_term.specs.Refuted.{Follows}
use Rattle.esc_cover.specs.Arithmetic.{play_of}
use Rattle.esc_cover.specs.Classes.{active_terms}
use Rattle.esc_cover.specs.Counterexample.{AreLiteralsOf}
use Rattle.esc_cover.specs.Least.{IsLeast}
use Rattle.esc_fact.specs.Fact.{formulas_of}
use Rattle.esc_fact.specs.Legal.{first_facts}
use Rattle.esc_fact.specs.declared.base.Base.{Base}
use Rattle.esc_fact.specs.declared.fact.Fact.{Fact}
use Rattle.esc_node_terms.specs.Nodes.{classes_in}
use Rattle.esc_outcome.specs.Causes.{stated}
use Rattle.esc_outcome.specs.Grown.{makers_of}
use Rattle.esc_rounds.specs.Branch.{IsStanding}
use Rattle.esc_rounds.specs.Due.{IsRound, Saturated}
use Rattle.esc_rounds.specs.Facts.{fact_of}
use Rattle.esc_rounds.specs.Standing.{IsReady, Standing}
use Rattle.esc_rounds.specs.declared.draw.Draw.{Draw}
use Rattle.esc_verdict.specs.declared.cause.Start.{Start}

-- ---- rounds

-- The facts and the literals stand so: the literals are those of the facts, the classes are the
-- finest that these literals ask for, and the draws are those of the facts.
pub record StandsSo (base : Base) (facts : List Fact) (items : List Item) (s : Standing)
    (live : List Draw) : Type 0 where
  pub standing : IsStanding base facts items s live
  pub ready : IsReady s live
  pub literals_are : AreLiteralsOf (formulas_of base facts) items
  pub least : IsLeast items (play_of (formulas_of base facts)) (classes_in s.graph)

-- the list is that of the round of these facts and literals, within the limit of depth
pub record IsRoundOf (base : Base) (depth : ℕ) (facts : List Fact) (items : List Item)
    (list : List Fact) : Type 0 where
  pub s : Standing
  pub live : List Draw
  pub stands : StandsSo base facts items s live
  pub drawn : List Draw
  pub round : IsRound s live depth drawn
  pub facts_are : list ≡ map (fact_of s.graph s.formulas) drawn

-- nothing is due where these facts and literals stand: a round adds none
pub record IsSaturated (base : Base) (depth : ℕ) (facts : List Fact) (items : List Item) :
    Type 0 where
  pub s : Standing
  pub live : List Draw
  pub stands : StandsSo base facts items s live
  pub saturated : Saturated s live depth

-- Behind these facts stand, for each start, those that the round of the facts before them and of
-- the first literals gave, and no round gave none.
abbrev pub AreRoundsBehind : Base → ℕ → List Fact → List Item → List Fact → List Start → Type 0
AreRoundsBehind base depth facts items before [] = facts ≡ before
AreRoundsBehind base depth facts items before (start ∷ starts) =
    (start.facts ≡ length before) × (start.literals ≤ length items)
    × (list : List Fact) × (list ≢ [])
    × IsRoundOf base depth before (take start.literals items) list
    × AreRoundsBehind base depth facts items (before ++ list) starts

-- the facts are the first ones, and those that rounds with these starts gave
abbrev pub AreRounds : Base → ℕ → List Fact → List Item → List Start → Type 0
AreRounds base depth facts items = AreRoundsBehind base depth facts items (first_facts base)

-- ---- what makes facts

-- by the literals, the term equals one of these
abbrev pub IsMetAmong : List Term → List Formula → Term → Type 0
IsMetAmong terms known t = (u : Term) × Contains terms u × Follows known (Eq t u)

-- by the literals, each term of one of the lists that can make the fact equals one in play
abbrev pub IsMatched : Base → List Fact → List Item → Fact → Type 0
IsMatched base before items fact =
    Any (All (IsMetAmong (active_terms (formulas_of base before)) (map stated items)))
    (makers_of base fact)

-- each fact was matched by terms of earlier ones
abbrev pub AreMatched : Base → List Fact → List Item → Type 0
AreMatched base facts items =
    (before after : List Fact) (fact : Fact) → facts ≡ before ++ fact ∷ after
    → IsMatched base before items fact
