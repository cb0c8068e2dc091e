-- What holds of rounds.
use Rattle.std.specs.Prelude.{ℕ, ◌≤◌, List, ◌++◌, map}
use Rattle.std.specs.List.{All}
use Rattle.esc_term.specs.declared.formula.Formula.{Formula}
use Rattle.esc_term.specs.declared.formula.Item.{Item}
use Rattle.esc_egraph.specs.Graph.{IsGraph}
use Rattle.esc_fact.specs.Depth.{deep}
use Rattle.esc_fact.specs.Legal.{IsLegal}
use Rattle.esc_fact.specs.declared.base.Base.{Base}
use Rattle.esc_fact.specs.declared.fact.Fact.{Fact}
use Rattle.esc_rounds.specs.Branch.{IsStanding}
use Rattle.esc_rounds.specs.Due.{IsRound}
use Rattle.esc_rounds.specs.Facts.{fact_of}
use Rattle.esc_rounds.specs.Makers.{AreMet, ClassesFollow, makers_of}
use Rattle.esc_rounds.specs.Standing.{IsReady, Standing}
use Rattle.esc_rounds.specs.declared.draw.Draw.{Draw}

-- the first facts of a round lie within the limit behind the live ones, if these do
abbrev pub RoundsAreShallow : Type 0
RoundsAreShallow =
    (base : Base) (facts : List Fact) (items : List Item) (s : Standing) (live : List Draw)
    (limit : ℕ) (first rest : List Draw) → IsStanding base facts items s live → IsReady s live
    → IsRound s live limit (first ++ rest) → All (λ d. d.depth ≤ limit) (deep base facts)
    → All (λ d. d.depth ≤ limit) (deep base (facts ++ map (fact_of s.graph s.formulas) first))

-- the facts of a round may follow the live ones, in their order
abbrev pub RoundsAreLegal : Type 0
RoundsAreLegal =
    (base : Base) (facts : List Fact) (items : List Item) (s : Standing) (live : List Draw)
    (limit : ℕ) (list : List Draw) → IsLegal base facts → IsStanding base facts items s live
    → IsReady s live → IsRound s live limit list
    → IsLegal base (facts ++ map (fact_of s.graph s.formulas) list)

-- what makes the facts of a round is met
abbrev pub RoundsAreMet : Type 0
RoundsAreMet =
    (s : Standing) (live : List Draw) (limit : ℕ) (list : List Draw) (known : List Formula)
    → IsGraph s.graph → IsReady s live → IsRound s live limit list → ClassesFollow s.graph known
    → All (λ d. AreMet s.graph known (makers_of s.graph s.formulas d)) list
