-- What the terms of a formula change when they come in play.
use Rattle.std.specs.Prelude.{◌≡◌, List, [], ◌∷◌, ◌++◌, Result, Ok, Err}
use Rattle.std.specs.List.{Contains, flat_map}
use Rattle.esc_term.specs.declared.formula.Formula.{Formula}
use Rattle.esc_term.specs.declared.formula.Item.{Item}
use Rattle.esc_cover.specs.Arithmetic.{play_of}
use Rattle.esc_cover.specs.Assignment.{asked}
use Rattle.esc_cover.specs.Counterexample.{AreLiteralsOf}
use Rattle.esc_nodes.specs.Nodes.{Shape}
use Rattle.esc_egraph.specs.declared.state.State.{State}
use Rattle.esc_egraph.specs.declared.state.State.TheVariants.{Open, Closed}
use Rattle.esc_simplex.specs.declared.simplex.Simplex.{Simplex}
use Rattle.esc_simplex.specs.declared.stop.Stop.{Stop}
use Rattle.esc_simplex.specs.declared.stop.Stop.TheVariants as stop
use Rattle.esc_sharing.specs.Calls.{TellsMore}
use Rattle.esc_sharing.specs.Shared.{HaveNoModel, IsShared, IsUnderway, Shared, items_in}
use Rattle.esc_sharing.specs.Shared.{literals_in, play_in}
use Rattle.esc_sharing.specs.Unquantified.{IsSamePlay}
use Rattle.esc_sharing.specs.declared.sharing.Sharing.{Sharing}
use Rattle.esc_outcome.specs.JamLaws.{IsGivenBy, shared_in}
use Rattle.esc_outcome.specs.Stopping.{IsStopped}

-- nodes came behind the others, and pairs were told; literals are as they were
pub record Comes (v w : Shared) : Type 0 where
  pub asserted : w.asserted ≡ v.asserted
  pub groups : w.groups ≡ v.groups
  pub items : items_in w ≡ items_in v
  pub literals : literals_in w ≡ literals_in v
  pub told : TellsMore v.told w.told
  pub nodes : (more : List Shape) × (w.graph.nodes ≡ v.graph.nodes ++ more)

-- what was in play for formulas is so for these and the new one
abbrev pub PlaysMore : Shared → Shared → Formula → Type 0
PlaysMore v w f = (formulas : List Formula) → IsSamePlay (play_in v) (play_of formulas)
    → IsSamePlay (play_in w) (play_of (formulas ++ f ∷ []))

-- Open where the terms are in play, those that become arithmetic are so and all promises hold, and
-- Closed where no model makes all literals hold
abbrev pub PlayEnds : Shared → Shared → Formula → Result State Stop → Type 0
PlayEnds v w f (Ok Open) = Comes v w × IsShared w × PlaysMore v w f
PlayEnds v w f (Ok Closed) = Comes v w × HaveNoModel (literals_in w)
PlayEnds v w f (Err stop.Memory) = Unit {0}
PlayEnds v w f (Err _) = Comes v w × IsUnderway w

-- formulas with this one that gave the arithmetic its terms before give them after
abbrev pub GivesMore : Simplex → Simplex → Formula → Type 0
GivesMore v w f = (formulas : List Formula) → Contains formulas f → IsGivenBy formulas v
    → IsGivenBy formulas w

-- more came behind the others
abbrev pub HasMore : {X : Type 0} → List X → List X → Type 0
HasMore {X = X} old new = (more : List X) × (new ≡ old ++ more)

-- ---- when it stops

-- the literals ask for the same gaps as those that were asserted
abbrev pub AsksAsMuch : List Item → Shared → Type 0
AsksAsMuch literals v = flat_map asked literals ≡ flat_map asked (items_in v)

-- what is known of the stop, by any formulas with this one that gave the arithmetic its terms, and
-- by any of their literals that ask for as much as those that were asserted
abbrev pub StopsPlay : Sharing Simplex → Sharing Simplex → Formula → Stop → Type 0
StopsPlay s t f why = (formulas : List Formula) (literals : List Item) → Contains formulas f
    → IsGivenBy formulas s.theory → AreLiteralsOf formulas literals
    → AsksAsMuch literals (shared_in s) → IsStopped formulas t literals why
