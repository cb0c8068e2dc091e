-- What a survey rests on, and what it has found so far.
use Rattle.std.specs.Prelude.{◌≡◌, ℕ, ◌<◌, Some, List, length}
use Rattle.std.specs.Prelude.{slice_get}
use Rattle.std.specs.List.{All, AllZip, filter_map}
use Rattle.esc_term.specs.declared.formula.Formula.{Formula}
use Rattle.esc_cover.specs.Classes.{active_terms}
use Rattle.esc_nodes.specs.Terms.{terms_of}
use Rattle.esc_egraph.specs.Graph.{Graph, IsGraph}
use Rattle.esc_fact.specs.Fact.{formula_of, formulas_of}
use Rattle.esc_fact.specs.Legal.{IsClosedBase, IsLegal}
use Rattle.esc_fact.specs.declared.base.Base.{Base}
use Rattle.esc_fact.specs.declared.fact.Fact.{Fact}
use Rattle.esc_rounds.specs.Standing.{IsDrawable}
use Rattle.esc_standing.specs.DepthsInside.{IsShallow}
use Rattle.esc_standing.specs.Formulas.{AreBeside}
use Rattle.esc_standing.specs.Surveyed.{AreDepths, AreDrawn, AreKept}
use Rattle.esc_standing.specs.declared.survey.Found.{Found}

-- the facts at these places of a log
abbrev pub facts_at : List Fact → List ℕ → List Fact
facts_at log places = filter_map (slice_get log) places

-- the facts at the live places are legal, and their terms are those of the nodes
pub record AreLive (base : Base) (g : Graph) (log : List Fact) (formulas : List Formula)
    (live : List ℕ) : Type 0 where
  pub closed : IsClosedBase base
  pub formulas_are : AllZip (λ fact f. formula_of base fact ≡ Some f) log formulas
  pub places : All (λ k. k < length log) live
  pub legal : IsLegal base (facts_at log live)
  pub graph : IsGraph g
  pub nodes : terms_of g.nodes ≡ active_terms (formulas_of base (facts_at log live))

-- what was found in these facts
pub record IsFound (base : Base) (g : Graph) (facts : List Fact) (unset : ℕ) (found : Found)
    : Type 0 where
  pub depths : AreDepths base g.nodes facts unset found.depths
  pub kept : AreKept base facts found.formulas.kept
  pub beside : AreBeside base found.formulas.kept found.formulas.closed
  pub drawn : AreDrawn base g found.formulas.kept facts found.live
  pub drawable : All (IsDrawable g found.formulas.kept) found.live
  pub shallow : IsShallow base facts
