-- What the calls of a sharing leave and answer.
use Rattle.std.specs.Prelude.{◌≡◌, ℕ, ◌<◌, Bool, if◌then◌else◌, List, [], ◌∷◌, ◌++◌}
use Rattle.std.specs.Prelude.{length, map, Result, Ok, Err}
use Rattle.std.specs.List.{All, Contains, filter, fold}
use Rattle.esc_term.specs.declared.term.Term.{Term}
use Rattle.esc_term.specs.Term.{subterms, with_once}
use Rattle.esc_cover.specs.Arithmetic.{is_number, operands}
use Rattle.esc_nodes.specs.Nodes.{Shape}
use Rattle.esc_egraph.specs.Graph.{Graph}
use Rattle.esc_egraph.specs.declared.state.State.{State}
use Rattle.esc_egraph.specs.declared.state.State.TheVariants.{Open, Closed}
use Rattle.esc_simplex.specs.Senses.{Sense}
use Rattle.esc_simplex.specs.declared.stop.Stop.{Stop}
use Rattle.esc_simplex.specs.declared.stop.Stop.TheVariants as stop
use Rattle.esc_sharing.specs.Nodes.{node_count, node_term, terms_in}
use Rattle.esc_sharing.specs.Numbers.{AddsMade, number_terms}
use Rattle.esc_sharing.specs.Shared.{HaveNoModel, IsShared, IsUnderway, Shared, literals_in}
use Rattle.esc_sharing.specs.declared.literal.Lit.{Lit}
use Rattle.esc_sharing.specs.declared.sharing.Sharing.{Sharing}

-- pairs were told behind the others
abbrev pub TellsMore : List (ℕ × ℕ) → List (ℕ × ℕ) → Type 0
TellsMore old new = (pairs : List (ℕ × ℕ)) × (new ≡ old ++ pairs)

-- these literals and groups came behind the others, and the terms are those that were in play
pub record Adds (v w : Shared) (lits : List Lit) (more : List (List ℕ)) : Type 0 where
  pub asserted : w.asserted ≡ v.asserted ++ lits
  pub groups : w.groups ≡ v.groups ++ more
  pub told : TellsMore v.told w.told
  pub terms : terms_in w.graph ≡ terms_in v.graph

-- a call was given up with the literals and groups, and the last literal and the last pair may be
-- underway
abbrev pub GivesUp : Shared → Shared → List Lit → List (List ℕ) → Type 0
GivesUp v w lits more = Adds v w lits more × IsUnderway w

-- Open where all promises hold with them, and Closed where no model makes all literals hold
abbrev pub AssertEnds : Shared → Shared → List Lit → List (List ℕ) → Result State Stop → Type 0
AssertEnds v w lits more (Ok Open) = Adds v w lits more × IsShared w
AssertEnds v w lits more (Ok Closed) = Adds v w lits more × HaveNoModel (literals_in w)
AssertEnds v w lits more (Err stop.Memory) = Unit {0}
AssertEnds v w lits more (Err _) = GivesUp v w lits more

-- ---- adding a term

-- the numerals, sums, differences and products of a term, what these are made of, and the term
-- itself where it is a side
abbrev pub becoming : Term → Bool → List Term
becoming t side = filter is_number (subterms t)
    ++ (operands (subterms t) ++ (if side then t ∷ [] else []))

-- the subterms came behind the terms in play, each once, and no literal and no group came
pub record PutsInPlay (v w : Shared) (t : Term) : Type 0 where
  pub terms : terms_in w.graph ≡ fold with_once (terms_in v.graph) (subterms t)
  pub nodes : (more : List Shape) × (w.graph.nodes ≡ v.graph.nodes ++ more)
  pub asserted : w.asserted ≡ v.asserted
  pub groups : w.groups ≡ v.groups
  pub literals : literals_in w ≡ literals_in v
  pub told : TellsMore v.told w.told

-- the node is there, and is that of the term
pub record IsNodeOf (g : Graph) (t : Term) (node : ℕ) : Type 0 where
  pub there : node < node_count g
  pub is : node_term g node ≡ t

-- arithmetic nodes came behind the others, for some of these terms
pub record AddsNumbers (old new : List (ℕ × Term)) (terms : List Term) : Type 0 where
  pub more : List (ℕ × Term)
  pub numbers : new ≡ old ++ more
  pub among : All (Contains terms) (number_terms more)

-- each of these terms is arithmetic
abbrev pub AllAreNumbers : List (ℕ × Term) → List Term → Type 0
AllAreNumbers numbers terms = All (Contains (number_terms numbers)) terms

-- Open where the terms that become arithmetic are so and all promises hold, and Closed where no
-- model makes all literals hold
abbrev pub AddEnds : Shared → Shared → Term → Bool → Result (ℕ × State) Stop → Type 0
AddEnds v w t side (Ok (node, Open)) = PutsInPlay v w t × IsNodeOf w.graph t node
    × AllAreNumbers w.numbers (becoming t side) × IsShared w
AddEnds v w t side (Ok (node, Closed)) = PutsInPlay v w t × IsNodeOf w.graph t node
    × HaveNoModel (literals_in w)
AddEnds v w t side (Err stop.Memory) = Unit {0}
AddEnds v w t side (Err _) = PutsInPlay v w t × IsUnderway w

-- ---- nodes that become arithmetic

-- the terms of nodes
abbrev pub terms_at : Graph → List ℕ → List Term
terms_at g nodes = map (node_term g) nodes

-- each has one of these terms, and each of these terms is that of one of them
pub record AreNodesFor (g : Graph) (nodes : List ℕ) (terms : List Term) : Type 0 where
  pub there : All (λ a. a < length g.nodes) nodes
  pub among : All (Contains terms) (terms_at g nodes)
  pub each : All (Contains (terms_at g nodes)) terms

-- nodes for these terms came behind the others
pub record GathersFor (g : Graph) (old new : List ℕ) (terms : List Term) : Type 0 where
  pub more : List ℕ
  pub gathered : new ≡ old ++ more
  pub are : AreNodesFor g more terms

-- terms became arithmetic, and pairs were told; nodes, literals and groups are as they were
pub record KeepsTerms {T : Type 0} (is_sound : T → Type 0) (made_of : T → List Sense)
    (terms : List Term) (v w : Sharing T) : Type 0 where
  pub sound : is_sound w.theory
  pub made : AddsMade (made_of v.theory) (made_of w.theory) terms
  pub asserted : w.asserted ≡ v.asserted
  pub groups : w.groups ≡ v.groups
  pub told : TellsMore v.told w.told
  pub nodes : w.graph.nodes ≡ v.graph.nodes

-- Open where this is done, and Closed where no model makes all literals hold
abbrev pub StepEnds : Shared → Type 0 → Result State Stop → Type 0
StepEnds w Done (Ok Open) = Done
StepEnds w Done (Ok Closed) = HaveNoModel (literals_in w)
StepEnds w Done (Err stop.Memory) = Unit {0}
StepEnds w Done (Err _) = IsUnderway w
