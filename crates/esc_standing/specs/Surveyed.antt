-- What a survey of facts has found.
use Rattle.std.specs.Prelude.{◌≡◌, ◌≢◌, ℕ, ◌<◌, Any, IsTrue, List, [], Some, length}
use Rattle.std.specs.Prelude.{slice_index}
use Rattle.std.specs.List.{All, AllPairs, AllZip}
use Rattle.esc_term.specs.declared.formula.Formula.{Formula}
use Rattle.esc_term.specs.declared.formula.Formula.TheViews.{out-Formula}
use Rattle.esc_nodes.specs.Nodes.{Shape}
use Rattle.esc_nodes.specs.Terms.{term_of}
use Rattle.esc_egraph.specs.Graph.{Graph}
use Rattle.esc_fact.specs.Depth.{deep, depth_of_term}
use Rattle.esc_fact.specs.Legal.{HasAtom, HasTerm, made_facts}
use Rattle.esc_fact.specs.declared.base.Base.{Base}
use Rattle.esc_fact.specs.declared.fact.Fact.{Fact}
use Rattle.esc_rounds.specs.Branch.{IsDrawn, IsKept, formula_kept, is_quantified_form}
use Rattle.esc_rounds.specs.Standing.{Standing}
use Rattle.esc_rounds.specs.declared.draw.Draw.{Draw}
use Rattle.esc_rounds.specs.declared.kept.Kept.{Kept}

-- the depth of each node's term by these facts, and the unset number where it stands in none
pub record AreDepths (base : Base) (nodes : List Shape) (facts : List Fact) (unset : ℕ)
    (depths : List ℕ) : Type 0 where
  pub many : length depths ≡ length nodes
  pub there : (n : ℕ) → n < length nodes → HasTerm base facts (term_of nodes n)
      → slice_index depths n ≡ depth_of_term (deep base facts) (term_of nodes n)
  pub bare : (n : ℕ) → n < length nodes → (HasTerm base facts (term_of nodes n) → ⊥)
      → slice_index depths n ≡ unset

-- the quantified formulas that are atoms of the facts are kept, each once
pub record AreKept (base : Base) (facts : List Fact) (formulas : List Kept) : Type 0 where
  pub kept : All (IsKept base facts) formulas
  pub differ : AllPairs (λ k l. formula_kept base k ≢ formula_kept base l) formulas
  pub all : (f : Formula) → IsTrue (is_quantified_form (out-Formula f)) → HasAtom base facts f
      → Any (λ k. formula_kept base k ≡ Some f) formulas

-- what draws are read with
abbrev pub drawn_with : Graph → List Kept → Standing
drawn_with g formulas =
    record { graph = g; depths = []; formulas = formulas; literals = [] }

-- the draws are those of the facts besides the ones of the base, in order
abbrev pub AreDrawn : Base → Graph → List Kept → List Fact → List Draw → Type 0
AreDrawn base g formulas facts =
    AllZip (IsDrawn base (drawn_with g formulas)) (made_facts facts)
