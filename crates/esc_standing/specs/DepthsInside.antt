-- How the depths of nodes change as the terms of a fact are entered.
use Rattle.std.specs.Prelude.{◌≡◌, ℕ, ◌==◌, ◌<◌, ◌≤◌, ◌-◌, ◌&&◌, Bool, if◌then◌else◌, List, length}
use Rattle.std.specs.Prelude.{slice_index}
use Rattle.esc_term.specs.declared.term.Term.{Term}
use Rattle.esc_term.specs.declared.formula.Formula.{Formula}
use Rattle.esc_term.specs.Formula.{terms_of}
use Rattle.esc_fact.specs.Depth.{Deep, deep}
use Rattle.esc_fact.specs.declared.base.Base.{Base}
use Rattle.esc_fact.specs.declared.fact.Fact.{Fact}
use Rattle.std.specs.List.{All}
use Rattle.esc_cover.specs.Classes.{has}
use Rattle.esc_nodes.specs.Nodes.{Shape}
use Rattle.esc_nodes.specs.Terms.{term_of}

-- the depth after terms of this depth are entered, where the node has one of them and was unset
abbrev pub entered : Bool → ℕ → ℕ → ℕ → ℕ
entered has_it depth unset old = if has_it && (old == unset) then depth else old

-- the depth is entered at the nodes of these terms that are unset, and no others change
pub record Enters (nodes : List Shape) (terms : List Term) (depth unset : ℕ) (old new : List ℕ)
    : Type 0 where
  pub many : length new ≡ length old
  pub each : (n : ℕ) → n < length nodes
      → slice_index new n
      ≡ entered (has terms (term_of nodes n)) depth unset (slice_index old n)

-- the same for the terms of a formula
abbrev pub EntersTerms : List Shape → Formula → ℕ → ℕ → List ℕ → List ℕ → Type 0
EntersTerms nodes f = Enters nodes (terms_of f)

-- ---- facts

-- nothing in the list lies deeper
abbrev pub AreWithin : ℕ → List Deep → Type 0
AreWithin limit ds = All (λ d. d.depth ≤ limit) ds

-- each fact lies no deeper than there are facts before it
abbrev pub IsShallow : Base → List Fact → Type 0
IsShallow base facts = AreWithin (length facts - 1) (deep base facts)
