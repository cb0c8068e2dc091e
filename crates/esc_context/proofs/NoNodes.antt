-- A term that has no node stands in no class with another, and is not forced apart from it.
use Rattle.std.proofs.Common.{◌≡◌, ℕ, ◌<◌, false, List}
use Rattle.esc_term.specs.declared.term.Term.{Term}
use Rattle.esc_term.specs.declared.formula.Item.{Item}
use Rattle.esc_cover.specs.Classes.{together}
use Rattle.esc_cover.specs.Cover.{is_forced_apart}
use Rattle.esc_cover.proofs.ClassLemmas.{of_together}
use Rattle.esc_cover.proofs.TestLemmas.{false_from}
use Rattle.esc_egraph.specs.Graph.{Graph, IsGraph}
use Rattle.esc_node_terms.proofs.Places.{node_of_term}
use Rattle.esc_sharing.specs.Nodes.{classes_in, node_count, node_term, same_in, terms_in}
use Rattle.esc_node_terms.proofs.ClassTests.{same_in-equivalence}
use Rattle.esc_said.specs.HeldApart.{AreHeldApart}
use Rattle.esc_said.proofs.HeldApart.{kept_apart}

-- no node has the term
abbrev pub HasNoNode : Graph → Term → Type 0
HasNoNode g t = (n : ℕ) → n < node_count g → node_term g n ≡ t → ⊥

module _ (g : Graph) (s t : Term) where
  pub together-no_left : HasNoNode g s → together (classes_in g) s t ≡ false
  unfolding classes_in
  together-no_left none = false_from (together (classes_in g) s t) (λ e.
      let found = of_together (same_in g) (same_in-equivalence g) (terms_in g) s t e in
      let node = node_of_term g.nodes s found.0 in
      none node.0 node.1 node.2)

  pub together-no_right : HasNoNode g t → together (classes_in g) s t ≡ false
  unfolding classes_in
  together-no_right none = false_from (together (classes_in g) s t) (λ e.
      let found = of_together (same_in g) (same_in-equivalence g) (terms_in g) s t e in
      let node = node_of_term g.nodes t found.1 in
      none node.0 node.1 node.2)

  module _ (graph : IsGraph g) (groups : List (List ℕ)) (literals : List Item)
      (held : AreHeldApart g groups literals) where
    pub is_forced_apart-no_left : HasNoNode g s
        → is_forced_apart literals (classes_in g) s t ≡ false
    is_forced_apart-no_left none = false_from (is_forced_apart literals (classes_in g) s t) (λ e.
        let found = kept_apart g graph groups literals held s t e in
        none found.a found.a_there found.a_is)

    pub is_forced_apart-no_right : HasNoNode g t
        → is_forced_apart literals (classes_in g) s t ≡ false
    is_forced_apart-no_right none = false_from (is_forced_apart literals (classes_in g) s t) (λ e.
        let found = kept_apart g graph groups literals held s t e in
        none found.b found.b_there found.b_is)
