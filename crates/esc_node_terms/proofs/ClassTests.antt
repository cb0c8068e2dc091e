-- Nodes in one class, and their terms in one class.
use Rattle.std.proofs.Common.{◌≡◌, ℕ, ◌<◌, true, ap, sym, ◌∙◌}
use Rattle.std.specs.Cmp.{IsEquivalence}
use Rattle.std.specs.List.{Contains}
use Rattle.std.proofs.lemmas.Bool.{eq-eqb, eqb-true}
use Rattle.std.proofs.lemmas.Cmp.{nat_eq_equiv}
use Rattle.esc_term.specs.declared.term.Term.{Term}
use Rattle.esc_cover.specs.Classes.{together}
use Rattle.esc_cover.proofs.ClassLemmas.{of_together, together_by}
use Rattle.esc_union.specs.Merges.{SameClass}
use Rattle.esc_egraph.specs.Graph.{Graph, IsGraph, number_of}
use Rattle.esc_node_terms.proofs.Places.{Contains-term_of, node_of_term, place-term_of}
use Rattle.esc_node_terms.specs.Laws.{HaveNodesOfOneClass}
use Rattle.esc_node_terms.specs.Nodes.{class_of_term, classes_in, node_count, node_term, same_in}
use Rattle.esc_node_terms.specs.Nodes.{terms_in}

pub same_in-equivalence : (g : Graph) → IsEquivalence (same_in g)
same_in-equivalence g = record {
  refl = λ s. nat_eq_equiv.refl (class_of_term g s);
  symm = λ s t. nat_eq_equiv.symm (class_of_term g s) (class_of_term g t);
  congr = λ s t u. nat_eq_equiv.congr (class_of_term g s) (class_of_term g t) (class_of_term g u);
}

module _ (g : Graph) (graph : IsGraph g) where
  class_of_term-node : (a : ℕ) → a < node_count g → class_of_term g (node_term g a) ≡ number_of g a
  class_of_term-node a l = ap (number_of g) (place-term_of g.nodes graph.terms a l)

  pub same_at : (a b : ℕ) → a < node_count g → b < node_count g → SameClass (number_of g) a b
      → same_in g (node_term g a) (node_term g b) ≡ true
  same_at a b al bl same =
      eq-eqb (class_of_term g (node_term g a)) (class_of_term g (node_term g b))
      (class_of_term-node a al ∙ (same ∙ sym (class_of_term-node b bl)))

  pub of_same_at : (a b : ℕ) → a < node_count g → b < node_count g
      → same_in g (node_term g a) (node_term g b) ≡ true → SameClass (number_of g) a b
  of_same_at a b al bl e =
      sym (class_of_term-node a al)
      ∙ (eqb-true (class_of_term g (node_term g a)) (class_of_term g (node_term g b)) e
      ∙ class_of_term-node b bl)

  pub together_at : (a b : ℕ) → a < node_count g → b < node_count g
      → SameClass (number_of g) a b
      → together (classes_in g) (node_term g a) (node_term g b) ≡ true
  unfolding classes_in
  together_at a b al bl same =
      together_by (same_in g) (same_in-equivalence g) (terms_in g) (node_term g a) (node_term g b)
      (Contains-term_of g.nodes a al) (Contains-term_of g.nodes b bl) (same_at a b al bl same)

  -- nodes of two terms that pass the test stand in one class
  pub nodes_of_same : (s t : Term) → Contains (terms_in g) s → Contains (terms_in g) t
      → same_in g s t ≡ true → HaveNodesOfOneClass g s t
  nodes_of_same s t hs ht e =
      let left = node_of_term g.nodes s hs in
      let right = node_of_term g.nodes t ht in (
        left.0,
        right.0,
        left.1,
        right.1,
        left.2,
        right.2,
        of_same_at left.0 right.0 left.1 right.1
            (ap (λ u. same_in g u (node_term g right.0)) left.2
            ∙ (ap (same_in g s) right.2 ∙ e)),
      )

  -- so do nodes of two terms that stand in one class
  pub nodes_of_together : (s t : Term) → together (classes_in g) s t ≡ true
      → HaveNodesOfOneClass g s t
  unfolding classes_in
  nodes_of_together s t e =
      let found = of_together (same_in g) (same_in-equivalence g) (terms_in g) s t e in
      nodes_of_same s t found.0 found.1 found.2

  pub of_together_at : (a b : ℕ) → a < node_count g → b < node_count g
      → together (classes_in g) (node_term g a) (node_term g b) ≡ true → SameClass (number_of g) a b
  unfolding classes_in
  of_together_at a b al bl e =
      of_same_at a b al bl
      (of_together (same_in g) (same_in-equivalence g) (terms_in g) (node_term g a) (node_term g b)
      e).2

  pub together_of_nodes : (s t : Term) → HaveNodesOfOneClass g s t
      → together (classes_in g) s t ≡ true
  together_of_nodes s t (a, b, al, bl, left, right, same) =
      ap (λ u. together (classes_in g) u t) (sym left)
      ∙ (ap (together (classes_in g) (node_term g a)) (sym right) ∙ together_at a b al bl same)
