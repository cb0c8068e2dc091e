-- What a graph and groups keep apart, as literals where there are no others.
use Rattle.std.proofs.Common.{◌≡◌, ℕ, ◌<◌, false, inl, inr, List, ◌++◌, map, sym}
use Rattle.std.specs.List.{All, Contains}
use Rattle.std.proofs.lemmas.List.Elements.{All-append, All-map, Contains-append_cases}
use Rattle.std.proofs.lemmas.List.Elements.{Contains-append_left, Contains-append_right}
use Rattle.esc_term.specs.declared.formula.Item.{Item}
use Rattle.esc_cover.specs.Counterexample.{IsConsistent}
use Rattle.esc_egraph.specs.Congruence.{IsMet}
use Rattle.esc_egraph.specs.Graph.{Graph, IsGraph, number_of}
use Rattle.esc_distinct.specs.Groups.{AreBroken}
use Rattle.esc_node_terms.specs.LiteralForms.{AreKept, IsClassLiteral, denied, equated, told_apart}
use Rattle.esc_node_terms.proofs.Agreeing.{agreeing}
use Rattle.esc_node_terms.proofs.LiteralForms.{apart_no_denied, denied_no_apart, equated_no_apart}
use Rattle.esc_node_terms.proofs.LiteralForms.{equated_no_denied, form-Distinct, form-Eq}
use Rattle.esc_node_terms.proofs.LiteralForms.{same_apart, same_denied}
use Rattle.esc_sharing.specs.Literals.{group_item}
use Rattle.esc_sharing.specs.Nodes.{classes_in, node_count, node_term}
use Rattle.esc_sharing.proofs.Lists.{All-each, Any-contains, Contains-map, Contains-of_map}

abbrev pub denied_item : Graph → ℕ × ℕ → Item
denied_item g pair = denied (node_term g pair.0) (node_term g pair.1)

module _ (g : Graph) (groups : List (List ℕ)) where
  abbrev pub kept_items : List Item
  kept_items = map (denied_item g) g.forbidden ++ map (group_item g) groups

  kept_pair : (pair : ℕ × ℕ) → Contains g.forbidden pair → Contains kept_items (denied_item g pair)
  kept_pair pair h = Contains-append_left (map (denied_item g) g.forbidden)
      (map (group_item g) groups) (denied_item g pair)
      (Contains-map (denied_item g) g.forbidden pair h)

  kept_group : (group : List ℕ) → Contains groups group → Contains kept_items (group_item g group)
  kept_group group h = Contains-append_right (map (denied_item g) g.forbidden)
      (map (group_item g) groups) (group_item g group)
      (Contains-map (group_item g) groups group h)

  -- where a literal is a pair's, or a group's, a fact follows
  module _ (item : Item) (P : Type 0)
      (of_pair : (pair : ℕ × ℕ) → Contains g.forbidden pair → denied_item g pair ≡ item → P)
      (of_group : (group : List ℕ) → Contains groups group → group_item g group ≡ item → P) where
    of_kept : Contains kept_items item → P
    of_kept h =
        elim (Contains-append_cases (map (denied_item g) g.forbidden) (map (group_item g) groups)
        item h) [
          | inl first ↦
              let found = Contains-of_map (denied_item g) g.forbidden item first in
              of_pair found.0 found.1 found.2
          | inr second ↦
              let found = Contains-of_map (group_item g) groups item second in
              of_group found.0 found.1 found.2
        ]

  pub are_kept : IsGraph g → All (All (λ n. n < node_count g)) groups
      → AreKept g groups kept_items
  are_kept graph members = record {
    graph = graph;
    members = members;
    forms = All-append IsClassLiteral (map (denied_item g) g.forbidden) (map (group_item g) groups)
        (All-map IsClassLiteral (denied_item g) g.forbidden
        (All-each (λ (pair : ℕ × ℕ). IsClassLiteral (denied_item g pair)) g.forbidden
        (λ pair h. form-Eq (node_term g pair.0) (node_term g pair.1) false)))
        (All-map IsClassLiteral (group_item g) groups
        (All-each (λ (group : List ℕ). IsClassLiteral (group_item g group)) groups
        (λ group h. form-Distinct (map (node_term g) group))));
    equations_are = λ s t h. absurd (of_kept (equated s t) ⊥
        (λ pair k e. equated_no_denied s t (node_term g pair.0) (node_term g pair.1) (sym e))
        (λ group k e. equated_no_apart s t (map (node_term g) group) (sym e)) h);
    pairs_are = All-each (λ (pair : ℕ × ℕ). Contains kept_items (denied_item g pair)) g.forbidden
        kept_pair;
    denials_are = λ s t h. of_kept (denied s t) _
        (λ pair k e. Any-contains
        (λ (p : ℕ × ℕ). (node_term g p.0 ≡ s) × (node_term g p.1 ≡ t)) g.forbidden pair k
        (same_denied (node_term g pair.0) (node_term g pair.1) s t e))
        (λ group k e. absurd (apart_no_denied (map (node_term g) group) s t e)) h;
    groups_are = All-each (λ (group : List ℕ). Contains kept_items (group_item g group)) groups
        kept_group;
    distinctions_are = λ ts h. of_kept (told_apart ts) _
        (λ pair k e. absurd (denied_no_apart (node_term g pair.0) (node_term g pair.1) ts e))
        (λ group k e. Any-contains (λ (ns : List ℕ). map (node_term g) ns ≡ ts) groups group k
        (same_apart (map (node_term g) group) ts e)) h;
  }

  -- the classes are consistent with these
  pub kept_consistent : IsGraph g → All (All (λ n. n < node_count g)) groups → IsMet g
      → (AreBroken (number_of g) groups → ⊥) → IsConsistent kept_items (classes_in g)
  kept_consistent graph members met unbroken =
      agreeing g groups kept_items (are_kept graph members) met unbroken
