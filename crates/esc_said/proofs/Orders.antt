-- An order of two nodes' terms is a literal exactly where it was asserted of the two nodes, since
-- one term has one node.
use Rattle.std.proofs.Common.{◌≡◌, ℕ, ◌<◌, Bool, true, false, List, map, refl, ap, ap₂, sym, subst}
use Rattle.std.specs.List.{All, Contains, list_any}
use Rattle.std.proofs.lemmas.Bool.{eq-eqb, eqb-true}
use Rattle.std.proofs.lemmas.List.Elements.{All-contains}
use Rattle.esc_term.specs.declared.term.Term.{Term}
use Rattle.esc_term.specs.declared.formula.Formula.TheVariants as formula
use Rattle.esc_term.specs.declared.formula.Item.{Item}
use Rattle.esc_cover.specs.Cover.{is_literal}
use Rattle.esc_cover.proofs.TestLemmas.{and_both, and_left, and_right, any_at, any_found}
use Rattle.esc_cover.proofs.TestLemmas.{literal_at, literal_found}
use Rattle.esc_nodes.proofs.NodeTerms.{terms_are_once}
use Rattle.esc_egraph.specs.Graph.{Graph, IsGraph}
use Rattle.esc_sharing.specs.Literals.{equality, item_of, order}
use Rattle.esc_sharing.specs.Nodes.{node_count, node_term}
use Rattle.esc_sharing.specs.declared.literal.Lit.{Lit}
use Rattle.esc_sharing.specs.declared.literal.Lit.TheVariants.{Equal, Apart, Below, AtMost}
use Rattle.esc_sharing.proofs.Consistent.{Less_no_Eq, signs_differ}
use Rattle.esc_sharing.proofs.Lists.{Contains-map, Contains-of_map}
use Rattle.esc_said.specs.SayingInside.{tells_order}
use Rattle.esc_said.specs.Speaking.{HasSides, HaveSameOrders}

same_answer : (a b : Bool) → (a ≡ true → b ≡ true) → (b ≡ true → a ≡ true) → a ≡ b
same_answer true b there back = sym (there refl)
same_answer false true there back = back refl
same_answer false false there back = refl

left_side : (s t u w : Term) → formula.Less s t ≡ formula.Less u w → s ≡ u
left_side s t u w e = cc

right_side : (s t u w : Term) → formula.Less s t ≡ formula.Less u w → t ≡ w
right_side s t u w e = cc

no_equality : (u w s t : Term) (p : Bool) (q : Bool)
    → equality u w q ≡ order s t p → ⊥
no_equality u w s t p q e = Less_no_Eq s t u w (sym (ap (λ (i : Item). i.formula) e))

module _ (g : Graph) (graph : IsGraph g) (a b : ℕ) (al : a < node_count g) (bl : b < node_count g)
  where
    abbrev s : Term
    s = node_term g a

    abbrev t : Term
    t = node_term g b

    same_node : (j k : ℕ) → j < node_count g → k < node_count g → node_term g j ≡ node_term g k
        → j ≡ k
    same_node j k jl kl e = terms_are_once g.nodes graph.terms j k jl kl e

    -- the literal is the order that it tells
    told_is : (p : Bool) (lit : Lit) → tells_order a b p lit ≡ true → item_of g lit ≡ order s t p
    told_is true (Below x y) e =
        ap₂ (λ m n. order (node_term g m) (node_term g n) true) (eqb-true x a (and_left _ _ e))
        (eqb-true y b (and_right _ _ e))
    told_is false (AtMost x y) e =
        ap₂ (λ m n. order (node_term g m) (node_term g n) false) (eqb-true y a (and_left _ _ e))
        (eqb-true x b (and_right _ _ e))
    told_is false (Below x y) e = cc
    told_is true (AtMost x y) e = cc
    told_is true (Equal x y) e = cc
    told_is false (Equal x y) e = cc
    told_is true (Apart x y) e = cc
    told_is false (Apart x y) e = cc

    -- and tells the order that it is
    is_told : (p : Bool) (lit : Lit) → HasSides g lit → item_of g lit ≡ order s t p
        → tells_order a b p lit ≡ true
    is_told true (Below x y) there e =
        let same = ap (λ (i : Item). i.formula) e in
        and_both _ _
        (eq-eqb x a (same_node x a there.first al (left_side _ _ s t same)))
        (eq-eqb y b (same_node y b there.second bl (right_side _ _ s t same)))
    is_told false (AtMost x y) there e =
        let same = ap (λ (i : Item). i.formula) e in
        and_both _ _
        (eq-eqb y a (same_node y a there.second al (left_side _ _ s t same)))
        (eq-eqb x b (same_node x b there.first bl (right_side _ _ s t same)))
    is_told false (Below x y) there e = absurd (signs_differ _ _ e refl refl)
    is_told true (AtMost x y) there e = absurd (signs_differ _ _ (sym e) refl refl)
    is_told p (Equal x y) there e =
        absurd (no_equality (node_term g x) (node_term g y) s t p true e)
    is_told p (Apart x y) there e =
        absurd (no_equality (node_term g x) (node_term g y) s t p false e)

    module _ (asserted : List Lit) (sides : All (HasSides g) asserted) (literals : List Item)
        (same : HaveSameOrders g asserted literals) where
      pub list_any-tells_order : (p : Bool) → list_any (tells_order a b p) asserted
          ≡ is_literal literals (formula.Less s t) p
      list_any-tells_order p = same_answer _ _
          (λ e.
          let found = any_found (tells_order a b p) asserted e in
          literal_at literals (formula.Less s t) p
          ((same s t p).1 (subst (Contains (map (item_of g) asserted)) (told_is p found.0 found.2)
          (Contains-map (item_of g) asserted found.0 found.1))))
          (λ e.
          let found = Contains-of_map (item_of g) asserted (order s t p)
          ((same s t p).0 (literal_found literals (formula.Less s t) p e)) in
          any_at (tells_order a b p) asserted found.0 found.1
          (is_told p found.0 (All-contains (HasSides g) asserted found.0 sides found.1) found.2))
