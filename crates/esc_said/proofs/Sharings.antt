-- A sharing speaks for its literals, with any quantified ones beside them.
use Rattle.std.proofs.Common.{◌≡◌, ℕ, ◌<◌, ◌↔◌, Bool, List, map, false, ap, sym, subst, ◌∙◌}
use Rattle.std.specs.List.{All, Contains}
use Rattle.std.proofs.lemmas.List.Elements.{All-contains}
use Rattle.esc_term.specs.declared.term.Term.{Term}
use Rattle.esc_term.specs.declared.formula.Formula.{out-Formula}
use Rattle.esc_term.specs.declared.formula.Formula.TheVariants.{rolls-Less}
use Rattle.esc_term.specs.declared.formula.Formula.TheOpen.{Formula-F}
use Rattle.esc_term.specs.declared.formula.Formula.TheViews.{out-roll-Formula}
use Rattle.esc_term.specs.declared.formula.Item.{Item}
use Rattle.esc_egraph.specs.Graph.{Graph, IsGraph}
use Rattle.esc_simplex.specs.View.{Allows, IsSimplex, numbers_in}
use Rattle.esc_sharing.specs.Literals.{AreSides, group_item, item_of, order}
use Rattle.esc_sharing.specs.Nodes.{node_count, node_term}
use Rattle.esc_sharing.specs.Shared.{IsShared, Shared, literals_in, seen}
use Rattle.esc_sharing.specs.Unquantified.{HaveSameUnquantified, is_quantified, is_quantified_form}
use Rattle.esc_sharing.specs.declared.literal.Lit.{Lit}
use Rattle.esc_sharing.proofs.Consistent.{asserted_literal, of_literal}
use Rattle.esc_sharing.proofs.Lists.{All-each, Contains-map, Contains-of_map}
use Rattle.esc_said.specs.HeldApart.{AreHeldApart}
use Rattle.esc_said.specs.Speaking.{HasSides, HaveSameOrders, SharingSpeaks}
use Rattle.esc_said.proofs.Holding.{held_apart, less_no_distinct}

order_unquantified : (s t : Term) (p : Bool) → is_quantified (order s t p) ≡ false
order_unquantified s t p = ap is_quantified_form
    (ap out-Formula (sym (rolls-Less s t)) ∙ out-roll-Formula (Formula-F.Less s t))

module _ (v : Shared) where
  group_no_order : (group : List ℕ) (s t : Term) (p : Bool)
      → group_item v.graph group ≡ order s t p → ⊥
  group_no_order group s t p e =
      less_no_distinct s t (map (node_term v.graph) group) (sym (ap (λ (i : Item). i.formula) e))

  orders : (s t : Term) (p : Bool) → Contains (literals_in v) (order s t p)
      ↔ Contains (map (item_of v.graph) v.asserted) (order s t p)
  orders s t p = (
    λ h. of_literal v (order s t p) (Contains (map (item_of v.graph) v.asserted) (order s t p))
        (λ lit k e. subst (Contains (map (item_of v.graph) v.asserted)) e
        (Contains-map (item_of v.graph) v.asserted lit k))
        (λ group k e. absurd (group_no_order group s t p e)) h,
    λ h.
        let found = Contains-of_map (item_of v.graph) v.asserted (order s t p) h in
        subst (Contains (literals_in v)) found.2 (asserted_literal v found.0 found.1),
  )

  pub same_orders : (literals : List Item) → HaveSameUnquantified (literals_in v) literals
      → HaveSameOrders v.graph v.asserted literals
  same_orders literals alike s t p =
      let same = alike (order s t p) (order_unquantified s t p) in
      (λ h. (orders s t p).0 (same.1 h), λ h. same.0 ((orders s t p).1 h))

  pub sides_there : IsShared v → All (HasSides v.graph) v.asserted
  sides_there shared = All-each (HasSides v.graph) v.asserted (λ lit h.
      let sides = All-contains (AreSides v.graph v.numbers) v.asserted lit shared.parts.sides h in
      record { first = sides.first; second = sides.second })

-- what is known of who says so, by its parts
record SpeaksWith (g : Graph) (groups : List (List ℕ)) (asserted : List Lit)
    (literals : List Item) : Type 0 where
  graph : IsGraph g
  members : All (All (λ a. a < node_count g)) groups
  sides : All (HasSides g) asserted
  held : AreHeldApart g groups literals
  orders : HaveSameOrders g asserted literals

pub sharing_speaks : SharingSpeaks
sharing_speaks s saying literals of shared alike =
    let v : Shared = seen IsSimplex Allows numbers_in s in
    let own : SpeaksWith s.graph s.groups s.asserted literals = record {
      graph = shared.parts.graph;
      members = shared.parts.members;
      sides = sides_there v shared;
      held = held_apart v shared literals alike;
      orders = same_orders v literals alike;
    } in
    let read : SpeaksWith saying.graph.now saying.groups.now saying.asserted.now literals =
    subst (λ g. SpeaksWith g saying.groups.now saying.asserted.now literals) (sym of.graph)
    (subst (λ groups. SpeaksWith s.graph groups saying.asserted.now literals) (sym of.groups)
    (subst (λ asserted. SpeaksWith s.graph s.groups asserted literals) (sym of.asserted) own)) in
    record {
      saying = record { graph = read.graph; members = read.members; sides = read.sides };
      held = read.held;
      orders = read.orders;
    }
