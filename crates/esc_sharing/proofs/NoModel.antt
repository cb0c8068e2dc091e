-- Where what is kept apart stands in one class, or where the theory admits nothing, no model makes
-- the literals hold.
use Rattle.std.proofs.Common.{◌≡◌, ℕ, ◌<◌, ◌⊎◌, inl, inr, List, [], map}
use Rattle.std.proofs.Common.{sym, subst, ◌∙◌}
use Rattle.std.specs.List.{All, Contains, flat_map}
use Rattle.std.proofs.lemmas.List.Elements.{All-append, All-contains, All-map, All-weaker}
use Rattle.esc_term.specs.declared.term.Term.{Term}
use Rattle.esc_term.specs.declared.formula.Item.{Item}
use Rattle.esc_term.specs.Model.{Model, value_in}
use Rattle.esc_term.proofs.Members.{Contains-cases, Contains-flat_map, Contains-none}
use Rattle.esc_cover.specs.Assignment.{NoneNegative, asked, value}
use Rattle.esc_cover.specs.Laws.{HoldsIn}
use Rattle.esc_union.specs.Merges.{SameClass}
use Rattle.esc_egraph.specs.Congruence.{IsBroken}
use Rattle.esc_egraph.specs.Graph.{IsGraph, number_of}
use Rattle.esc_distinct.specs.Groups.{AreBroken}
use Rattle.esc_node_terms.proofs.Values.{not_broken, not_twice}
use Rattle.esc_sharing.specs.Literals.{group_item, item_of}
use Rattle.esc_sharing.specs.Nodes.{node_count, node_term}
use Rattle.esc_sharing.specs.Numbers.{AreNumbersOf}
use Rattle.esc_sharing.specs.Shared.{AdmitsAll, AreEqualInModels, AreToldIn, HaveNoModel, Shared}
use Rattle.esc_sharing.specs.Shared.{denied_pair, literals_in, told_in}
use Rattle.esc_sharing.specs.SettlingInside.{JoinsDemanded}
use Rattle.esc_sharing.specs.declared.literal.Lit.{Lit}
use Rattle.esc_sharing.specs.declared.literal.Lit.TheVariants.{Equal, Apart, Below, AtMost}
use Rattle.esc_sharing.proofs.Consistent.{asserted_literal, group_literal}
use Rattle.esc_sharing.proofs.Demanded.{demanded_values}
use Rattle.esc_sharing.proofs.Exactness.{GivesOneValue, satisfying_admitted}
use Rattle.esc_sharing.proofs.Kept.{are_kept, denied_item, kept_items}
use Rattle.esc_sharing.proofs.Least.{number_of_node}
use Rattle.esc_sharing.proofs.Lists.{All-each}
use Rattle.esc_sharing.proofs.ModelValues.{asked-model, assignment_of, value-model}

module _ (v : Shared) (demanded : JoinsDemanded v) (M : Model)
    (holds : All (HoldsIn M) (literals_in v)) where
  values : (a b : ℕ) → a < node_count v.graph → b < node_count v.graph
      → SameClass (number_of v.graph) a b
      → value_in M (node_term v.graph a) ≡ value_in M (node_term v.graph b)
  values = demanded_values (literals_in v) v.graph.nodes _ (number_of v.graph) demanded M holds

  -- ---- what is kept apart

  module _ (forbidden : v.graph.forbidden ≡ flat_map denied_pair v.asserted) where
    denied_holds : (pair : ℕ × ℕ) (lit : Lit) → Contains v.asserted lit
        → Contains (denied_pair lit) pair → HoldsIn M (denied_item v.graph pair)
    denied_holds pair (Equal a b) h k = absurd (Contains-none pair k)
    denied_holds pair (Apart a b) h k =
        elim (Contains-cases (a, b) [] pair k) [
          | inl e ↦ subst (λ (p : ℕ × ℕ). HoldsIn M (denied_item v.graph p)) e
              (All-contains (HoldsIn M) (literals_in v) (item_of v.graph (Apart a b)) holds
              (asserted_literal v (Apart a b) h))
          | inr none ↦ absurd (Contains-none pair none)
        ]
    denied_holds pair (Below a b) h k = absurd (Contains-none pair k)
    denied_holds pair (AtMost a b) h k = absurd (Contains-none pair k)

    kept_holds : All (HoldsIn M) (kept_items v.graph v.groups)
    kept_holds =
        All-append (HoldsIn M) (map (denied_item v.graph) v.graph.forbidden)
        (map (group_item v.graph) v.groups)
        (All-map (HoldsIn M) (denied_item v.graph) v.graph.forbidden
        (All-each (λ (pair : ℕ × ℕ). HoldsIn M (denied_item v.graph pair)) v.graph.forbidden
        (λ pair h.
        let found = Contains-flat_map denied_pair v.asserted pair
        (subst (λ pairs. Contains pairs pair) forbidden h) in
        denied_holds pair found.0 found.1 found.2)))
        (All-map (HoldsIn M) (group_item v.graph) v.groups
        (All-each (λ (group : List ℕ). HoldsIn M (group_item v.graph group)) v.groups
        (λ group h. All-contains (HoldsIn M) (literals_in v) (group_item v.graph group) holds
        (group_literal v group h))))

    nothing_joined : IsGraph v.graph → All (All (λ n. n < node_count v.graph)) v.groups
        → IsBroken v.graph ⊎ AreBroken (number_of v.graph) v.groups → ⊥
    nothing_joined graph members (inl broken) =
        not_broken v.graph v.groups (kept_items v.graph v.groups)
        (are_kept v.graph v.groups graph members) M kept_holds values broken
    nothing_joined graph members (inr broken) =
        not_twice v.graph v.groups (kept_items v.graph v.groups)
        (are_kept v.graph v.groups graph members) M kept_holds values broken

  -- ---- what is told

  module _ (numbers : AreNumbersOf v.graph v.numbers)
      (told : All (AreToldIn v.graph v.numbers) v.told) where
    one_told : (pair : ℕ × ℕ) → AreToldIn v.graph v.numbers pair
        → value_in M (node_term v.graph pair.0) ≡ value_in M (node_term v.graph pair.1)
    one_told pair is =
        values pair.0 pair.1 (number_of_node v numbers pair.0 is.first).0
        (number_of_node v numbers pair.1 is.second).0 is.together

    told_values : All (λ pair. value_in M pair.0 ≡ value_in M pair.1) (told_in v)
    told_values =
        All-map (λ (pair : Term × Term). value_in M pair.0 ≡ value_in M pair.1)
        (λ (pair : ℕ × ℕ). (node_term v.graph pair.0, node_term v.graph pair.1)) v.told
        (All-weaker (AreToldIn v.graph v.numbers)
        (λ pair. value_in M (node_term v.graph pair.0) ≡ value_in M (node_term v.graph pair.1))
        one_told v.told told)

    model_gives : GivesOneValue (assignment_of M) (told_in v)
    model_gives =
        All-weaker (λ (pair : Term × Term). value_in M pair.0 ≡ value_in M pair.1)
        (λ pair. value (assignment_of M) pair.0 ≡ value (assignment_of M) pair.1)
        (λ pair e. value-model M pair.0 ∙ (e ∙ sym (value-model M pair.1))) (told_in v) told_values

    -- the theory admits the model
    model_admitted : AdmitsAll v → v.admits (assignment_of M)
    model_admitted exact =
        satisfying_admitted v exact (assignment_of M)
        (All-weaker (HoldsIn M) (λ (item : Item). NoneNegative (assignment_of M) (asked item))
        (λ item so. asked-model M item so) (literals_in v) holds) model_gives

-- what is kept apart stands in one class
pub broken_no_model : (v : Shared) → JoinsDemanded v → IsGraph v.graph
    → v.graph.forbidden ≡ flat_map denied_pair v.asserted
    → All (All (λ n. n < node_count v.graph)) v.groups
    → IsBroken v.graph ⊎ AreBroken (number_of v.graph) v.groups → HaveNoModel (literals_in v)
broken_no_model v demanded graph forbidden members broken M holds =
    nothing_joined v demanded M holds forbidden graph members broken

-- told pairs have one value in each model
pub told_follow : (v : Shared) → JoinsDemanded v → AreNumbersOf v.graph v.numbers
    → All (AreToldIn v.graph v.numbers) v.told → All (AreEqualInModels (literals_in v)) (told_in v)
told_follow v demanded numbers told =
    All-each (AreEqualInModels (literals_in v)) (told_in v)
    (λ pair h M holds. All-contains (λ (p : Term × Term). value_in M p.0 ≡ value_in M p.1)
    (told_in v) pair (told_values v demanded M holds numbers told) h)

-- each model of the literals is admitted
pub models_are_admitted : (v : Shared) → JoinsDemanded v → AreNumbersOf v.graph v.numbers
    → All (AreToldIn v.graph v.numbers) v.told → AdmitsAll v → (M : Model)
    → All (HoldsIn M) (literals_in v) → v.admits (assignment_of M)
models_are_admitted v demanded numbers told exact M holds =
    model_admitted v demanded M holds numbers told exact
