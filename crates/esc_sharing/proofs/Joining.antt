-- The classes of two nodes are joined that each congruent test joins.
use Rattle.std.proofs.Common.{◌≡◌, ℕ, ◌<◌, ◌⊎◌, inl, inr, List, ◌++◌, map}
use Rattle.std.proofs.Common.{refl, ap, sym, subst, ◌∙◌, Bool}
use Rattle.std.specs.Prelude.{◌↔◌}
use Rattle.std.specs.List.{All, flat_map}
use Rattle.std.proofs.lemmas.List.Elements.{All-contains, All-map, All-weaker}
use Rattle.esc_term.specs.declared.term.Term.{Term}
use Rattle.esc_cover.specs.Assignment.{Assignment, NoneNegative, Suits, asked, value}
use Rattle.esc_cover.specs.Least.{IsCongruent}
use Rattle.esc_union.specs.Merges.{SameClass, class_number}
use Rattle.esc_egraph.specs.Congruence.{EqualWith, IsBroken, IsLeast, IsMet}
use Rattle.esc_egraph.specs.Graph.{Graph, IsGraph, number_of}
use Rattle.esc_distinct.specs.Groups.{AreBroken}
use Rattle.esc_sharing.specs.Admitted.{AreEqualBy, both_gaps}
use Rattle.esc_sharing.specs.Literals.{AreSides, group_item}
use Rattle.esc_sharing.specs.Nodes.{node_count, node_term}
use Rattle.esc_sharing.specs.Numbers.{AreNumbersOf, IsNumber, number_terms}
use Rattle.esc_sharing.specs.SettlingInside.{IsDemanded, IsUnsettled, JoinsDemanded}
use Rattle.esc_sharing.specs.Shared.{AdmitsAll, AreToldIn, HaveNoModel, IsMetIn, Shared, items_in}
use Rattle.esc_sharing.specs.Shared.{literals_in, play_in, told_in}
use Rattle.esc_sharing.specs.declared.literal.Lit.{Lit}
use Rattle.esc_sharing.specs.declared.literal.Lit.TheVariants.{Equal, Apart, Below, AtMost}
use Rattle.esc_sharing.proofs.Alike.{groups-alike, items-alike}
use Rattle.esc_sharing.proofs.Demanded.{ArePaired, demanded_joined}
use Rattle.esc_sharing.proofs.Exactness.{satisfying_admitted}
use Rattle.esc_sharing.proofs.Least.{number_of_node}
use Rattle.esc_sharing.proofs.Lists.{All-each}
use Rattle.esc_sharing.proofs.NoModel.{broken_no_model}
use Rattle.esc_sharing.proofs.ToldPairs.{JoinedBy, known_joined}

-- ---- what the theory finds equal is demanded

module _ (v : Shared) (exact : AdmitsAll v) (demanded : JoinsDemanded v)
    (numbers : AreNumbersOf v.graph v.numbers)
    (told : All (AreToldIn v.graph v.numbers) v.told) (other : Term → Term → Bool)
    (is : IsCongruent other (play_in v) (literals_in v)) (x : Assignment)
    (suits : Suits (literals_in v) (number_terms v.numbers) other x) where
  one_told : (pair : ℕ × ℕ) → AreToldIn v.graph v.numbers pair
      → value x (node_term v.graph pair.0) ≡ value x (node_term v.graph pair.1)
  one_told pair at =
      let left = number_of_node v numbers pair.0 at.first in
      let right = number_of_node v numbers pair.1 at.second in
      suits.agrees (node_term v.graph pair.0) (node_term v.graph pair.1) left.1 right.1
      (demanded other is pair.0 pair.1 left.0 right.0 at.together)

  -- what suits a congruent test is admitted
  suiting_admitted : v.admits x
  suiting_admitted =
      satisfying_admitted v exact x suits.satisfies
      (All-map (λ (pair : Term × Term). value x pair.0 ≡ value x pair.1)
      (λ (pair : ℕ × ℕ). (node_term v.graph pair.0, node_term v.graph pair.1)) v.told
      (All-weaker (AreToldIn v.graph v.numbers)
      (λ pair. value x (node_term v.graph pair.0) ≡ value x (node_term v.graph pair.1)) one_told
      v.told told))

pub equal_paired : (v : Shared) → AdmitsAll v → JoinsDemanded v → AreNumbersOf v.graph v.numbers
    → All (AreToldIn v.graph v.numbers) v.told → (a b : ℕ) → IsNumber v.numbers a
    → IsNumber v.numbers b → AreEqualBy v.admits (node_term v.graph a) (node_term v.graph b)
    → ArePaired (literals_in v) v.graph.nodes (number_terms v.numbers) (node_term v.graph a)
    (node_term v.graph b)
equal_paired v exact demanded numbers told a b an bn equal other is =
    is.values (node_term v.graph a) (node_term v.graph b) (number_of_node v numbers a an).1
    (number_of_node v numbers b bn).1
    (λ x suits. equal x (suiting_admitted v exact demanded numbers told other is x suits))

-- ---- the classes are joined

module _ (v : Shared) (merges : List (ℕ × ℕ)) where
  abbrev joined_graph : Graph
  joined_graph = record v.graph { merges = merges }

  abbrev pub joined_view : Shared
  joined_view = record v { graph = joined_graph }

  items_joined : items_in joined_view ≡ items_in v
  items_joined = items-alike v.graph joined_graph refl v.asserted

  literals_joined : literals_in joined_view ≡ literals_in v
  literals_joined = ap (λ items. items ++ map (group_item joined_graph) v.groups) items_joined
      ∙ ap (λ items. items_in v ++ items) (groups-alike v.graph joined_graph refl v.groups)

  module _ (a b : ℕ) (al : a < node_count v.graph) (bl : b < node_count v.graph)
      (least : IsLeast v.graph.nodes (EqualWith (number_of v.graph) a b) (class_number merges))
    where
      stays : (x y : ℕ) → x < node_count v.graph → y < node_count v.graph
          → SameClass (number_of v.graph) x y → SameClass (class_number merges) x y
      stays x y xl yl same = least.meets x y xl yl (inl same)

      pub joined_now : SameClass (class_number merges) a b
      joined_now = least.meets a b al bl (inr (refl, refl))

      equation_stays : (lit : Lit) → AreSides v.graph v.numbers lit → IsMetIn v.graph lit
          → IsMetIn joined_graph lit
      equation_stays (Equal x y) sides met = stays x y sides.first sides.second met
      equation_stays (Apart x y) sides met = tt
      equation_stays (Below x y) sides met = tt
      equation_stays (AtMost x y) sides met = tt

      pub equations_joined : All (AreSides v.graph v.numbers) v.asserted
          → All (IsMetIn v.graph) v.asserted → All (IsMetIn joined_graph) v.asserted
      equations_joined sides met = All-each (IsMetIn joined_graph) v.asserted
          (λ lit h. equation_stays lit
          (All-contains (AreSides v.graph v.numbers) v.asserted lit sides h)
          (All-contains (IsMetIn v.graph) v.asserted lit met h))

      pub told_joined : AreNumbersOf v.graph v.numbers → All (AreToldIn v.graph v.numbers) v.told
          → All (AreToldIn joined_graph v.numbers) v.told
      told_joined numbers told = All-weaker (AreToldIn v.graph v.numbers)
          (AreToldIn joined_graph v.numbers)
          (λ pair is. record {
            first = is.first;
            second = is.second;
            together = stays pair.0 pair.1 (number_of_node v numbers pair.0 is.first).0
                (number_of_node v numbers pair.1 is.second).0 is.together;
          }) v.told told

      pub demanded_now : IsGraph v.graph → JoinsDemanded v
          → ArePaired (literals_in v) v.graph.nodes (number_terms v.numbers) (node_term v.graph a)
          (node_term v.graph b) → JoinsDemanded joined_view
      demanded_now graph demanded paired =
          subst (λ literals. IsDemanded literals v.graph.nodes (number_terms v.numbers)
          (class_number merges)) (sym literals_joined)
          (demanded_joined (literals_in v) v.graph.nodes (number_terms v.numbers)
          (number_of v.graph) (class_number merges) a b graph.terms least paired demanded)

      pub exact_now : AdmitsAll v → AdmitsAll joined_view
      exact_now exact x =
          subst (λ items. v.admits x ↔ (NoneNegative x (flat_map asked items)
          × NoneNegative x (flat_map both_gaps (told_in v)))) (sym items_joined) (exact x)

      -- ---- a pair that the theory finds equal

      module _ (Known : ℕ → ℕ → Type 0) (is : IsUnsettled v Known)
          (an : IsNumber v.numbers a) (bn : IsNumber v.numbers b)
          (equal : AreEqualBy v.admits (node_term v.graph a) (node_term v.graph b)) where
        demanded_found : JoinsDemanded joined_view
        demanded_found = demanded_now is.parts.graph is.demanded
            (equal_paired v is.exact is.demanded is.parts.numbers is.parts.told a b an bn equal)

        pub found_open : IsGraph joined_graph → IsMet joined_graph
            → (AreBroken (class_number merges) v.groups → ⊥)
            → (Now : ℕ → ℕ → Type 0) → ((c d : ℕ) → Now c d → JoinedBy Known a b c d)
            → IsUnsettled joined_view Now
        found_open graph met unbroken Now joined = record {
          parts = record {
            sound = is.parts.sound;
            graph = graph;
            met = met;
            sides = All-weaker (AreSides v.graph v.numbers) (AreSides joined_graph v.numbers)
                (λ lit at. record { first = at.first; second = at.second; order = at.order })
                v.asserted is.parts.sides;
            equations = equations_joined is.parts.sides is.parts.equations;
            forbidden = is.parts.forbidden;
            members = is.parts.members;
            unbroken = unbroken;
            numbers = is.parts.numbers;
            told = told_joined is.parts.numbers is.parts.told;
          };
          exact = exact_now is.exact;
          some = is.some;
          demanded = demanded_found;
          known_equal = λ x y xn yn together. known_joined v Known Now a b an bn is.known_equal
              equal joined x y xn yn together;
        }

        pub found_closed : IsGraph joined_graph
            → IsBroken joined_graph ⊎ AreBroken (class_number merges) v.groups
            → HaveNoModel (literals_in joined_view)
        found_closed graph broken =
            broken_no_model joined_view demanded_found graph is.parts.forbidden
            is.parts.members broken
