-- A sharing starts with one node, and nothing that was asserted or told.
use Rattle.std.proofs.Common.{◌≡◌, ℕ, ◌<◌, ◌⊎◌, inl, inr, List, [], ◌∷◌, ◌++◌, length, map}
use Rattle.std.proofs.Common.{ap}
use Rattle.std.proofs.Common.{sym, subst, ◌∙◌, arith, true, pos, ◌≤ℤ◌}
use Rattle.std.specs.List.{All, Contains, flat_map}
use Rattle.esc_term.specs.declared.term.Term.{Term}
use Rattle.esc_term.proofs.Members.{Contains-none}
use Rattle.esc_cover.specs.Assignment.{Assignment, NoneNegative, asked, gap_value}
use Rattle.esc_nodes.specs.Nodes.{Shape}
use Rattle.esc_nodes.specs.Terms.{at_place, built, terms_of}
use Rattle.esc_union.specs.Merges.{SameClass}
use Rattle.esc_egraph.specs.Congruence.{IsKnown, IsMade, IsMet}
use Rattle.esc_egraph.specs.Graph.{Graph, IsGraph, number_of}
use Rattle.esc_node_terms.proofs.Places.{length-terms_of}
use Rattle.esc_sharing.specs.Admitted.{both_gaps}
use Rattle.esc_sharing.specs.Literals.{AreSides, item_of}
use Rattle.esc_sharing.specs.Nodes.{node_term, terms_in}
use Rattle.esc_sharing.specs.Numbers.{IsNumber, nodes_of}
use Rattle.esc_sharing.specs.SettlingInside.{IsUnsettled}
use Rattle.esc_sharing.specs.Shared.{AreToldIn, IsMetIn, IsShared, Shared, denied_pair, items_in}
use Rattle.esc_sharing.specs.Shared.{told_in}
use Rattle.esc_sharing.proofs.Whole.{settled}

-- ---- the first node

pub first_term : (old new : Graph) (s : Shape) (node : ℕ)
    → old ≡ record { nodes = []; merges = []; forbidden = [] }
    → IsKnown old new s node ⊎ IsMade old new s node
    → terms_of new.nodes ≡ built (at_place []) s.top s.args ∷ []
unfolding terms_of
first_term old new s node empty (inl known) =
    absurd (omega (arith, known.there, ap (λ (g : Graph). length g.nodes) empty))
first_term old new s node empty (inr made) =
    ap terms_of made.nodes
    ∙ ap (λ (g : Graph). terms_of (g.nodes ++ (s ∷ []))) empty

pub none_forbidden : (old new : Graph) (s : Shape) (node : ℕ)
    → old ≡ record { nodes = []; merges = []; forbidden = [] }
    → IsKnown old new s node ⊎ IsMade old new s node → new.forbidden ≡ []
none_forbidden old new s node empty (inl known) =
    ap (λ (g : Graph). g.forbidden) (known.same ∙ empty)
none_forbidden old new s node empty (inr made) =
    made.forbidden ∙ ap (λ (g : Graph). g.forbidden) empty

-- ---- nothing else

All-none : {X : Type 0} (P : X → Type 0) (xs : List X) → xs ≡ [] → All P xs
All-none P xs none k d l = absurd (omega (arith, l, ap length none))

module _ (v : Shared) (truth : Term) (graph : IsGraph v.graph) (met : IsMet v.graph)
    (terms : terms_in v.graph ≡ truth ∷ []) (forbidden : v.graph.forbidden ≡ [])
    (groups : v.groups ≡ []) (asserted : v.asserted ≡ []) (told : v.told ≡ [])
    (numbers : v.numbers ≡ []) (admits : (x : Assignment) → v.admits x) (sound : v.sound) where
  no_number : (a : ℕ) → IsNumber v.numbers a → ⊥
  no_number a h =
      Contains-none a (subst (λ ns. Contains (nodes_of ns) a) numbers h)

  one_node : (a b : ℕ) → a < length v.graph.nodes → b < length v.graph.nodes → a ≡ b
  one_node a b al bl =
      let count = ap length terms in
      omega (arith, al, bl, count, length-terms_of v.graph.nodes)

  none_asked : (x : Assignment) → NoneNegative x (flat_map asked (items_in v))
  none_asked x = All-none (λ g. pos 0 ≤ℤ gap_value x g) (flat_map asked (items_in v))
      (ap (λ lits. flat_map asked (map (item_of v.graph) lits)) asserted)

  none_told : (x : Assignment) → NoneNegative x (flat_map both_gaps (told_in v))
  none_told x = All-none (λ g. pos 0 ≤ℤ gap_value x g) (flat_map both_gaps (told_in v))
      (ap (λ pairs. flat_map both_gaps (map (λ (pair : ℕ × ℕ).
      (node_term v.graph pair.0, node_term v.graph pair.1)) pairs)) told)

  at_start : (x : Assignment) → IsUnsettled v (SameClass (number_of v.graph))
  at_start x = record {
    parts = record {
      sound = sound;
      graph = graph;
      met = met;
      sides = All-none (AreSides v.graph v.numbers) v.asserted asserted;
      equations = All-none (IsMetIn v.graph) v.asserted asserted;
      forbidden = forbidden ∙ sym (ap (flat_map denied_pair) asserted);
      members = All-none (All (λ a. a < length v.graph.nodes)) v.groups groups;
      unbroken = λ broken. omega (arith, broken.2, ap length groups);
      numbers = All-none (λ (number : ℕ × Term). (number.0 < length v.graph.nodes)
          × (node_term v.graph number.0 ≡ number.1)) v.numbers numbers;
      told = All-none (AreToldIn v.graph v.numbers) v.told told;
    };
    exact = λ y. ((λ a. (none_asked y, none_told y)), (λ a. admits y));
    some = (x, admits x);
    demanded = λ other is a b al bl same.
        subst (λ n. other (node_term v.graph a) (node_term v.graph n) ≡ true) (one_node a b al bl)
        (is.equivalence.refl (node_term v.graph a));
    known_equal = λ a b an bn same. absurd (no_number a an);
  }

  pub starts : Assignment → IsShared v
  starts x =
      settled v (SameClass (number_of v.graph)) (at_start x)
      (λ y admitted a b an bn same. absurd (no_number a an))
      (λ a b two. absurd (no_number a two.first))
