-- A term came in play, and nothing became arithmetic yet: all promises still hold.
use Rattle.std.proofs.Common.{◌≡◌, ℕ, ◌<◌, Bool, true, false, List, [], ◌∷◌, ◌++◌, map, refl, ap}
use Rattle.std.proofs.Common.{ap₂, sym, subst, ◌∙◌, arith, suc}
use Rattle.std.specs.Prelude.{◌↔◌}
use Rattle.std.specs.List.{All, Contains, flat_map}
use Rattle.std.proofs.lemmas.List.Elements.{All-weaker}
use Rattle.esc_term.specs.declared.term.Term.{Term}
use Rattle.esc_term.specs.declared.formula.Item.{Item}
use Rattle.esc_cover.specs.Assignment.{NoneNegative, asked, value}
use Rattle.esc_term.specs.declared.formula.Formula.TheVariants.{Distinct}
use Rattle.esc_cover.specs.Least.{IsCongruent}
use Rattle.esc_union.specs.Merges.{SameClass}
use Rattle.esc_nodes.specs.Terms.{terms_of}
use Rattle.esc_egraph.specs.Congruence.{SameAmong}
use Rattle.esc_egraph.specs.Graph.{Graph, number_of}
use Rattle.esc_distinct.specs.Groups.{AreBroken}
use Rattle.esc_node_terms.proofs.Finest.{finest_of}
use Rattle.esc_node_terms.proofs.Places.{Contains-term_of, node_of_term}
use Rattle.esc_sharing.specs.AddingInside.{IsGrown}
use Rattle.esc_sharing.specs.Admitted.{both_gaps}
use Rattle.esc_sharing.specs.Literals.{AreSides, group_item, item_of}
use Rattle.esc_sharing.specs.Literals.{equality, order}
use Rattle.esc_sharing.specs.Nodes.{node_count, node_term}
use Rattle.esc_sharing.specs.Numbers.{IsNumber, number_terms}
use Rattle.esc_sharing.specs.SettlingInside.{IsDemanded, JoinsDemanded}
use Rattle.esc_sharing.specs.Shared.{AreParts, AreToldIn, IsMetIn, IsShared, Shared, items_in}
use Rattle.esc_sharing.specs.Shared.{literals_in, told_in}
use Rattle.esc_sharing.specs.declared.literal.Lit.{Lit}
use Rattle.esc_sharing.specs.declared.literal.Lit.TheVariants.{Equal, Apart, Below, AtMost}
use Rattle.esc_sharing.proofs.Demanded.{congruent_without}
use Rattle.esc_sharing.proofs.Gathered.{terms_kept}
use Rattle.esc_sharing.proofs.Growing.{longer, term_stays}
use Rattle.esc_sharing.proofs.Least.{demanded_by_least, number_of_node}
use Rattle.esc_sharing.proofs.Whole.{settled}

map_alike : {X Y : Type 0} (P : X → Type 0) (f h : X → Y) → ((x : X) → P x → f x ≡ h x)
    → (xs : List X) → All P xs → map f xs ≡ map h xs
map_alike P f h alike [] all = refl
map_alike P f h alike (x ∷ xs) all =
    ap₂ (λ y ys. y ∷ ys) (alike x (all 0 x (omega arith)))
    (map_alike P f h alike xs (λ k d l. all (suc k) d (omega (arith, l))))

module _ (old new : Graph) (grown : IsGrown old new) where
  there : (a : ℕ) → a < node_count old → a < node_count new
  there = longer old new grown.nodes.0 grown.nodes.1

  stays : (a : ℕ) → a < node_count old → node_term new a ≡ node_term old a
  stays = term_stays old new grown.nodes.0 grown.nodes.1

  item_stays : (numbers : List (ℕ × Term)) (lit : Lit) → AreSides old numbers lit
      → item_of new lit ≡ item_of old lit
  item_stays numbers (Equal a b) sides = ap₂ (λ s t. equality s t true) (stays a sides.first)
      (stays b sides.second)
  item_stays numbers (Apart a b) sides = ap₂ (λ s t. equality s t false) (stays a sides.first)
      (stays b sides.second)
  item_stays numbers (Below a b) sides = ap₂ (λ s t. order s t true) (stays a sides.first)
      (stays b sides.second)
  item_stays numbers (AtMost a b) sides = ap₂ (λ s t. order t s false) (stays a sides.first)
      (stays b sides.second)

  group_stays : (group : List ℕ) → All (λ a. a < node_count old) group
      → group_item new group ≡ group_item old group
  group_stays group within =
      ap (λ ts. group_of ts) (terms_kept old new grown group within)
    where
      group_of : List Term → Item
      group_of ts = record { formula = Distinct ts; positive = true }

  met_stays : (numbers : List (ℕ × Term)) (lit : Lit) → AreSides old numbers lit
      → IsMetIn old lit → IsMetIn new lit
  met_stays numbers (Equal a b) sides met =
      grown.least.meets a b (there a sides.first) (there b sides.second)
      (sides.first, sides.second, met)
  met_stays numbers (Apart a b) sides met = tt
  met_stays numbers (Below a b) sides met = tt
  met_stays numbers (AtMost a b) sides met = tt

module _ (v : Shared) (is : IsShared v) (g : Graph) (grown : IsGrown v.graph g) where
  abbrev pub grown_view : Shared
  grown_view = record v { graph = g }

  pub items_grown : items_in grown_view ≡ items_in v
  items_grown = map_alike (AreSides v.graph v.numbers) (item_of g) (item_of v.graph)
      (item_stays v.graph g grown v.numbers) v.asserted is.parts.sides

  pub literals_grown : literals_in grown_view ≡ literals_in v
  literals_grown = ap₂ (λ items groups. items ++ groups) items_grown
      (map_alike (All (λ a. a < node_count v.graph)) (group_item g) (group_item v.graph)
      (group_stays v.graph g grown) v.groups is.parts.members)

  number_there : (a : ℕ) → IsNumber v.numbers a → a < node_count v.graph
  number_there a h = (number_of_node v is.parts.numbers a h).0

  told_grown : told_in grown_view ≡ told_in v
  told_grown = map_alike (AreToldIn v.graph v.numbers)
      (λ (p : ℕ × ℕ). (node_term g p.0, node_term g p.1))
      (λ p. (node_term v.graph p.0, node_term v.graph p.1))
      (λ p h. ap₂ (λ s t. let q : Term × Term = (s, t) in q)
      (stays v.graph g grown p.0 (number_there p.0 h.first))
      (stays v.graph g grown p.1 (number_there p.1 h.second))) v.told is.parts.told

  -- classes of nodes that there were are as they were
  same_now : (a b : ℕ) → a < node_count v.graph → b < node_count v.graph
      → SameClass (number_of v.graph) a b → SameClass (number_of g) a b
  same_now a b al bl same = grown.least.meets a b (there v.graph g grown a al)
      (there v.graph g grown b bl) (al, bl, same)

  unbroken_still : AreBroken (number_of g) v.groups → ⊥
  unbroken_still (k, group, l, at, (i, il, (j, jl, other, same))) =
      let within : All (λ a. a < node_count v.graph) group =
      subst (All (λ a. a < node_count v.graph)) at (is.parts.members k group l) in
      is.parts.unbroken (
        k,
        group,
        l,
        at,
        (
          i,
          il,
          (
            j,
            jl,
            other,
            grown.kept _ _ (within j 0 jl) (within i 0 il) same,
          ),
        ),
      )

  parts_grown : AreParts grown_view
  parts_grown = record {
    sound = is.parts.sound;
    graph = grown.graph;
    met = grown.met;
    sides = All-weaker (AreSides v.graph v.numbers) (AreSides g v.numbers)
        (λ lit at. record {
          first = there v.graph g grown _ at.first;
          second = there v.graph g grown _ at.second;
          order = at.order;
        }) v.asserted is.parts.sides;
    equations = λ k d l. met_stays v.graph g grown v.numbers _ (is.parts.sides k d l)
        (is.parts.equations k d l);
    forbidden = grown.forbidden ∙ is.parts.forbidden;
    members = All-weaker (All (λ a. a < node_count v.graph)) (All (λ a. a < node_count g))
        (λ group within k d l. there v.graph g grown _ (within k d l)) v.groups is.parts.members;
    unbroken = unbroken_still;
    numbers = All-weaker (λ (n : ℕ × Term). (n.0 < node_count v.graph)
        × (node_term v.graph n.0 ≡ n.1)) (λ n. (n.0 < node_count g) × (node_term g n.0 ≡ n.1))
        (λ n at. (there v.graph g grown n.0 at.0, stays v.graph g grown n.0 at.0 ∙ at.1))
        v.numbers is.parts.numbers;
    told = All-weaker (AreToldIn v.graph v.numbers) (AreToldIn g v.numbers)
        (λ pair at. record {
          first = at.first;
          second = at.second;
          together = same_now pair.0 pair.1 (number_there pair.0 at.first)
              (number_there pair.1 at.second) at.together;
        }) v.told is.parts.told;
  }

  -- a test that is congruent among more terms is so among fewer
  congruent_before : (other : Term → Term → Bool) (literals : List Item)
      → IsCongruent other
      (record { terms = terms_of g.nodes; numbers = number_terms v.numbers }) literals
      → IsCongruent other
      (record { terms = terms_of v.graph.nodes; numbers = number_terms v.numbers }) literals
  congruent_before other literals congruent = record {
    equivalence = congruent.equivalence;
    congruence = λ head ss ts hs ht. congruent.congruence head ss ts (term_now _ hs)
        (term_now _ ht);
    equations = congruent.equations;
    values = congruent.values;
  }
    where
      term_now : (t : Term) → Contains (terms_of v.graph.nodes) t → Contains (terms_of g.nodes) t
      term_now t h =
          let at = node_of_term v.graph.nodes t h in
          subst (Contains (terms_of g.nodes)) (stays v.graph g grown at.0 at.1 ∙ at.2)
          (Contains-term_of g.nodes at.0 (there v.graph g grown at.0 at.1))

  demanded_grown : JoinsDemanded grown_view
  demanded_grown =
      subst (λ literals. IsDemanded literals g.nodes (number_terms v.numbers) (number_of g))
      (sym literals_grown)
      (λ other congruent.
      finest_of g.nodes grown.graph.terms other (literals_in v)
      (congruent_without other
      (record { terms = terms_of g.nodes; numbers = number_terms v.numbers }) (literals_in v)
      congruent) (SameAmong (node_count v.graph) (number_of v.graph)) (number_of g) grown.least
      (λ x y xl yl same.
      ap₂ (λ s t. other s t) (stays v.graph g grown x same.0) (stays v.graph g grown y same.1)
      ∙ demanded_by_least v is.parts.graph is.least other
      (congruent_before other (literals_in v) congruent) x y same.0 same.1 same.2))

  one_value : (x : _) → v.admits x → (a b : ℕ) → IsNumber v.numbers a → IsNumber v.numbers b
      → SameClass (number_of g) a b → value x (node_term g a) ≡ value x (node_term g b)
  one_value x admitted a b an bn same =
      let al = number_there a an in
      let bl = number_there b bn in
      ap (value x) (stays v.graph g grown a al)
      ∙ (is.agree.one_value x admitted a b an bn (grown.kept a b al bl same)
      ∙ ap (value x) (sym (stays v.graph g grown b bl)))

  pub grown_shared : IsShared grown_view
  grown_shared =
      settled grown_view (SameClass (number_of g)) (record {
        parts = parts_grown;
        exact = λ x. subst (λ items. v.admits x ↔ (NoneNegative x (flat_map asked items)
            × NoneNegative x (flat_map both_gaps (told_in grown_view)))) (sym items_grown)
            (subst (λ told. v.admits x ↔ (NoneNegative x (flat_map asked (items_in v))
            × NoneNegative x (flat_map both_gaps told))) (sym told_grown) (is.exact x));
        some = is.some;
        demanded = demanded_grown;
        known_equal = λ a b an bn same x admitted. one_value x admitted a b an bn same;
      }) one_value (λ a b two.
      let al = number_there a two.first in
      let bl = number_there b two.second in
      let parted = is.agree.parted a b (record {
        first = two.first;
        second = two.second;
        different = λ same. two.different (same_now a b al bl same);
      }) in (
        parted.0,
        parted.1,
        λ e. parted.2 (ap (value parted.0) (sym (stays v.graph g grown a al))
            ∙ (e ∙ ap (value parted.0) (stays v.graph g grown b bl))),
      ))
