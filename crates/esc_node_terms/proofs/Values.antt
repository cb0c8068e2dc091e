-- The values of nodes in a model of the literals: no class holds what the literals keep apart.
use Rattle.std.proofs.Common.{◌≡◌, ℕ, ℤ, pos, ◌<◌, true, inl, inr, List, length, get_or, map, refl}
use Rattle.std.proofs.Common.{ap, sym, ◌∙◌, arith}
use Rattle.std.specs.List.{All, Contains}
use Rattle.std.specs.Ordering.{int_eq}
use Rattle.std.proofs.lemmas.Bool.Decides.{Decides-int_eq}
use Rattle.std.proofs.lemmas.List.{get_or-map, length-map}
use Rattle.std.proofs.lemmas.List.Elements.{All-contains}
use Rattle.esc_term.specs.declared.term.Term.{Term}
use Rattle.esc_term.specs.declared.formula.Item.{Item}
use Rattle.esc_term.specs.Interpretation.{all_apart}
use Rattle.esc_term.specs.Model.{Model, applied, read_in, value_in}
use Rattle.esc_term.proofs.Models.{value_in-App, value_in-Num}
use Rattle.esc_term.proofs.Pairs.{map-map}
use Rattle.esc_term.proofs.TruthLevels.{truth-Distinct, truth-Eq}
use Rattle.esc_union.specs.Merges.{SameClass}
use Rattle.esc_cover.specs.Laws.{HoldsIn}
use Rattle.esc_cover.proofs.TestLemmas.{not_both}
use Rattle.esc_nodes.specs.Nodes.{AreTerms, Shape, shape_at}
use Rattle.esc_nodes.specs.Terms.{built, term_of}
use Rattle.esc_nodes.specs.declared.top.Top.{Top}
use Rattle.esc_nodes.specs.declared.top.Top.TheVariants.{Num, App}
use Rattle.esc_nodes.proofs.NodeTerms.{terms_are_built}
use Rattle.esc_egraph.specs.Congruence.{AreUnequalNumerals, IsBroken}
use Rattle.esc_egraph.specs.Laws.{HasCongruentValues}
use Rattle.esc_egraph.specs.Graph.{Graph, number_of}
use Rattle.esc_distinct.specs.Groups.{AreBroken, HoldsTwice}
use Rattle.esc_node_terms.specs.LiteralForms.{AreKept, denied, equated, told_apart}
use Rattle.esc_node_terms.specs.Nodes.{node_count, node_term}
use Rattle.esc_node_terms.proofs.TwoPlaces.{apart_at}

-- the value of each node's term
abbrev pub value_at : Model → List Shape → ℕ → ℤ
value_at M nodes n = value_in M (term_of nodes n)

-- nodes of one class have one value
abbrev pub HaveOneValue : Model → List Shape → (ℕ → ℕ) → Type 0
HaveOneValue M nodes number = (x y : ℕ) → x < length nodes → y < length nodes →
    SameClass number x y → value_at M nodes x ≡ value_at M nodes y

built_values : (M : Model) (of : ℕ → Term) (top : Top) (xs ys : List ℕ) →
    map (λ n. value_in M (of n)) xs ≡ map (λ n. value_in M (of n)) ys →
    value_in M (built of top xs) ≡ value_in M (built of top ys)
built_values M of (Num n) xs ys e = refl
built_values M of (App head) xs ys e =
    value_in-App M head (map of xs)
    ∙ (ap (applied M head) (map-map of (value_in M) xs ∙ (e ∙ sym (map-map of (value_in M) ys)))
    ∙ sym (value_in-App M head (map of ys)))

pub values_are_congruent : (M : Model) (nodes : List Shape) → AreTerms nodes →
    HasCongruentValues nodes (value_at M nodes)
values_are_congruent M nodes are a b al bl tops args =
    ap (value_in M) (terms_are_built nodes are a al)
    ∙ (built_values M (term_of nodes) (shape_at nodes a).top (shape_at nodes a).args
    (shape_at nodes b).args args
    ∙ (ap (λ top. value_in M (built (term_of nodes) top (shape_at nodes b).args)) tops
    ∙ ap (value_in M) (sym (terms_are_built nodes are b bl))))

numerals_differ : (M : Model) (of : ℕ → Term) (t u : Top) (xs ys : List ℕ) →
    AreUnequalNumerals t u → value_in M (built of t xs) ≡ value_in M (built of u ys) → ⊥
numerals_differ M of (Num m) (Num n) xs ys apart e =
    apart (sym (value_in-Num M m) ∙ (e ∙ value_in-Num M n))
numerals_differ M of (Num m) (App f) xs ys apart e = apart
numerals_differ M of (App f) u xs ys apart e = apart

-- the sides of an equation that holds have one value
pub values_equal : (M : Model) (s t : Term) → HoldsIn M (equated s t) → value_in M s ≡ value_in M t
values_equal M s t holds = (Decides-int_eq (value_in M s) (value_in M t)).0
    (sym (truth-Eq (read_in M) s t) ∙ holds)

values_differ : (M : Model) (s t : Term) → HoldsIn M (denied s t) → value_in M s ≡ value_in M t → ⊥
values_differ M s t fails e =
    not_both (int_eq (value_in M s) (value_in M t))
    ((Decides-int_eq (value_in M s) (value_in M t)).1 e) (sym (truth-Eq (read_in M) s t) ∙ fails)

module _ (g : Graph) (groups : List (List ℕ)) (literals : List Item)
    (kept : AreKept g groups literals) (M : Model) (holds : All (HoldsIn M) literals)
    (one : HaveOneValue M g.nodes (number_of g)) where
  pub not_broken : IsBroken g → ⊥
  not_broken (inl pair) =
      let there = All-contains
      (λ (p : ℕ × ℕ). (p.0 < node_count g) × (p.1 < node_count g))
      g.forbidden pair.1 kept.graph.paired (pair.0, pair.2, pair.3) in
      let literal : Contains literals (denied (node_term g pair.1.0) (node_term g pair.1.1)) =
      All-contains
      (λ (p : ℕ × ℕ). Contains literals (denied (node_term g p.0) (node_term g p.1)))
      g.forbidden pair.1 kept.pairs_are (pair.0, pair.2, pair.3) in
      values_differ M (node_term g pair.1.0) (node_term g pair.1.1)
      (All-contains (HoldsIn M) literals
      (denied (node_term g pair.1.0) (node_term g pair.1.1)) holds literal)
      (one pair.1.0 pair.1.1 there.0 there.1 pair.4)
  not_broken (inr clash) =
      let nodes = g.nodes in
      let x = clash.0 in
      let y = clash.2.0 in
      numerals_differ M (term_of nodes) (shape_at nodes x).top (shape_at nodes y).top
      (shape_at nodes x).args (shape_at nodes y).args clash.2.3
      (ap (value_in M) (sym (terms_are_built nodes kept.graph.terms x clash.1))
      ∙ (one x y clash.1 clash.2.1 clash.2.2
      ∙ ap (value_in M) (terms_are_built nodes kept.graph.terms y clash.2.1)))

  twice : (group : List ℕ) → All (λ n. n < node_count g) group →
      all_apart (map (value_at M g.nodes) group) ≡ true →
      HoldsTwice (number_of g) group → ⊥
  twice group within apart (i, il, (j, jl, other, same)) =
      let count : length (map (value_at M g.nodes) group) ≡ length group =
      length-map group (value_at M g.nodes) in
      apart_at (map (value_at M g.nodes) group) apart (pos 0) i j (omega (arith, il, count))
      (omega (arith, jl, count)) other
      (get_or-map (value_at M g.nodes) group i 0 (pos 0) il
      ∙ (sym (one (get_or group j 0) (get_or group i 0) (within j 0 jl) (within i 0 il) same)
      ∙ sym (get_or-map (value_at M g.nodes) group j 0 (pos 0) jl)))

  pub not_twice : AreBroken (number_of g) groups → ⊥
  not_twice found =
      let group = found.1 in
      let within : All (λ n. n < node_count g) group =
      All-contains (All (λ n. n < node_count g)) groups group kept.members
      (found.0, found.2, found.3) in
      let literal : Contains literals (told_apart (map (node_term g) group)) =
      All-contains (λ (ns : List ℕ). Contains literals (told_apart (map (node_term g) ns))) groups
      group kept.groups_are (found.0, found.2, found.3) in
      let apart : all_apart (map (value_in M) (map (node_term g) group)) ≡ true =
      sym (truth-Distinct (read_in M) (map (node_term g) group))
      ∙ All-contains (HoldsIn M) literals
      (told_apart (map (node_term g) group)) holds literal in
      twice group within (ap all_apart (sym (map-map (node_term g) (value_in M) group))
      ∙ apart) found.4
