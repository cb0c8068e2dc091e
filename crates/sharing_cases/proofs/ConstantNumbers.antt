-- The arithmetic nodes of a theory of constants, and those of one number.
use Rattle.std.proofs.Common.{◌≡◌, ◌≢◌, ℕ, ◌<◌, [], ◌∷◌, ◌++◌, sym, ap}
use Rattle.std.proofs.Common.{Bool, true≢false, Some, None, Ok, map, ◌∙◌, subst}
use Rattle.std.specs.Prelude.{◌↔◌, IsTrue, MatchOption, Option, is_some}
use Rattle.std.specs.List.{All, Contains}
use Rattle.std.proofs.lemmas.List.{map-append}
use Rattle.std.proofs.lemmas.List.Elements.{All-contains, All-contains_itself}
use Rattle.std.proofs.lemmas.List.Elements.{All-weaker}
use Rattle.esc_term.specs.declared.term.Term.{Term}
use Rattle.esc_frac.specs.Rational.{ℚ}
use Rattle.esc_cover.specs.Assignment.{Assignment}
use Rattle.esc_union.specs.Merges.{SameClass}
use Rattle.esc_egraph.specs.Graph.{Graph, number_of}
use Rattle.esc_sharing.specs.Admitted.{AreEqualBy, ArePartedBy, AreTwoNumbers, NextEnds}
use Rattle.esc_sharing.specs.Nodes.{node_count, node_term}
use Rattle.esc_sharing.specs.Numbers.{AreNumbersOf, IsNumber, with_number}
use Rattle.esc_sharing.proofs.BoundNodes.{with_number_new}
use Rattle.esc_sharing.proofs.Lists.{Contains-map, Contains-of_map}
use Rattle.sharing_cases.specs.ConstantTerms.{AreFoundMissed, AreMissed}
use Rattle.sharing_cases.specs.ConstantTerms.{AreThere, AreWorth, IsFound}
use Rattle.sharing_cases.specs.ConstantTerms.{IsNoNode, IsWorth, NoneIsMissed}
use Rattle.sharing_cases.specs.ConstantTerms.{number_of_constant, numbers_in}
use Rattle.sharing_cases.specs.declared.constants.Constant.{Constant}
use Rattle.sharing_cases.specs.declared.constants.Constants.{Constants}
use Rattle.sharing_cases.proofs.ConstantGaps.{Every, from_same_value, same_value}

-- ---- a constant for each node

pub is_number : (v : Constants) (c : Constant) → Contains v.list c → IsNumber (numbers_in v) c.node
is_number v c h = Contains-map (λ (n : ℕ × Term). n.0) (numbers_in v) (number_of_constant c)
    (Contains-map number_of_constant v.list c h)

pub constant_of : (v : Constants) (a : ℕ) → IsNumber (numbers_in v) a
    → (c : Constant) × Contains v.list c × (c.node ≡ a)
constant_of v a h =
    let number = Contains-of_map (λ (n : ℕ × Term). n.0) (numbers_in v) a h in
    let found = Contains-of_map number_of_constant v.list number.0 number.1 in
    (found.0, found.1, ap (λ (n : ℕ × Term). n.0) found.2 ∙ number.2)

pub no_number : (v : Constants) (a : ℕ) → IsNoNode v.list a
    → IsNumber (numbers_in v) a → ⊥
no_number v a none h =
    let found = constant_of v a h in
    All-contains (λ (c : Constant). c.node ≢ a) v.list found.0 none found.1 found.2

pub found_number : (v : Constants) (a : ℕ) (n : ℚ) → IsFound v.list a n → IsNumber (numbers_in v) a
found_number v a n found = subst (IsNumber (numbers_in v)) found.node
    (is_number v found.constant found.among)

-- ---- in a graph

module _ (v : Constants) (g : Graph) (are : AreNumbersOf g (numbers_in v)) where
  both_of : (c : Constant) → Contains v.list c
      → (c.node < node_count g) × (node_term g c.node ≡ c.term)
  both_of c h = All-contains
      (λ (n : ℕ × Term). (n.0 < node_count g) × (node_term g n.0 ≡ n.1)) (numbers_in v)
      (number_of_constant c) are (Contains-map number_of_constant v.list c h)

  pub are_there : AreThere g v.list
  are_there = All-weaker (Contains v.list) (λ (c : Constant). c.node < node_count g)
      (λ c h. (both_of c h).0) v.list (All-contains_itself v.list)

  module _ (worth : AreWorth v) where
    pub worth_at : (c : Constant) (a : ℕ) → Contains v.list c → c.node ≡ a
        → IsWorth (node_term g a) c.value.num
    worth_at c a h e = subst (λ b. IsWorth (node_term g b) c.value.num) e
        (subst (λ t. IsWorth t c.value.num) (sym (both_of c h).1)
        (All-contains (λ (d : Constant). IsWorth d.term d.value.num) v.list c worth h))

    pub found_worth : (a : ℕ) (n : ℚ) → IsFound v.list a n → IsWorth (node_term g a) n.num
    found_worth a n found = subst (λ (q : ℚ). IsWorth (node_term g a) q.num) found.value
        (worth_at found.constant a found.among found.node)

    -- ---- two of one number

    pub missed_are_two : (pair : ℕ × ℕ) → AreFoundMissed g v.list pair
        → AreTwoNumbers g (numbers_in v) pair.0 pair.1
        × AreEqualBy Every (node_term g pair.0) (node_term g pair.1)
    missed_are_two pair found =
        let first = found.first in
        let other = found.other.other in (
          record {
            first = subst (IsNumber (numbers_in v)) found.node (is_number v first found.among);
            second = subst (IsNumber (numbers_in v)) found.other.node
                (is_number v other found.other.among);
            different = λ same. found.other.missed.different
                (subst (λ b. SameClass (number_of g) first.node b) (sym found.other.node)
                (subst (λ a. SameClass (number_of g) a pair.1) (sym found.node) same));
          },
          λ x old. same_value (node_term g pair.0) (node_term g pair.1) first.value.num
              other.value.num
              (worth_at first pair.0 found.among found.node)
              (worth_at other pair.1 found.other.among found.other.node)
              found.other.missed.value x,
        )

    pub none_missed : All (NoneIsMissed g v.list) v.list → (x : Assignment) → (a b : ℕ)
        → AreTwoNumbers g (numbers_in v) a b → ArePartedBy Every (node_term g a) (node_term g b)
    none_missed none x a b two =
        let first = constant_of v a two.first in
        let other = constant_of v b two.second in (
          x,
          tt,
          λ e. All-contains (λ d. AreMissed g first.0 d → ⊥) v.list other.0
              (All-contains (NoneIsMissed g v.list) v.list first.0 none first.1) other.1 (record {
                value = from_same_value (node_term g a) (node_term g b) first.0.value.num
                    other.0.value.num
                    (worth_at first.0 a first.1 first.2) (worth_at other.0 b other.1 other.2) x e;
                different = λ same. two.different (subst (λ c. SameClass (number_of g) a c) other.2
                    (subst (λ c. SameClass (number_of g) c other.0.node) first.2 same));
              }),
        )

-- ---- what calls answer

module _ (v : Constants) where
  pub has_when : (a : ℕ) (o : Option ℚ) → MatchOption o (IsNoNode v.list a) (IsFound v.list a)
      → (b : Bool) → b ≡ is_some o → IsTrue b ↔ IsNumber (numbers_in v) a
  has_when a (Some n) found b is = ((λ h. found_number v a n found), (λ h. is))
  has_when a None none b is = (
    λ h. absurd (true≢false (sym h ∙ is)),
    λ h. absurd (no_number v a none h),
  )

  pub numbers_pushed : (a : ℕ) (t : Term) (n : ℚ) → (IsNumber (numbers_in v) a → ⊥)
      → map number_of_constant (v.list ++ record { node = a; term = t; value = n } ∷ [])
      ≡ with_number (numbers_in v) a t
  numbers_pushed a t n none =
      map-append number_of_constant v.list (record { node = a; term = t; value = n } ∷ [])
      ∙ sym (with_number_new (numbers_in v) a t none)

  pub next_ends : (g : Graph) → AreNumbersOf g (numbers_in v) → AreWorth v → Assignment
      → (o : Option (ℕ × ℕ))
      → MatchOption o (All (NoneIsMissed g v.list) v.list) (AreFoundMissed g v.list)
      → NextEnds g (numbers_in v) Every (Ok o)
  next_ends g are worth x None none = none_missed v g are worth none x
  next_ends g are worth x (Some pair) found = missed_are_two v g are worth pair found
