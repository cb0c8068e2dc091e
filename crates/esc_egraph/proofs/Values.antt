-- Congruent values that meet the equations are one in each class.
use Rattle.std.proofs.Common.{◌≡◌, ℕ, ℤ, pos, negsuc, ◌+◌, ◌<◌, List, inl, inr, length, get_or, map, All, ap, sym, ◌∙◌, arith}
use Rattle.std.proofs.lemmas.List.{get_or-map, length-map, same_lists}
use Rattle.std.proofs.lemmas.List.Elements.{All-get_or}
use Rattle.esc_union.specs.Merges.{SameClass}
use Rattle.esc_nodes.specs.Nodes.{Shape, shape_at, AreTerms}
use Rattle.esc_egraph.specs.Congruence.{IsCongruence, IsLeast, EqualWith, SameAmong}
use Rattle.esc_egraph.specs.Laws.{HasCongruentValues}

-- whole numbers as natural numbers
abbrev code : ℤ → ℕ
code (pos n) = n + n
code (negsuc n) = n + n + 1

code_once : (x y : ℤ) → code x ≡ code y → x ≡ y
code_once (pos m) (pos n) e = let same : m ≡ n = omega (arith, e) in ap pos same
code_once (pos m) (negsuc n) e = absurd (omega (arith, e))
code_once (negsuc m) (pos n) e = absurd (omega (arith, e))
code_once (negsuc m) (negsuc n) e = let same : m ≡ n = omega (arith, e) in ap negsuc same

module _ (nodes : List Shape) (are : AreTerms nodes) (value : ℕ
    → ℤ) (congruent : HasCongruentValues nodes value) where
  -- the classes of nodes with one value
  abbrev by_value : ℕ → ℕ
  by_value k = code (value k)

  same_value : (a b : ℕ) → a < length nodes → b < length nodes → SameClass by_value a b → value a
      ≡ value b
  same_value a b al bl same = code_once (value a) (value b) same

  one_class : (a b : ℕ) → a < length nodes → b < length nodes → value a ≡ value b
      → SameClass by_value a b
  one_class a b al bl same = ap code same

  same_values : (xs ys : List ℕ) → All (λ a. a < length nodes) xs → All (λ a. a < length nodes) ys
      → length xs ≡ length ys →
      ((k : ℕ) → k < length xs → SameClass by_value (get_or xs k 0) (get_or ys k 0)) → map value xs
      ≡ map value ys
  same_values xs ys xs_in ys_in count same =
      same_lists (map value xs) (map value ys) (length-map xs value
      ∙ (count ∙ sym (length-map ys value)))
      (λ k d l.
      let xl : k < length xs = omega (arith, l, length-map xs value) in
      let yl : k < length ys = omega (arith, xl, count) in
      get_or-map value xs k 0 d xl
      ∙ (same_value (get_or xs k 0) (get_or ys k 0)
      (All-get_or (λ a. a < length nodes) xs k 0 xl xs_in)
      (All-get_or (λ a. a < length nodes) ys k 0 yl ys_in) (same k xl)
      ∙ sym (get_or-map value ys k 0 d yl)))

  args_in : (k : ℕ) → k < length nodes → All (λ a. a < length nodes) (shape_at nodes k).args
  args_in k l i d il = omega (arith, l, are.older k l i d il)

  by_value_is_closed : IsCongruence nodes by_value
  by_value_is_closed a b al bl alike =
      one_class a b al bl (congruent a b al bl alike.top
      (same_values (shape_at nodes a).args (shape_at nodes b).args (args_in a al) (args_in b bl)
      alike.args.lengths alike.args.places))

classes_have_one_value : (nodes : List Shape) → AreTerms nodes
    → (Equal : ℕ → ℕ → Type 0) (classes : ℕ → ℕ) → IsLeast nodes Equal classes →
    (value : ℕ → ℤ) → HasCongruentValues nodes value →
    ((a b : ℕ) → a < length nodes → b < length nodes → Equal a b → value a ≡ value b) →
    (a b : ℕ) → a < length nodes → b < length nodes → SameClass classes a b → value a ≡ value b
classes_have_one_value nodes are Equal classes least value congruent equal a b al bl same =
    same_value nodes are value congruent a b al bl
    (least.finest (by_value nodes are value congruent)
    (by_value_is_closed nodes are value congruent)
    (λ x y xl yl e. one_class nodes are value congruent x y xl yl (equal x y xl yl e))
    a b al bl same)

pub equals_have_one_value : (nodes : List Shape) → AreTerms nodes → (old new : ℕ → ℕ) (a b : ℕ)
    → IsLeast nodes (EqualWith old a b) new →
    (value : ℕ → ℤ) → HasCongruentValues nodes value →
    ((x y : ℕ) → x < length nodes → y < length nodes → SameClass old x y → value x ≡ value y)
    → value a ≡ value b →
    (x y : ℕ) → x < length nodes → y < length nodes → SameClass new x y → value x ≡ value y
equals_have_one_value nodes are old new a b least value congruent one pair =
    classes_have_one_value nodes are (EqualWith old a b) new least value congruent
    (λ x y xl yl equal. elim equal [
      | inl same ↦ one x y xl yl same
      | inr same ↦ ap value same.0 ∙ (pair ∙ sym (ap value same.1))
    ])

pub made_have_one_value : (nodes : List Shape) → AreTerms nodes → (old new : ℕ → ℕ) (count : ℕ)
    → IsLeast nodes (SameAmong count old) new →
    (value : ℕ → ℤ) → HasCongruentValues nodes value →
    ((x y : ℕ) → x < count → y < count → SameClass old x y → value x ≡ value y) →
    (x y : ℕ) → x < length nodes → y < length nodes → SameClass new x y → value x ≡ value y
made_have_one_value nodes are old new count least value congruent one =
    classes_have_one_value nodes are (SameAmong count old) new least value congruent
    (λ x y xl yl equal. one x y equal.0 equal.1 equal.2)
