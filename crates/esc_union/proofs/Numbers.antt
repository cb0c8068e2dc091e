-- Laws of class numbers.
use Rattle.std.proofs.Common.{◌≡◌, ◌≢◌, ℕ, ◌<◌, ◌≤◌, List, [], ◌∷◌, ◌++◌, inl, inr, All, refl, ap, sym, subst, ◌∙◌, append_assoc, arith}
use Rattle.std.proofs.lemmas.Bool.{cases_eq}
use Rattle.std.proofs.lemmas.Bool.Decides.{nat_tests}
use Rattle.std.proofs.lemmas.List.Elements.{All-append, All-weaker}
use Rattle.std.proofs.lemmas.List.{append-nil}
use Rattle.std.proofs.lemmas.List.Sums.{fold-append}
use Rattle.esc_union.specs.Merges.{SameClass, moved, with_merge, class_number}
use Rattle.esc_union.proofs.Ends.{by_ends, All-front, All-last, All-one}

pub moved_at : (from into class : ℕ) → class ≡ from → moved from into class ≡ into
moved_at from into class e = grind (arith, nat_tests)

pub moved_other : (from into class : ℕ) → class ≢ from → moved from into class ≡ class
moved_other from into class ne = grind (arith, nat_tests)

pub class_number-none : (k : ℕ) → class_number [] k ≡ k
unfolding class_number
class_number-none k = refl

pub class_number-more : (ms : List (ℕ × ℕ)) (m : ℕ × ℕ) (k : ℕ) →
    class_number (ms ++ (m ∷ [])) k ≡ moved (class_number ms m.0) (class_number ms m.1)
    (class_number ms k)
unfolding class_number
class_number-more ms m k = ap (λ (f : ℕ → ℕ). f k) (fold-append with_merge (λ k. k) ms (m ∷ []))

-- a pair of nodes of one class stays one
pub same_more : (ms : List (ℕ × ℕ)) (m : ℕ × ℕ) (a b : ℕ) → SameClass (class_number ms) a b
    → SameClass (class_number (ms ++ (m ∷ []))) a b
same_more ms m a b e =
    class_number-more ms m a ∙ (ap (moved (class_number ms m.0) (class_number ms m.1)) e
    ∙ sym (class_number-more ms m b))

pub pair_joined : (ms : List (ℕ × ℕ)) (m : ℕ × ℕ) → SameClass
    (class_number (ms ++ (m ∷ []))) m.0 m.1
pair_joined ms m =
    let s : ℕ = class_number ms m.0 in
    let r : ℕ = class_number ms m.1 in
    let stays : moved s r r ≡ r = (elim (cases_eq r s)
    [ inl e ↦ moved_at s r r e | inr ne ↦ moved_other s r r ne ]) in
    class_number-more ms m m.0 ∙ (moved_at s r s refl
    ∙ (sym stays ∙ sym (class_number-more ms m m.1)))

pub classes_grow : (ms more : List (ℕ × ℕ)) (a b : ℕ) → SameClass (class_number ms) a b
    → SameClass (class_number (ms ++ more)) a b
classes_grow ms more a b same =
    by_ends (λ xs. SameClass (class_number (ms ++ xs)) a b)
    (subst (λ xs. SameClass (class_number xs) a b) (sym (append-nil ms)) same)
    (λ xs m e. subst (λ ys. SameClass (class_number ys) a b) (append_assoc ms xs (m ∷ []))
    (same_more (ms ++ xs) m a b e))
    more

pub merges_are_met : (ms : List (ℕ × ℕ)) → All (λ m. SameClass (class_number ms) m.0 m.1) ms
merges_are_met =
    by_ends (λ ms. All (λ (m : ℕ × ℕ). SameClass (class_number ms) m.0 m.1) ms)
    (λ i d l. absurd (omega (arith, l)))
    (λ ms m all. All-append (λ (n : ℕ × ℕ). SameClass (class_number (ms ++ (m ∷ []))) n.0 n.1) ms
    (m ∷ [])
    (All-weaker (λ (n : ℕ × ℕ). SameClass (class_number ms) n.0 n.1)
    (λ n. SameClass (class_number (ms ++ (m ∷ []))) n.0 n.1)
    (λ n e. same_more ms m n.0 n.1 e) ms all)
    (All-one (λ (n : ℕ × ℕ). SameClass (class_number (ms ++ (m ∷ []))) n.0 n.1) m
    (pair_joined ms m)))

-- each node has the label of its class
labelled : (label : ℕ → ℕ) (ms : List (ℕ × ℕ)) → All (λ m. label m.0 ≡ label m.1) ms → (k : ℕ)
    → label (class_number ms k) ≡ label k
labelled label =
    by_ends (λ ms. All (λ (m : ℕ × ℕ). label m.0 ≡ label m.1) ms → (k : ℕ)
    → label (class_number ms k) ≡ label k)
    (λ all k. ap label (class_number-none k))
    (λ ms m before all k.
    let old : (j : ℕ) → label (class_number ms j) ≡ label j = before
    (All-front (λ (n : ℕ × ℕ). label n.0 ≡ label n.1) ms m all) in
    let s : ℕ = class_number ms m.0 in
    let r : ℕ = class_number ms m.1 in
    ap label (class_number-more ms m k)
    ∙ elim (cases_eq (class_number ms k) s) [
      | inl e ↦ ap label (moved_at s r _ e) ∙ (old m.1
          ∙ (sym (All-last (λ (n : ℕ × ℕ). label n.0 ≡ label n.1) ms m all)
          ∙ (sym (old m.0) ∙ (ap label (sym e) ∙ old k))))
      | inr ne ↦ ap label (moved_other s r _ ne) ∙ old k
    ])

pub classes_are_finest : (ms : List (ℕ × ℕ)) (label : ℕ → ℕ) → All (λ m. label m.0 ≡ label m.1) ms →
    (a b : ℕ) → SameClass (class_number ms) a b → label a ≡ label b
classes_are_finest ms label all a b e = sym (labelled label ms all a)
    ∙ (ap label e ∙ labelled label ms all b)

-- a node that no merge has is its own class
pub class_number-beyond : (count : ℕ) (ms : List (ℕ × ℕ))
    → All (λ m. (m.0 < count) × (m.1 < count)) ms →
    ((k : ℕ) → k < count → class_number ms k < count)
    × ((k : ℕ) → count ≤ k → class_number ms k ≡ k)
class_number-beyond count =
    by_ends (λ ms. All (λ (m : ℕ × ℕ). (m.0 < count) × (m.1 < count)) ms →
    ((k : ℕ) → k < count → class_number ms k < count)
    × ((k : ℕ) → count ≤ k → class_number ms k ≡ k))
    (λ all. ((λ k l. omega (arith, l, class_number-none k)), λ k l. class_number-none k))
    (λ ms m before all.
    let old = before (All-front (λ (n : ℕ × ℕ). (n.0 < count) × (n.1 < count)) ms m all) in
    let there = All-last (λ (n : ℕ × ℕ). (n.0 < count) × (n.1 < count)) ms m all in
    let s : ℕ = class_number ms m.0 in
    let r : ℕ = class_number ms m.1 in (
      λ k l. elim (cases_eq (class_number ms k) s) [
        | inl e ↦ omega (arith, class_number-more ms m k, moved_at s r _ e, old.0 m.1 there.1)
        | inr ne ↦ omega (arith, class_number-more ms m k, moved_other s r _ ne, old.0 k l)
      ],
      λ k l.
          let other : class_number ms k ≢ s = λ e. omega (arith, e, l, old.1 k l, old.0 m.0 there.0)
          in
          class_number-more ms m k ∙ (moved_other s r _ other ∙ old.1 k l),
    ))

pub new_nodes_stand_alone : (ms : List (ℕ × ℕ)) (count : ℕ)
    → All (λ m. (m.0 < count) × (m.1 < count)) ms →
    (a : ℕ) → a < count → SameClass (class_number ms) a count → ⊥
new_nodes_stand_alone ms count all a l e =
    let b = class_number-beyond count ms all in
    omega (arith, e, b.0 a l, b.1 count (omega arith))

pub nodes_stand_alone : (a b : ℕ) → SameClass (class_number []) a b → a ≡ b
nodes_stand_alone a b e = sym (class_number-none a) ∙ (e ∙ class_number-none b)
