-- Nodes that are terms, one fewer or one more.
use Rattle.std.proofs.Common.{◌≡◌, ℕ, ◌<◌, ◌≤◌, List, [], ◌∷◌, ◌++◌, inl, inr, length, take, All, refl, ap, sym, subst, ◌∙◌, arith}
use Rattle.std.proofs.lemmas.Bool.{cases_lt}
use Rattle.std.proofs.lemmas.List.{length-take, length_push, get_or-take, get_or_append_left, get_or_at}
use Rattle.esc_nodes.specs.Nodes.{Shape, shape, shape_at, AreTerms}

pub AreTerms-take : (nodes fewer : List Shape) (n : ℕ) → AreTerms nodes → n ≤ length nodes → fewer
    ≡ take n nodes → AreTerms fewer
AreTerms-take nodes fewer n are l e =
    let count : length fewer ≡ n = omega (arith, ap length e, length-take n nodes, l) in
    let at : (k : ℕ) → k < n → shape_at fewer k ≡ shape_at nodes k = λ k h. ap (λ ns. shape_at ns k)
    e ∙ get_or-take n nodes k _ h in
    record {
      older = λ k h. rw (at k (omega (arith, h, count))) (are.older k (omega (arith, h, count, l)));
      bare = λ k h. rw (at k (omega (arith, h, count))) (are.bare k (omega (arith, h, count, l)));
      once = λ j k jh kh same.
          are.once j k (omega (arith, jh, count, l)) (omega (arith, kh, count, l))
          (sym (at j (omega (arith, jh, count))) ∙ (same ∙ at k (omega (arith, kh, count))));
    }

-- nodes that are terms, and one more that is bare and was not there
pub AreTerms-push : (nodes : List Shape) (s : Shape) → AreTerms nodes
    → All (λ a. a < length nodes) s.args → shape s.top s.args ≡ s →
    ((k : ℕ) → k < length nodes → shape_at nodes k ≡ s → ⊥) → AreTerms (nodes ++ (s ∷ []))
AreTerms-push nodes s are there bare absent = record {
  older = λ k l. elim (cases_lt k (length nodes)) [
    | inl m ↦ rw (front k m) (are.older k m)
    | inr m ↦ subst (λ j. All (λ a. a < j) (shape_at (nodes ++ (s ∷ [])) j).args) (sym (last k l m))
        (rw end there)
  ];
  bare = λ k l. elim (cases_lt k (length nodes)) [
    | inl m ↦ rw (front k m) (are.bare k m)
    | inr m ↦ subst (λ j. shape (shape_at (nodes ++ (s ∷ [])) j).top
        (shape_at (nodes ++ (s ∷ [])) j).args ≡ shape_at (nodes ++ (s ∷ [])) j) (sym (last k l m))
        (rw end bare)
  ];
  once = λ j k jl kl e. elim (cases_lt j (length nodes)) [
    | inl jm ↦ elim (cases_lt k (length nodes)) [
      | inl km ↦ are.once j k jm km (sym (front j jm) ∙ (e ∙ front k km))
      | inr km ↦ absurd (absent j jm (sym (front j jm)
          ∙ (e ∙ (ap (shape_at (nodes ++ (s ∷ []))) (last k kl km) ∙ end))))
    ]
    | inr jm ↦ elim (cases_lt k (length nodes)) [
      | inl km ↦ absurd (absent k km (sym (front k km)
          ∙ (sym e ∙ (ap (shape_at (nodes ++ (s ∷ []))) (last j jl jm) ∙ end))))
      | inr km ↦ last j jl jm ∙ sym (last k kl km)
    ]
  ];
}
  where
    front : (k : ℕ) → k < length nodes → shape_at (nodes ++ (s ∷ [])) k ≡ shape_at nodes k
    front k l = get_or_append_left nodes (s ∷ []) _ k l

    end : shape_at (nodes ++ (s ∷ [])) (length nodes) ≡ s
    end = get_or_at nodes s [] _ (length nodes) refl

    last : (k : ℕ) → k < length (nodes ++ (s ∷ [])) → length nodes ≤ k → k ≡ length nodes
    last k l m = omega (arith, l, m, length_push nodes s)
