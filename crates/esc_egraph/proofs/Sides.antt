-- Forbidden pairs by their sides.
use Rattle.std.proofs.Common.{◌≡◌, ℕ, zero, suc, ◌<◌, List, [], ◌∷◌, ◌++◌, inl, inr, All, refl, sym, subst, arith}
use Rattle.std.specs.List.{Any}
use Rattle.std.proofs.lemmas.List.Elements.{All-nil, All-cons, All-head, All-tail}
use Rattle.std.proofs.lemmas.Grind.{flat_map-append}
use Rattle.esc_union.specs.Merges.{SameClass}
use Rattle.esc_egraph.specs.Congruence.{Joins}
use Rattle.esc_egraph.specs.SidesInside.{sides_of}

pub sides_of-none : sides_of [] ≡ []
unfolding sides_of
sides_of-none = refl

pub sides_of-more : (ps : List (ℕ × ℕ)) (p : ℕ × ℕ) → sides_of (ps ++ (p ∷ [])) ≡ sides_of ps
    ++ ((p.0, p.1) ∷ ((p.1, p.0) ∷ []))
unfolding sides_of
sides_of-more ps p = flat_map-append (λ (q : ℕ × ℕ). (q.0, q.1) ∷ ((q.1, q.0) ∷ [])) ps (p ∷ [])

pub sides_low : (count : ℕ) (ps : List (ℕ × ℕ)) → All (λ p. (p.0 < count) × (p.1 < count)) ps
    → All (λ e. (e.0 < count) × (e.1 < count)) (sides_of ps)
unfolding sides_of
sides_low count [] all = All-nil (λ e. (e.0 < count) × (e.1 < count))
sides_low count (p ∷ ps) all =
    let h = All-head (λ (q : ℕ × ℕ). (q.0 < count) × (q.1 < count)) p ps all in
    let rest = sides_low count ps (All-tail (λ (q : ℕ × ℕ). (q.0 < count) × (q.1 < count)) p ps all)
    in
    All-cons (λ (e : ℕ × ℕ). (e.0 < count) × (e.1 < count)) (p.0, p.1) ((p.1, p.0) ∷ sides_of ps) h
    (All-cons (λ (e : ℕ × ℕ). (e.0 < count) × (e.1 < count)) (p.1, p.0) (sides_of ps)
    (h.1, h.0) rest)

module _ (number : ℕ → ℕ) (a b : ℕ) where
  -- a side in each of the two classes
  abbrev Across : ℕ × ℕ → Type 0
  Across e = SameClass number e.0 a × SameClass number e.1 b

  further : (p : ℕ × ℕ) (ps : List (ℕ × ℕ)) → Any (Joins number a b) ps
      → Any (Joins number a b) (p ∷ ps)
  further p ps (k, q, l, at, joins) = (suc k, q, omega (arith, l), at, joins)

  pub joins_from_sides : (ps : List (ℕ × ℕ)) → Any (λ e. SameClass number e.0 a
      × SameClass number e.1 b) (sides_of ps) → Any (Joins number a b) ps
  unfolding sides_of
  joins_from_sides [] (k, e, l, at, h) = absurd (omega (arith, l))
  joins_from_sides (p ∷ ps) (zero, e, l, at, h) = (
    0,
    p,
    omega arith,
    refl,
    inl
        (subst Across (sym at) h),
  )
  joins_from_sides (p ∷ ps) (suc zero, e, l, at, h) =
      let g = subst Across (sym at) h in
      (0, p, omega arith, refl, inr (g.1, g.0))
  joins_from_sides (p ∷ ps) (suc (suc k), e, l, at, h) = further p ps
      (joins_from_sides ps (k, e, omega (arith, l), at, h))

  beyond : (p : ℕ × ℕ) (ps : List (ℕ × ℕ)) → Any (λ e. SameClass number e.0 a
      × SameClass number e.1 b) (sides_of ps) →
      Any (λ e. SameClass number e.0 a × SameClass number e.1 b) (sides_of (p ∷ ps))
  unfolding sides_of
  beyond p ps (k, e, l, at, h) = (suc (suc k), e, omega (arith, l), at, h)

  pub sides_from_joins : (ps : List (ℕ × ℕ)) → Any (Joins number a b) ps
      → Any (λ e. SameClass number e.0 a × SameClass number e.1 b) (sides_of ps)
  unfolding sides_of
  sides_from_joins [] (k, p, l, at, joins) = absurd (omega (arith, l))
  sides_from_joins (p ∷ ps) (zero, q, l, at, inl h)
      = (0, (p.0, p.1), omega arith, refl, subst Across (sym at) h)
  sides_from_joins (p ∷ ps) (zero, q, l, at, inr h) =
      let g = subst (λ (x : ℕ × ℕ). SameClass number x.0 b × SameClass number x.1 a) (sym at) h in
      (1, (p.1, p.0), omega arith, refl, (g.1, g.0))
  sides_from_joins (p ∷ ps) (suc k, q, l, at, joins) = beyond p ps
      (sides_from_joins ps (k, q, omega (arith, l), at, joins))

-- either way round
pub joins_back : (number : ℕ → ℕ) (a b : ℕ) (ps : List (ℕ × ℕ)) → Any (Joins number a b) ps
    → Any (Joins number b a) ps
joins_back number a b ps (k, p, l, at, inl h) = (k, p, l, at, inr h)
joins_back number a b ps (k, p, l, at, inr h) = (k, p, l, at, inl h)

pub sides_in : (count n : ℕ) (ps : List (ℕ × ℕ)) → count ≡ n
    → All (λ p. (p.0 < n) × (p.1 < n)) ps →
    All (λ e. (e.0 < count) × (e.1 < count)) (sides_of ps)
sides_in count n ps same all = sides_low count ps (subst (λ k. All (λ (p : ℕ × ℕ). (p.0 < k)
    × (p.1 < k)) ps) (sym same) all)
