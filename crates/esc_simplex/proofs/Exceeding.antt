-- The row of a difference is added, its unknown maximised, and the row dropped: what stands then,
-- and what the peak says.
use Rattle.std.proofs.Common.{◌≡◌, ◌⊎◌, inl, inr, ℕ, ◌<◌, true, false, cond, Option, Some, None, nat_lt, sym, ap, ap₂, ◌∙◌, subst, subst₂, arith}
use Rattle.std.proofs.lemmas.Int.{ints}
use Rattle.std.proofs.lemmas.Bool.{lt-ltb, le-ltb, cond-true, cond-false}
use Rattle.esc_frac.specs.Rational.{ℚ, zero_ℚ, one_ℚ, ◌+ℚ◌, neg_ℚ, ◌*ℚ◌, ◌≤ℚ◌, ◌<ℚ◌}
use Rattle.esc_frac.proofs.FieldLaws.{+ℚ_comm, +ℚ_assoc, +ℚ-zero, zero-+ℚ, +ℚ-neg_ℚ, *ℚ_comm, *ℚ-one, neg_ℚ-*ℚ}
use Rattle.esc_frac.proofs.OrderLaws.{≤ℚ_trans, ≤ℚ-+ℚ, ≤ℚ_total, <ℚ-not}
use Rattle.esc_rows.specs.Rows.{Point}
use Rattle.esc_tableau.specs.Changes.{AddsRow, DropsRow, parts_value}
use Rattle.esc_tableau.specs.Run.{GrowsAlong, IsGreatest, PeakHolds}
use Rattle.esc_tableau.specs.Table.{Table, IsRestricted, IsSolution, IsTable, IsWithin, sample, size}
use Rattle.esc_tableau.specs.declared.answers.Peak.TheVariants.{Positive}
use Rattle.esc_tableau.proofs.LocalLaws.{restricted_are_there, solutions_are_local}
use Rattle.esc_tableau.proofs.SampleLaws.{IsSolution-sample}
use Rattle.esc_tableau.proofs.OwnerLaws.{negative_low}
use Rattle.esc_simplex.specs.Steps.{ExceedEnds, KeepsSystem, gap_parts}

-- ---- the value of the row

gap_value : (a b : ℚ) → one_ℚ *ℚ a +ℚ (neg_ℚ one_ℚ *ℚ b +ℚ zero_ℚ) +ℚ zero_ℚ ≡ a +ℚ neg_ℚ b
gap_value a b =
    +ℚ-zero (one_ℚ *ℚ a +ℚ (neg_ℚ one_ℚ *ℚ b +ℚ zero_ℚ))
    ∙ ap₂ (λ x y. x +ℚ y) (*ℚ_comm one_ℚ a ∙ *ℚ-one a) (+ℚ-zero (neg_ℚ one_ℚ *ℚ b)
    ∙ neg_ℚ-*ℚ one_ℚ b ∙ ap neg_ℚ (*ℚ_comm one_ℚ b ∙ *ℚ-one b))

back : (a b : ℚ) → a +ℚ neg_ℚ b +ℚ b ≡ a
back a b = +ℚ_assoc a (neg_ℚ b) b ∙ ap (λ x. a +ℚ x) (+ℚ_comm (neg_ℚ b) b ∙ +ℚ-neg_ℚ b) ∙ +ℚ-zero a

low_gap : (a b : ℚ) → a +ℚ neg_ℚ b ≤ℚ zero_ℚ → a ≤ℚ b
low_gap a b h = subst₂ (λ x y. x ≤ℚ y) (back a b) (zero-+ℚ b) (≤ℚ-+ℚ (a +ℚ neg_ℚ b) zero_ℚ b h)

high_gap : (a b : ℚ) → zero_ℚ <ℚ a +ℚ neg_ℚ b → b <ℚ a
high_gap a b h = (<ℚ-not b a).1 (λ le. (<ℚ-not zero_ℚ (a +ℚ neg_ℚ b)).0 h
    (subst (λ x. a +ℚ neg_ℚ b ≤ℚ x) (+ℚ-neg_ℚ b) (≤ℚ-+ℚ a b (neg_ℚ b) le)))

-- ---- with the row, and without it

module _ (t start now new : Table) (upper lower : ℕ)
    (ok : IsTable t) (fine : IsTable new) (above : upper < size t) (below : lower < size t)
    (adds : AddsRow t start (gap_parts upper lower) zero_ℚ) (kept : KeepsSystem start now)
    (drops : DropsRow now new) where
  as_many : size new ≡ size t
  as_many = omega (arith, adds.size, kept.same.size, drops.fewer)

  -- the point with the difference as the new unknown's value
  abbrev longer : Point → Point
  longer v w = cond (nat_lt w (size t)) (v w) (parts_value v (gap_parts upper lower) +ℚ zero_ℚ)

  longer_old : (v : Point) (w : ℕ) → w < size t → longer v w ≡ v w
  longer_old v w h = cond-true (nat_lt w (size t)) (v w) (parts_value v (gap_parts upper lower)
      +ℚ zero_ℚ) (lt-ltb w (size t) h)

  longer_new : (v : Point) → longer v (size t) ≡ v upper +ℚ neg_ℚ (v lower)
  longer_new v =
      cond-false (nat_lt (size t) (size t)) (v (size t)) (parts_value v (gap_parts upper lower)
      +ℚ zero_ℚ) (le-ltb (size t) (size t) (omega arith))
      ∙ gap_value (v upper) (v lower)

  solves_now : (v : Point) → IsSolution t v → IsSolution now (longer v)
  solves_now v holds = (kept.same.solutions (longer v)).0 ((adds.solutions (longer v)).1 (
    solutions_are_local t ok v (longer v) (longer_old v) holds,
    longer_new v ∙ ap₂ (λ x y. x +ℚ neg_ℚ y) (sym (longer_old v upper above))
        (sym (longer_old v lower below)) ∙ sym (gap_value (longer v upper) (longer v lower)),
  ))

  solves_t : (v : Point) → IsSolution now v → IsSolution t v
      × (v (size t) ≡ v upper +ℚ neg_ℚ (v lower))
  solves_t v holds = let both = (adds.solutions v).0 ((kept.same.solutions v).1 holds)
      in (both.0, both.1 ∙ gap_value (v upper) (v lower))

  marked_now : (u : ℕ) → IsRestricted t u → IsRestricted now u
  marked_now u h = (kept.same.restrictions u).0 ((adds.restrictions u).0 h)

  marked_t : (u : ℕ) → IsRestricted now u → IsRestricted t u
  marked_t u h = (adds.restrictions u).1 ((kept.same.restrictions u).1 h)

  pub keeps_system : KeepsSystem t new
  keeps_system = record {
    table = fine;
    same = record {
      solutions = λ v. (λ h. forth v h, λ h. from v h);
      restrictions = λ u. (
        λ h. let there = restricted_are_there t ok u h
            in (drops.restrictions u (omega (arith, there, as_many))).0 (marked_now u h),
        λ h. marked_t u ((drops.restrictions u (restricted_are_there new fine u h)).1 h),
      );
      size = as_many;
    };
    within = drops.within kept.within;
  }
    where
      forth : (v : Point) → IsSolution t v → IsSolution new v
      forth v h = solutions_are_local new fine (longer v) v
          (λ w b. sym (longer_old v w (omega (arith, b, as_many))))
          (drops.solutions (longer v) (solves_now v h))

      from : (v : Point) → IsSolution new v → IsSolution t v
      from v h =
          let w = drops.extends v h in
          solutions_are_local t ok w.0 v (λ u b. sym (w.2 u (omega (arith, b, as_many))))
          (solves_t w.0 w.1).0

  -- nowhere above 0: nowhere does the first exceed the second
  pub nowhere : IsGreatest now (size t) → ExceedEnds t upper lower false
  nowhere greatest v holds within =
      low_gap (v upper) (v lower) (subst (λ x. x ≤ℚ zero_ℚ) (longer_new v)
      (≤ℚ_trans (longer v (size t)) (sample now (size t)) zero_ℚ
      (greatest.greatest (longer v) (solves_now v holds) inside) greatest.low))
    where
      inside : IsWithin now (longer v)
      inside u h =
          let marked = marked_t u h in
          subst (λ x. zero_ℚ ≤ℚ x) (sym (longer_old v u (restricted_are_there t ok u marked)))
          (within u marked)

  somewhere : (v : Point) → IsSolution now v → IsWithin now v → zero_ℚ <ℚ v (size t)
      → ExceedEnds t upper lower true
  somewhere v holds within positive =
      let both = solves_t v holds in (
        v,
        both.0,
        (λ u h. within u (marked_now u h)),
        high_gap (v upper) (v lower)
            (subst (λ x. zero_ℚ <ℚ x) both.1 positive),
      )

  -- above 0 in the sample
  pub at_sample : zero_ℚ <ℚ sample now (size t) → ExceedEnds t upper lower true
  at_sample positive = somewhere (sample now) (IsSolution-sample now kept.table) kept.within
      positive

  -- or further along the ray
  pub along_ray : (ray : ℕ) → GrowsAlong now (size t) ray → ExceedEnds t upper lower true
  along_ray ray grows = go (≤ℚ_total (sample now (size t)) zero_ℚ)
    where
      one_more : (x : ℚ) → x +ℚ (neg_ℚ x +ℚ one_ℚ) ≡ one_ℚ
      one_more x = sym (+ℚ_assoc x (neg_ℚ x) one_ℚ) ∙ ap (λ y. y +ℚ one_ℚ) (+ℚ-neg_ℚ x)
          ∙ zero-+ℚ one_ℚ

      go : (sample now (size t) ≤ℚ zero_ℚ) ⊎ (zero_ℚ <ℚ sample now (size t))
          → ExceedEnds t upper lower true
      go (inr high) = at_sample high
      go (inl low) =
          let rise : ℚ = neg_ℚ (sample now (size t)) +ℚ one_ℚ in
          let up : zero_ℚ ≤ℚ rise = ≤ℚ_trans zero_ℚ one_ℚ rise one_up
          (subst (λ x. x ≤ℚ rise) (zero-+ℚ one_ℚ)
          (≤ℚ-+ℚ zero_ℚ (neg_ℚ (sample now (size t))) one_ℚ
          (negative_low (sample now (size t)) low))) in
          let v = grows.rises rise up in
          somewhere v.0 v.1 v.2 (subst (λ x. zero_ℚ <ℚ x)
          (sym (v.3 ∙ one_more (sample now (size t)))) above_zero)
        where
          one_up : zero_ℚ ≤ℚ one_ℚ
          one_up = omega (arith, ints)

          above_zero : zero_ℚ <ℚ one_ℚ
          above_zero = omega (arith, ints)

  pub positive_ends : (ray : Option ℕ) → PeakHolds now (size t) (Positive ray)
      → ExceedEnds t upper lower true
  positive_ends None holds = at_sample holds
  positive_ends (Some ray) holds = along_ray ray holds
