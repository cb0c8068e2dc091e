-- Rows of unknowns whose values are fixed have no column, and so no pivot.
use Rattle.std.proofs.Common.{◌≡◌, ℕ, zero, suc, ◌<◌, pos, Bool, true, false, cond, nat_lt, List}
use Rattle.std.proofs.Common.{Option, Some, None, length, get_or, refl, sym, ap, ap₂, subst, ◌∙◌}
use Rattle.std.proofs.Common.{inl, inr, arith}
use Rattle.std.specs.List.{All}
use Rattle.std.proofs.lemmas.Bool.{cases_lt, cond-false, le-ltb}
use Rattle.std.proofs.lemmas.Int.{ints}
use Rattle.std.proofs.lemmas.List.Elements.{All-get_or}
use Rattle.esc_term.specs.declared.term.Term.TheVariants.{Num}
use Rattle.esc_frac.specs.Rational.{ℚ, zero_ℚ, one_ℚ}
use Rattle.esc_frac.specs.Sign.{sign_of}
use Rattle.esc_frac.proofs.WholeLaws.{whole_same}
use Rattle.esc_tableau.specs.Rule.{entering, first, improving, is_positive, next, next_by_move}
use Rattle.esc_tableau.specs.Rule.{or_next, slope, way}
use Rattle.esc_tableau.specs.Table.{Table, column, column_of, nobody, sample, size}
use Rattle.esc_tableau.specs.declared.answers.Peak.TheVariants.{NotPositive, Positive}
use Rattle.esc_tableau.specs.declared.answers.Step.{Step}
use Rattle.esc_tableau.specs.declared.answers.Step.TheVariants.{Row, Ratio, Pivot}
use Rattle.esc_tableau.specs.declared.rule.Next.TheVariants.{Stops, Pivots}
use Rattle.esc_tableau.proofs.MoveLaws.{IsSolution-along, along, along-column_same}
use Rattle.esc_tableau.proofs.Places.{column_below}
use Rattle.esc_simplex.specs.Barred.{AreKeptRows, KeptRunIsSpent, MaximisingJams}
use Rattle.esc_simplex.specs.Senses.{Sense, term}
use Rattle.esc_outcome.proofs.Numerals.{IsFixed}

-- ---- no column

zero_is_not_one : zero_ℚ ≡ one_ℚ → ⊥
zero_is_not_one e =
    let same : pos 0 ≡ pos 1 = whole_same (pos 0) (pos 1) e in
    absurd (omega (arith, ints, same))

module _ (senses : List Sense) (t : Table) (kept : AreKeptRows senses t)
    (fixed : All (λ s. (q : ℚ) × IsFixed s q) senses) where
  no_column : (c : ℕ) → c < length t.columns → ⊥
  no_column c inside =
      let y = column t c in
      let below : y < length senses =
      subst (λ n. y < n) kept.rows.size (column_below t kept.table c inside) in
      let value = All-get_or (λ s. (q : ℚ) × IsFixed s q) senses y (term (Num (pos 0))) below fixed
      in
      let low = kept.rows.sound (along t c zero_ℚ) (IsSolution-along t kept.table c zero_ℚ inside)
      in
      let high = kept.rows.sound (along t c one_ℚ) (IsSolution-along t kept.table c one_ℚ inside)
      in
      zero_is_not_one
      (sym (along-column_same t kept.table c zero_ℚ inside)
      ∙ (low.1 y below ∙ (value.1 low.0 ∙ sym (value.1 high.0)) ∙ sym (high.1 y below))
      ∙ along-column_same t kept.table c one_ℚ inside)

  pub no_columns : length t.columns ≡ 0
  no_columns = elim (cases_lt 0 (length t.columns)) [
    | inl some ↦ absurd (no_column 0 some)
    | inr none ↦ omega (arith, none)
  ]

  -- ---- no pivot

  improving_none : (u w : ℕ) → improving t u w ≡ None
  improving_none u w =
      let c = column_of t w in
      cond-false (nat_lt c (length t.columns)) (way c (get_or t.columns c nobody).restricted
      (sign_of (slope t u c).num)) None
      (le-ltb c (length t.columns) (omega (arith, no_columns)))

  first_none : {X : Type 0} (f : ℕ → Option X) → ((w : ℕ) → f w ≡ None) → (n : ℕ)
      → first f n ≡ None
  first_none f none zero = refl
  first_none f none (suc n) = ap₂ or_next (first_none f none n) (none n)

  entering_none : (u : ℕ) → entering t u ≡ None
  entering_none u = first_none (improving t u) (improving_none u) (size t)

  next_stops : (u : ℕ) → next t u ≡ (cond (is_positive (sample t u)) (Stops (Positive None))
      (Stops NotPositive))
  next_stops u =
      ap (λ m. cond (is_positive (sample t u)) (Stops (Positive None)) (next_by_move t m))
      (entering_none u)

  no_pivot : (u r c : ℕ) → next t u ≡ Pivots r c → ⊥
  no_pivot u r c e = go (is_positive (sample t u)) (sym (next_stops u) ∙ e)
    where
      go : (b : Bool) → cond b (Stops (Positive None)) (Stops NotPositive) ≡ Pivots r c → ⊥
      go true e = cc
      go false e = cc

  no_ray : (u x : ℕ) → next t u ≡ Stops (Positive (Some x)) → ⊥
  no_ray u x e = go (is_positive (sample t u)) (sym (next_stops u) ∙ e)
    where
      go : (b : Bool) → cond b (Stops (Positive None)) (Stops NotPositive)
          ≡ Stops (Positive (Some x)) → ⊥
      go true e = cc
      go false e = cc

  pub no_maximising_jams : (u : ℕ) (step : Step) → MaximisingJams t u step → ⊥
  no_maximising_jams u Row h = h
  no_maximising_jams u (Ratio w x) h = none_enters (sym (entering_none u) ∙ h.enters)
    where
      none_enters : {X : Type 0} {m : X} → (let o : Option X = None in o) ≡ Some m → ⊥
      none_enters e = cc
  no_maximising_jams u (Pivot w x) (inl h) = no_pivot u h.row h.column h.chosen
  no_maximising_jams u (Pivot w x) (inr h) = no_ray u x h.1.grows

  pub no_run_is_spent : (u : Option ℕ) (limit : ℕ) → KeptRunIsSpent t u limit → ⊥
  no_run_is_spent None limit h = h
  no_run_is_spent (Some u) zero h =
      no_pivot u h.1.goes_on.0 h.1.goes_on.1 h.1.goes_on.2
  no_run_is_spent (Some u) (suc n) h =
      let on = h.1.reached.goes_on 0 (omega arith) in
      no_pivot u on.0 on.1 on.2
