-- The sample is a solution.
use Rattle.std.proofs.Common.{◌≡◌, ℕ, suc, ◌<◌, ◌≤◌, List, [], ◌∷◌, length, get_or, refl, sym, ap, ap₂, ◌∙◌, arith}
use Rattle.std.proofs.lemmas.List.{length-map, get_or-map, get_or_past}
use Rattle.esc_frac.specs.Rational.{ℚ, zero_ℚ, ◌+ℚ◌, ◌*ℚ◌}
use Rattle.esc_frac.proofs.FieldLaws.{*ℚ-zero, zero-+ℚ}
use Rattle.esc_rows.specs.Rows.{Point, combination}
use Rattle.esc_tableau.specs.Table.{Table, IsTable, IsSolution, nobody, unknowns, owner, column, row_entries, row_constant, row_of, sample}
use Rattle.esc_tableau.proofs.Places.{row_of-owner, no_row-column}

-- where the columns' unknowns are 0, so is the sum
pub combination-zero : (v : Point) (es : List ℚ) (cs : List ℕ)
    → ((c : ℕ) → c < length cs → v (get_or cs c 0) ≡ zero_ℚ) → combination v es cs ≡ zero_ℚ
combination-zero v [] cs none = refl
combination-zero v (e ∷ es) [] none = refl
combination-zero v (e ∷ es) (c ∷ cs) none =
    ap₂ (λ x y. x +ℚ y) (ap (λ x. e *ℚ x) (none 0 (omega arith)) ∙ *ℚ-zero e)
    (combination-zero v es cs (λ i h. none (suc i) (omega arith))) ∙ zero-+ℚ zero_ℚ

module _ (t : Table) (ok : IsTable t) where
  pub sample-owner : (r : ℕ) → r < length t.owners → sample t (owner t r) ≡ row_constant t r
  sample-owner r row = ap (row_constant t) (row_of-owner t ok r row)

  pub sample-column : (c : ℕ) → c < length t.columns → sample t (column t c) ≡ zero_ℚ
  sample-column c inside = get_or_past t.constants (row_of t (column t c)) zero_ℚ
      (omega (arith, no_row-column t ok c inside, ok.constants))

  pub sample-no_row : (u : ℕ) → length t.owners ≤ row_of t u → sample t u ≡ zero_ℚ
  sample-no_row u past = get_or_past t.constants (row_of t u) zero_ℚ
      (omega (arith, past, ok.constants))

  pub IsSolution-sample : IsSolution t (sample t)
  IsSolution-sample r row =
      sample-owner r row
      ∙ sym (zero-+ℚ (row_constant t r))
      ∙ ap (λ x. x +ℚ row_constant t r) (sym (combination-zero (sample t) (row_entries t r)
      (unknowns t.columns) zeros))
    where
      zeros : (c : ℕ) → c < length (unknowns t.columns) → sample t (get_or (unknowns t.columns) c 0)
          ≡ zero_ℚ
      zeros c h =
          let inside : c < length t.columns = omega (arith, length-map t.columns (λ o. o.unknown))
          in
          ap (sample t) (get_or-map (λ o. o.unknown) t.columns c nobody 0 inside)
          ∙ sample-column c inside
