-- A solution depends on the table's unknowns alone, and they alone are restricted.
use Rattle.std.proofs.Common.{◌≡◌, ◌⊎◌, inl, inr, ℕ, suc, ◌<◌, ◌≤◌, List, [], ◌∷◌, length, get_or, refl, sym, ap, ap₂, ◌∙◌, subst, arith}
use Rattle.std.proofs.lemmas.Bool.{cases_lt}
use Rattle.std.proofs.lemmas.List.{length-map, get_or-map}
use Rattle.esc_frac.specs.Rational.{ℚ, ◌+ℚ◌, ◌*ℚ◌}
use Rattle.esc_rows.specs.Rows.{Point, combination}
use Rattle.esc_tableau.specs.Laws.{RestrictedAreThere, SampledOwnsRow, SolutionsAreLocal}
use Rattle.esc_tableau.specs.Table.{OwnsRow, row_of, nobody, unknowns, size, owner, column, row_entries, row_constant}
use Rattle.esc_tableau.proofs.MoveLaws.{RestrictedRow, RestrictedColumn, restricted_place}
use Rattle.esc_tableau.proofs.SampleLaws.{sample-no_row}
use Rattle.esc_tableau.proofs.Places.{owner_below, column_below}

-- points that agree on the columns give one sum
combination-alike : (v w : Point) (es : List ℚ) (cs : List ℕ)
    → ((j : ℕ) → j < length cs → w (get_or cs j 0) ≡ v (get_or cs j 0)) → combination w es cs
    ≡ combination v es cs
combination-alike v w [] cs alike = refl
combination-alike v w (e ∷ es) [] alike = refl
combination-alike v w (e ∷ es) (c ∷ cs) alike =
    ap₂ (λ x y. e *ℚ x +ℚ y) (alike 0 (omega arith))
    (combination-alike v w es cs (λ j inside. alike (suc j) (omega arith)))

pub solutions_are_local : SolutionsAreLocal
solutions_are_local t ok v w alike holds r row =
    alike (owner t r) (owner_below t ok r row)
    ∙ holds r row
    ∙ ap (λ x. x +ℚ row_constant t r) (sym (combination-alike v w (row_entries t r)
    (unknowns t.columns) columns))
  where
    columns : (j : ℕ) → j < length (unknowns t.columns) → w (get_or (unknowns t.columns) j 0)
        ≡ v (get_or (unknowns t.columns) j 0)
    columns j lies =
        let inside : j < length t.columns = omega (
          arith,
          lies,
          length-map t.columns
              (λ o. o.unknown),
        ) in
        subst (λ (u : ℕ). w u ≡ v u) (sym (get_or-map (λ o. o.unknown) t.columns j nobody 0 inside))
        (alike (column t j) (column_below t ok j inside))

pub restricted_are_there : RestrictedAreThere
restricted_are_there t ok u h = go (restricted_place t u h)
  where
    go : RestrictedRow t u ⊎ RestrictedColumn t u → u < size t
    go (inl at) = subst (λ (w : ℕ). w < size t) at.is (owner_below t ok at.row at.inside)
    go (inr at) = subst (λ (w : ℕ). w < size t) at.is (column_below t ok at.place at.inside)

pub sampled_owns_row : SampledOwnsRow
sampled_owns_row t ok u some = go (cases_lt (row_of t u) (length t.owners))
  where
    go : (row_of t u < length t.owners) ⊎ (length t.owners ≤ row_of t u) → OwnsRow t u
    go (inl h) = h
    go (inr h) = absurd (some (sample-no_row t ok u h))
