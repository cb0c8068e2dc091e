-- An unknown is made that owns a row.
use Rattle.std.proofs.Common.{◌≡◌, inl, ℕ, ◌<◌, Err, List, [], ◌∷◌, ◌++◌, length, refl, sym, subst, arith}
use Rattle.std.specs.List.{All}
use Rattle.std.proofs.lemmas.List.Elements.{All-cons, All-nil, All-weaker}
use Rattle.esc_frac.specs.Rational.{ℚ, one_ℚ, neg_ℚ}
use Rattle.esc_linear.specs.Forms.{form}
use Rattle.esc_tableau.specs.Changes.{AddsRow}
use Rattle.esc_tableau.specs.Table.{IsTable, Table, size}
use Rattle.esc_tableau.specs.declared.changing.Part.{Part}
use Rattle.esc_simplex.specs.Barred.{AreRowParts, IsAddendOf, IsBarred, MayBeMade}
use Rattle.esc_simplex.specs.Calls.{GapEnds}
use Rattle.esc_simplex.specs.MakingInside.{IsLookedInto}
use Rattle.esc_simplex.specs.Senses.{AreRowsOf, Sense, StandsFor, gap_of, sense_of, senses_of, term}
use Rattle.esc_simplex.specs.Steps.{RowStops}
use Rattle.esc_simplex.specs.SimplexUndo.{AreSame}
use Rattle.esc_simplex.specs.View.{IsBuiltAt, IsSimplex, senses_in}
use Rattle.esc_simplex.specs.declared.made.Made.{Made}
use Rattle.esc_simplex.specs.declared.simplex.Simplex.{Simplex}
use Rattle.esc_simplex.specs.declared.stop.Stop.{Stop}
use Rattle.esc_simplex.specs.declared.stop.Stop.TheVariants as stop
use Rattle.esc_simplex.proofs.Barring.{barred_row}
use Rattle.esc_simplex.proofs.Zips.{zip_left}
use Rattle.esc_simplex.proofs.FormRows.{row_whole}
use Rattle.esc_simplex.proofs.Gapped.{at_with_row}
use Rattle.esc_simplex.proofs.Grown.{built_among, same_grown, same_meaning, simplex_grown}
use Rattle.esc_simplex.proofs.Keeping.{keeps_itself}
use Rattle.esc_simplex.proofs.Rowed.{rows_with_row}

-- what is being made may be made
itself : (senses : List Sense) (e s : Sense) → e ≡ s
    → MayBeMade senses (λ t. e ≡ term t) (λ g. e ≡ gap_of g) s
itself senses e (term t) same = inl same
itself senses e (gap_of g) same = inl same

-- beside itself it means the same
pub means : (v : Simplex) (entry : Made) → IsBuiltAt v.made (length v.made) entry
    → sense_of (v.made ++ entry ∷ []) entry ≡ sense_of v.made entry
means v entry built = same_meaning v.made entry entry (length v.made) built (omega arith)

-- its parts are unknowns that were made before
inside : (senses : List Sense) (s : Sense) (ps : List Part) (k : ℚ) → AreRowParts senses s ps k
    → All (λ p. p.unknown < length senses) ps
inside senses (term t) ps k parts = zip_left (IsAddendOf senses)
    (λ p. p.unknown < length senses) (λ p a of. of.unknown.there) ps (form t).parts parts.0
inside senses (gap_of g) ps k parts = subst (All (λ p. p.unknown < length senses))
    (sym parts.0.parts)
    (All-cons (λ p. p.unknown < length senses) (part_of parts.0.upper one_ℚ)
    (part_of parts.0.lower (neg_ℚ one_ℚ) ∷ []) parts.0.is_upper.there
    (All-cons (λ p. p.unknown < length senses) (part_of parts.0.lower (neg_ℚ one_ℚ)) []
    parts.0.is_lower.there (All-nil (λ p. p.unknown < length senses))))
  where
    part_of : ℕ → ℚ → Part
    part_of u f = record { unknown = u; factor = f }

module _ (v : Simplex) (h : IsSimplex v) (entry : Made) (ps : List Part) (k : ℚ)
    (parts : AreRowParts (senses_in v) (sense_of v.made entry) ps k) where
  pub parts_inside : All (λ p. p.unknown < size v.tableau) ps
  parts_inside = All-weaker (λ p. p.unknown < length (senses_in v))
      (λ p. p.unknown < size v.tableau) (λ p b. omega (arith, b, h.rows.size)) ps
      (inside (senses_in v) (sense_of v.made entry) ps k parts)

  pub row_stopped : (s : Stop) → RowStops v.tableau ps k s → IsBarred v
      (λ t. sense_of v.made entry ≡ term t) (λ g. sense_of v.made entry ≡ gap_of g) s
  row_stopped s stops =
      barred_row v (λ t. sense_of v.made entry ≡ term t) (λ g. sense_of v.made entry ≡ gap_of g) h
      v.tableau (keeps_itself v.tableau v.tableau refl h.table h.within)
      (sense_of v.made entry) ps k parts
      (itself (senses_in v) (sense_of v.made entry) (sense_of v.made entry) refl) s stops

  module _ (built : IsBuiltAt v.made (length v.made) entry)
      (into : IsLookedInto (sense_of v.made entry)) (t : Table) (ok : IsTable t)
      (adds : AddsRow v.tableau t ps k) where
    abbrev with_entry : Simplex
    with_entry = record v { tableau = t; made = v.made ++ entry ∷ [] }

    rows : AreRowsOf (senses_in v ++ sense_of v.made entry ∷ []) t
    rows = rows_with_row (senses_in v) v.tableau t ps k (sense_of v.made entry) h.rows adds
        (row_whole (senses_in v) (sense_of v.made entry) ps k parts)

    then_built : ((u : ℕ) (s : Sense) → StandsFor (senses_in v) u s
        → StandsFor (senses_of (v.made ++ entry ∷ [])) u s)
        → IsBuiltAt (v.made ++ entry ∷ []) (length v.made) entry
    then_built more = built_among v.made (v.made ++ entry ∷ []) (length v.made)
        (λ w s b. more w s) entry built

    pub row_simplex : IsSimplex with_entry
    row_simplex = simplex_grown v h entry t ok rows adds.restrictions (adds.within h.within)
        (means v entry built) then_built (λ o e f w s. into o e f)

    pub row_same : AreSame with_entry v
    row_same = same_grown v h entry t ok rows adds.restrictions (adds.within h.within)
        (means v entry built) then_built (λ o e f w s. into o e f)
        (at_with_row v h v.tableau (keeps_itself v.tableau v.tableau refl h.table h.within) t
        (sense_of v.made entry) ps k rows adds)

pub row_ends : (t : Table) (ps : List Part) (k : ℚ) (s : Stop) → RowStops t ps k s → GapEnds (Err s)
row_ends t ps k (stop.Spill j) h = tt
row_ends t ps k (stop.Form u) h = h
row_ends t ps k (stop.Pivots j) h = h
row_ends t ps k stop.Memory h = tt
