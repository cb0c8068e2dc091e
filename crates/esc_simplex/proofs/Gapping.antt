-- The row of a gap.
use Rattle.std.proofs.Common.{◌≡◌, ℕ, Bool, List, Result, Ok, Err, IfErr, length, sym, subst}
use Rattle.esc_frac.specs.Rational.{ℚ}
use Rattle.esc_tableau.specs.declared.changing.Part.{Part}
use Rattle.esc_cover.specs.Assignment.{Gap}
use Rattle.esc_simplex.specs.Barred.{AreGapParts, AreRowParts, IsBarred}
use Rattle.esc_simplex.specs.Calls.{IsForTerm, gap_in}
use Rattle.esc_simplex.specs.MakingInside.{IsLookedInto}
use Rattle.esc_simplex.specs.Senses.{gap_of, term}
use Rattle.esc_simplex.specs.SimplexLaws.{barred_more}
use Rattle.esc_simplex.specs.Steps.{gap_constant, gap_parts}
use Rattle.esc_simplex.specs.View.{IsBuiltAt, IsOlderTerm, IsSimplex, senses_in}
use Rattle.esc_simplex.specs.declared.made.Made.TheVariants as made
use Rattle.esc_simplex.specs.declared.simplex.Simplex.{Simplex}
use Rattle.esc_simplex.specs.declared.stop.Stop.{Stop}
use Rattle.esc_simplex.proofs.Gapped.{gap_row_parts}
use Rattle.esc_simplex.proofs.Parting.{made_there}

module _ (v : Simplex) (h : IsSimplex v) (u w : ℕ) (upper : IsForTerm v u) (lower : IsForTerm v w)
    (strict : Bool) where
  older : (y : ℕ) → IsForTerm v y → IsOlderTerm v.made (length v.made) y
  older y for = record { older = made_there v y for; of = for.0; stands = for.1.stands }

  pub gap_built : IsBuiltAt v.made (length v.made) (made.Gap u w strict)
  gap_built = (older u upper, older w lower)

  pub gap_row : (ps : List Part) (k : ℚ) → ps ≡ gap_parts u w → k ≡ gap_constant strict
      → AreRowParts (senses_in v) (gap_of (gap_in v u w strict)) ps k
  gap_row ps k is e = (
    subst (AreGapParts (senses_in v) (gap_in v u w strict)) (sym is)
        (gap_row_parts v h u w upper lower strict),
    e,
  )

pub gap_looked_into : (g : Gap) → IsLookedInto (gap_of g)
gap_looked_into g t e same = absurd (cc)

-- the gap alone may have been made
pub barred_gap_alone : {V : Type 0} (v : Simplex) (g : Gap) (r : Result V Stop)
    → IfErr r (IsBarred v (λ t. gap_of g ≡ term t) (λ f. gap_of g ≡ gap_of f))
    → IfErr r (IsBarred v (λ t. ⊥) (λ f. f ≡ g))
barred_gap_alone v g (Ok x) barred = tt
barred_gap_alone v g (Err s) barred = barred_more v (λ t. gap_of g ≡ term t) (λ t. ⊥)
    (λ f. gap_of g ≡ gap_of f) (λ f. f ≡ g) (λ t e. absurd (cc)) (λ f e. cc) s barred
