-- What holds of values under assignments, and where records are taken back.
use Rattle.std.specs.Prelude.{◌≡◌, List}
use Rattle.esc_term.specs.declared.term.Term.{Term}
use Rattle.esc_frac.specs.Rational.{ratio}
use Rattle.esc_linear.specs.Forms.{form}
use Rattle.esc_linear.specs.Laws.{form_value}
use Rattle.esc_cover.specs.Assignment.{Assignment}
use Rattle.esc_cover.specs.Counterexample.{fraction}
use Rattle.esc_trail.specs.Undo.{CanRewind, rewind}
use Rattle.esc_simplex.specs.SimplexUndo.{CanGoBack, simplex_back, simplex_undo}
use Rattle.esc_simplex.specs.View.{IsSimplex}
use Rattle.esc_simplex.specs.declared.record.SimplexRec.{SimplexRec}
use Rattle.esc_simplex.specs.declared.simplex.Simplex.{Simplex}

-- a term has the value of its form, where each term of the form has the fraction that it is given
abbrev pub FormHasFraction : Type 0
FormHasFraction = (v : Assignment) (t : Term)
    → fraction v t ≡ form_value (λ o. ratio (v.numerator o) v.denominator) (form t)

-- what holds between any two calls holds where a record was taken back
abbrev pub BackIsSound : Type 0
BackIsSound = (v : Simplex) (rec : SimplexRec) → CanGoBack v rec → IsSimplex v
    → IsSimplex (simplex_back v rec)

-- and where all records behind a mark were
abbrev pub RewindIsSound : Type 0
RewindIsSound = (v : Simplex) (recs : List SimplexRec) → CanRewind simplex_undo v recs
    → IsSimplex v → IsSimplex (rewind simplex_undo v recs)
