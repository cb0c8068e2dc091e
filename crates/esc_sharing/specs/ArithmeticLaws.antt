-- What holds of the arithmetic as a theory.
use Rattle.std.proofs.Common.{refl}
use Rattle.std.specs.Prelude.{◌≡◌, List}
use Rattle.std.specs.List.{All, Contains}
use Rattle.std.proofs.lemmas.List.Elements.{All-contains}
use Rattle.esc_term.specs.declared.term.Term.{Term}
use Rattle.esc_simplex.specs.Barred.{IsBarred}
use Rattle.esc_simplex.specs.SimplexLaws.{barred_more}
use Rattle.esc_simplex.specs.SimplexUndo.{CanGoBack, simplex_back}
use Rattle.esc_simplex.specs.View.{senses_in}
use Rattle.esc_simplex.specs.declared.record.SimplexRec.{SimplexRec}
use Rattle.esc_simplex.specs.declared.record.SimplexRec.TheVariants.{Listed, Bound, Restricted}
use Rattle.esc_simplex.specs.declared.simplex.Simplex.{Simplex}
use Rattle.esc_simplex.specs.declared.stop.Stop.{Stop}
use Rattle.esc_sharing.specs.Numbers.{IsGapOf}

pub back_keeps : (v : Simplex) (rec : SimplexRec) → CanGoBack v rec
    → senses_in (simplex_back v rec) ≡ senses_in v
back_keeps v Listed can = refl
back_keeps v Bound can = refl
back_keeps v Restricted can = refl

pub barred_by_wider : (v : Simplex) (terms more numbers wider : List Term) (stop : Stop)
    → All (Contains more) terms → All (Contains wider) numbers
    → IsBarred v (Contains terms) (IsGapOf numbers) stop
    → IsBarred v (Contains more) (IsGapOf wider) stop
barred_by_wider v terms more numbers wider stop h k =
    barred_more v (Contains terms) (Contains more) (IsGapOf numbers) (IsGapOf wider)
    (λ t a. All-contains (Contains more) terms t h a)
    (λ g a. record {
      upper = All-contains (Contains wider) numbers g.upper k a.upper;
      lower = All-contains (Contains wider) numbers g.lower k a.lower;
    }) stop
