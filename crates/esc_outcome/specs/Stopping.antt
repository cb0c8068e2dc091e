-- What is known of a sharing when a call on it stopped, whichever call it was.
use Rattle.std.specs.Prelude.{List}
use Rattle.esc_term.specs.declared.term.Term.{Term}
use Rattle.esc_term.specs.declared.formula.Formula.{Formula}
use Rattle.esc_term.specs.declared.formula.Item.{Item}
use Rattle.esc_simplex.specs.Barred.{IsBarred}
use Rattle.esc_simplex.specs.declared.simplex.Simplex.{Simplex}
use Rattle.esc_simplex.specs.declared.stop.Stop.{Stop}
use Rattle.esc_sharing.specs.Numbers.{IsGapOf}
use Rattle.esc_sharing.specs.Shared.{IsUnderway}
use Rattle.esc_sharing.specs.Stops.{UnlessMemory}
use Rattle.esc_sharing.specs.declared.sharing.Sharing.{Sharing}
use Rattle.esc_outcome.specs.Jam.{IsJam, IsNumberOf, numbers_of}
use Rattle.esc_outcome.specs.JamLaws.{StopsAt, shared_in, stuck_with}

-- with the literals it is a jam of the formulas, and a call that names their arithmetic terms may
-- stop with it; and the last literal that was asserted, and the last pair that was told, may be
-- underway
pub record IsStopped (formulas : List Formula) (s : Sharing Simplex) (literals : List Item)
    (why : Stop) : Type 0 where
  pub underway : IsUnderway (shared_in s)
  pub jam : IsJam formulas s.theory.limit (stuck_with s why literals)
  pub barred : UnlessMemory (IsBarred s.theory (IsNumberOf formulas)
      (IsGapOf (numbers_of formulas))) why

-- this is known wherever a call stopped
abbrev pub StopsIsStopped : Type 0
StopsIsStopped = (formulas : List Formula) (s : Sharing Simplex) (literals : List Item)
    (terms others : List Term) (why : Stop) → StopsAt formulas s literals terms others why
    → IsStopped formulas s literals why
