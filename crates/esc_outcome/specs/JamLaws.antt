-- What the arithmetic of a sharing stops with, read with the formulas that gave it its terms.
use Rattle.std.specs.Prelude.{◌≡◌, ◌≢◌, List, ◌++◌, map}
use Rattle.std.specs.List.{All, Contains, flat_map}
use Rattle.esc_term.specs.declared.term.Term.{Term}
use Rattle.esc_term.specs.declared.formula.Formula.{Formula}
use Rattle.esc_term.specs.declared.formula.Formula.TheVariants.{Eq}
use Rattle.esc_term.specs.declared.formula.Item.{Item}
use Rattle.esc_term.specs.Refuted.{Follows}
use Rattle.esc_cover.specs.Assignment.{Gap, asked}
use Rattle.esc_cover.specs.Counterexample.{AreLiteralsOf}
use Rattle.esc_simplex.specs.Barred.{IsBarred}
use Rattle.esc_simplex.specs.Senses.{term_at}
use Rattle.esc_simplex.specs.View.{Allows, IsSimplex, numbers_in, senses_in}
use Rattle.esc_simplex.specs.declared.simplex.Simplex.{Simplex}
use Rattle.esc_simplex.specs.declared.stop.Stop.{Stop}
use Rattle.esc_simplex.specs.declared.stop.Stop.TheVariants as stop
use Rattle.esc_sharing.specs.Numbers.{AddsMade, IsGapOf, number_terms}
use Rattle.esc_sharing.specs.Shared.{AreEqualInModels, IsUnderway, Shared, items_in, seen}
use Rattle.esc_sharing.specs.Shared.{told_in}
use Rattle.esc_sharing.specs.Stops.{UnlessMemory}
use Rattle.esc_sharing.specs.declared.sharing.Sharing.{Sharing}
use Rattle.esc_outcome.specs.Causes.{AllFollow}
use Rattle.esc_outcome.specs.Jam.{IsJam, IsNumberOf, IsSenseOf}
use Rattle.esc_outcome.specs.declared.stuck.Meaning.{Meaning}
use Rattle.esc_outcome.specs.declared.stuck.Stuck.{Stuck}

-- ---- what is kept of a stop

abbrev pub shared_in : Sharing Simplex → Shared
shared_in = seen IsSimplex Allows numbers_in

-- the unknown of each bound node, with its term
abbrev pub meanings_in : Simplex → List Meaning
meanings_in v = map (λ pair. record { unknown = pair.1; term = term_at v.made pair.1 }) v.bound

-- the stop, with these literals
abbrev pub stuck_with : Sharing Simplex → Stop → List Item → Stuck
stuck_with s why literals = record {
  jam = why;
  unknowns = meanings_in s.theory;
  literals = literals;
  told = told_in (shared_in s);
}

-- ---- what the arithmetic was given

-- its terms are arithmetic terms of the formulas
pub record IsGivenBy (formulas : List Formula) (v : Simplex) : Type 0 where
  pub numbers : All (IsNumberOf formulas) (number_terms (numbers_in v))
  pub made : All (IsSenseOf formulas) (senses_in v)

-- more formulas give it too
abbrev pub GivenByMore : Type 0
GivenByMore = (formulas more : List Formula) (v : Simplex) → All (Contains more) formulas
    → IsGivenBy formulas v → IsGivenBy more v

-- what a call makes of arithmetic terms of the formulas is theirs
abbrev pub GivenAfterCall : Type 0
GivenAfterCall = (formulas : List Formula) (terms : List Term) (v w : Simplex)
    → IsGivenBy formulas v → All (IsNumberOf formulas) (number_terms (numbers_in w))
    → All (IsNumberOf formulas) terms → AddsMade (senses_in v) (senses_in w) terms
    → IsGivenBy formulas w

-- ---- the stop

-- a call stopped that names these terms, and may make gaps of others, where the formulas gave them
-- and all that the arithmetic has, and the literals ask for no less than those that were asserted
pub record StopsAt (formulas : List Formula) (s : Sharing Simplex) (literals : List Item)
    (terms others : List Term) (why : Stop) : Type 0 where
  pub sound : IsSimplex s.theory
  pub underway : IsUnderway (shared_in s)
  pub given : IsGivenBy formulas s.theory
  pub literals_are : AreLiteralsOf formulas literals
  pub more : List Gap
  pub ask : flat_map asked literals ≡ flat_map asked (items_in (shared_in s)) ++ more
  pub terms_are : All (IsNumberOf formulas) terms
  pub others_are : All (IsNumberOf formulas) others
  pub barred : UnlessMemory (IsBarred s.theory (Contains terms) (IsGapOf others)) why
  pub memory : why ≢ stop.Memory

-- a stop is a jam of the formulas
abbrev pub StopIsJam : Type 0
StopIsJam = (formulas : List Formula) (s : Sharing Simplex) (literals : List Item)
    (terms others : List Term) (why : Stop) → StopsAt formulas s literals terms others why
    → IsJam formulas s.theory.limit (stuck_with s why literals)

-- what is equal in all models of literals that follow from formulas follows too
abbrev pub ToldFollows : Type 0
ToldFollows = (formulas : List Formula) (literals : List Item) (told : List (Term × Term))
    → AllFollow formulas literals → All (AreEqualInModels literals) told
    → All (λ pair. Follows formulas (Eq pair.0 pair.1)) told
