-- Where formulas have no arithmetic but numerals, it does not stop.
use Rattle.std.specs.Prelude.{ℕ, ◌<◌, ◌^◌, ℤ, unsigned_abs, IsTrue, List}
use Rattle.std.specs.List.{Contains, list_all}
use Rattle.esc_term.specs.declared.term.Term.TheVariants.{Num}
use Rattle.esc_term.specs.declared.formula.Formula.{Formula}
use Rattle.esc_cover.specs.Classes.{active_terms}
use Rattle.esc_cover.specs.Laws.{is_free_of_arithmetic}
use Rattle.esc_outcome.specs.Jam.{IsJam}
use Rattle.esc_outcome.specs.declared.stuck.Stuck.{Stuck}

-- as those that can be read
abbrev pub NumeralsAreSmall : List Formula → Type 0
NumeralsAreSmall formulas =
    (n : ℤ) → Contains (active_terms formulas) (Num n) → unsigned_abs n < 2 ^ 64

-- formulas without sums, differences, products and orders have no jam
abbrev pub FreeHasNoJam : Type 0
FreeHasNoJam = (formulas : List Formula) (limit : ℕ) (stuck : Stuck)
    → IsTrue (list_all is_free_of_arithmetic formulas) → NumeralsAreSmall formulas
    → IsJam formulas limit stuck → ⊥
