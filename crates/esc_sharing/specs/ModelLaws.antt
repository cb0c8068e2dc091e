-- What holds of models, classes and assignments where terms are arithmetic.
use Rattle.std.specs.Prelude.{◌↔◌, true, false, List}
use Rattle.std.specs.List.{Contains}
use Rattle.esc_term.specs.declared.term.Term.{Term}
use Rattle.esc_term.specs.declared.formula.Formula.{Formula}
use Rattle.esc_term.specs.declared.formula.Item.{Item}
use Rattle.esc_cover.specs.Arithmetic.{InPlay}
use Rattle.esc_cover.specs.Assignment.{Assignment, Satisfies, Suits}
use Rattle.esc_cover.specs.Classes.{together}
use Rattle.esc_cover.specs.Counterexample.{AllParted, IsConsistent}
use Rattle.esc_cover.specs.Least.{IsLeast}
use Rattle.esc_sharing.specs.Nodes.{classes_in}
use Rattle.esc_sharing.specs.Shared.{Shared, literals_in, play_in}
use Rattle.esc_sharing.specs.Unquantified.{HaveSameUnquantified, IsSamePlay}

-- ---- quantified formulas beside other literals

-- least classes are so for other literals that differ in quantified formulas alone
abbrev pub LeastStays : Type 0
LeastStays = (literals more : List Item) (play other : InPlay) (classes : List (List Term))
    → HaveSameUnquantified literals more → IsSamePlay play other
    → IsLeast literals play classes → IsLeast more other classes

-- classes that agree with literals agree with such others, where none of these has both signs
abbrev pub ConsistentStays : Type 0
ConsistentStays = (literals more : List Item) (classes : List (List Term))
    → HaveSameUnquantified literals more
    → ((f : Formula) → Contains more (record { formula = f; positive = true })
    → Contains more (record { formula = f; positive = false }) → ⊥)
    → IsConsistent literals classes → IsConsistent more classes

-- an assignment that satisfies literals satisfies such others
abbrev pub SatisfiesStays : Type 0
SatisfiesStays = (literals more : List Item) → HaveSameUnquantified literals more
    → (x : Assignment) → Satisfies x literals → Satisfies x more

-- arithmetic terms that are parted are so for such others
abbrev pub PartedStays : Type 0
PartedStays = (literals more : List Item) (play other : InPlay) (classes : List (List Term))
    → HaveSameUnquantified literals more → IsSamePlay play other
    → AllParted literals play.numbers classes → AllParted more other.numbers classes

-- ---- what an open sharing admits

-- the assignments that do what its literals and its classes ask are admitted, and no other; any two
-- arithmetic terms of different classes are parted by one
pub record AdmitsWhatSuits (v : Shared) : Type 0 where
  pub suits : (x : Assignment) → v.admits x
      ↔ Suits (literals_in v) (play_in v).numbers (together (classes_in v.graph)) x
  pub parted : AllParted (literals_in v) (play_in v).numbers (classes_in v.graph)
