-- A literal is on the list, and neither graph nor theory has it yet.
use Rattle.std.specs.Prelude.{◌≡◌, List, [], ◌∷◌, ◌++◌}
use Rattle.esc_sharing.specs.Literals.{AreSides}
use Rattle.esc_sharing.specs.Shared.{IsShared, Shared}
use Rattle.esc_sharing.specs.declared.literal.Lit.{Lit}
use Rattle.esc_sharing.specs.declared.literal.Lit.TheVariants.{Equal, Apart, Below, AtMost}

abbrev pub IsOrder : Lit → Type 0
IsOrder (Equal a b) = ⊥
IsOrder (Apart a b) = ⊥
IsOrder (Below a b) = Unit {0}
IsOrder (AtMost a b) = Unit {0}

-- without the last literal all promises hold
pub record IsAsserting (v : Shared) (lit : Lit) : Type 0 where
  pub before : List Lit
  pub asserted : v.asserted ≡ before ++ (lit ∷ [])
  pub shared : IsShared (record v { asserted = before })
  pub sides : AreSides v.graph v.numbers lit
