-- Scripts that can be gone on with and taken back.
use Rattle.std.specs.Prelude.{ℕ, ◌≤◌, List, [], ◌∷◌, IsTrue}
use Rattle.std.specs.List.{All}
use Rattle.esc_term.specs.declared.term.Term.{Term}
use Rattle.esc_cover.specs.Assignment.{Assignment}
use Rattle.esc_trail.specs.Undo.{Undo}
use Rattle.esc_simplex.specs.SimplexUndo.{simplex_undo}
use Rattle.esc_simplex.specs.View.{Allows, IsSimplex, numbers_in}
use Rattle.esc_sharing.specs.Shared.{IsShared, seen}
use Rattle.esc_sharing.specs.Staying.{StandsAt}
use Rattle.sharing_cases.specs.ConstantTerms.{AreWorth, constants_undo}
use Rattle.sharing_cases.specs.ConstantTerms.{numbers_in as constant_numbers}
use Rattle.sharing_cases.specs.declared.kept.Kept.{Kept}
use Rattle.sharing_cases.specs.declared.kept.Kept.TheVariants.{Rows, Constants}
use Rattle.sharing_cases.specs.declared.script.Script.{Script}

-- none is below one before it
abbrev pub AreRising : List ℕ → Type 0
AreRising [] = Unit {0}
AreRising (m ∷ ms) = All (λ k. m ≤ k) ms × AreRising ms

-- all can be taken back to each mark, and where calls may be made all promises hold
pub record IsUndoable {T Q : Type 0} (undo : Undo T Q) (sound : T → Type 0)
    (admits : T → Assignment → Type 0) (numbers : T → List (ℕ × Term)) (s : Script T Q)
    : Type 0 where
  pub holds : sound s.owner.theory
  pub levels : All (StandsAt undo sound admits numbers s.owner s.trail.records) s.levels.items
  pub rising : AreRising s.levels.items
  pub goes : IsTrue s.goes → IsShared (seen sound admits numbers s.owner)

abbrev pub IsKept : Kept → Type 0
IsKept (Rows s) = IsUndoable simplex_undo IsSimplex Allows numbers_in s
IsKept (Constants s) = IsUndoable constants_undo AreWorth (λ v x. Unit {0}) constant_numbers s
