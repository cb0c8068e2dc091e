-- Scripts that can be gone on with and taken back.
use Rattle.esc_trail.specs.Undo.{CanRewind}
use Rattle.esc_simplex.specs.View.{IsSimplex}
use Rattle.simplex_cases.specs.Undoing.{restrictions_undo}
use Rattle.simplex_cases.specs.declared.script.Script.{Script}

-- calls may be made, and all that was noted can be taken back
pub record IsUndoable (s : Script) : Type 0 where
  pub sound : IsSimplex s.owner.simplex
  pub rewinds : CanRewind restrictions_undo s.owner s.trail.records
