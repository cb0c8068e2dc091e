-- What holds between rounds of refining.
use Rattle.std.specs.Prelude.{List}
use Rattle.esc_term.specs.Model.{Model}
use Rattle.esc_trail.specs.Undo.{Notes}
use Rattle.esc_live.specs.Calls.{GoesOn}
use Rattle.esc_live.specs.LiveUndo.{live_undo}
use Rattle.esc_live.specs.Promises.{IsBranch, IsGiven, IsSoundIn}
use Rattle.esc_live.specs.declared.branch.LiveBranch.{LiveBranch}
use Rattle.esc_live.specs.declared.record.LiveRec.{LiveRec}

-- what holds at every answer
pub record Goes (before : List LiveRec) (entry : LiveBranch) (after : List LiveRec)
    (now : LiveBranch) : Type 0 where
  pub goes_on : GoesOn entry now
  pub given : IsGiven now
  pub undo : Notes live_undo (λ rec. rec) before after entry now

-- what holds while the branch is open
pub record Stands (entry now : LiveBranch) : Type 0 where
  pub branch : IsBranch now
  pub sound : (M : Model) → IsSoundIn M entry → IsSoundIn M now

pub record Round (before : List LiveRec) (entry : LiveBranch) (after : List LiveRec)
    (now : LiveBranch) : Type 0 where
  pub goes : Goes before entry after now
  pub stands : Stands entry now
