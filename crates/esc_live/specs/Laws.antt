-- What holds where records of a branch were taken back.
use Rattle.std.specs.Prelude.{◌≡◌, IsTrue, List, ◌++◌}
use Rattle.std.specs.List.{All}
use Rattle.esc_term.specs.declared.formula.Formula.{Formula}
use Rattle.esc_term.specs.Formula.{is_closed}
use Rattle.esc_term.specs.Model.{Model}
use Rattle.esc_trail.specs.Undo.{CanRewind, rewind}
use Rattle.esc_simplex.specs.View.{senses_in}
use Rattle.esc_live.specs.LiveUndo.{AreSame, live_undo}
use Rattle.esc_live.specs.Promises.{IsBranch, IsGiven, IsSoundIn}
use Rattle.esc_live.specs.View.{logged}
use Rattle.esc_live.specs.declared.branch.LiveBranch.{LiveBranch}
use Rattle.esc_live.specs.declared.record.LiveRec.{LiveRec}

-- the first branch is the same as the second, with more formulas in its log
pub record IsBackAt (v w : LiveBranch) : Type 0 where
  pub same : AreSame v w
  pub more : List Formula
  pub log : logged v ≡ logged w ++ more
  pub closed : All (λ f. IsTrue (is_closed f)) (logged v)

-- where a branch is back at one that promises all, and its arithmetic is given by its log, it
-- promises all
abbrev pub BackIsBranch : Type 0
BackIsBranch = (v w : LiveBranch) → IsBackAt v w → IsGiven v → IsBranch w → IsBranch v

-- and what was so in a model is so
abbrev pub BackIsSound : Type 0
BackIsSound = (v w : LiveBranch) → IsBackAt v w → IsBranch w → (M : Model) → IsSoundIn M w
    → IsSoundIn M v

-- taking back leaves the log, the limit, what unknowns stand for, and the arithmetic given by the log
pub record LeavesLog (v w : LiveBranch) : Type 0 where
  pub given : IsGiven w
  pub log : logged w ≡ logged v
  pub means : senses_in w.sharing.theory ≡ senses_in v.sharing.theory
  pub limit : w.sharing.theory.limit ≡ v.sharing.theory.limit

abbrev pub RewoundIsGiven : Type 0
RewoundIsGiven = (v : LiveBranch) (recs : List LiveRec) → CanRewind live_undo v recs → IsGiven v
    → LeavesLog v (rewind live_undo v recs)
