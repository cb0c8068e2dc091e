-- How a search goes back to a level.
use Rattle.std.specs.Prelude.{◌≡◌, List, ◌++◌, length}
use Rattle.esc_tableau.specs.Listed.{tabled}
use Rattle.esc_trail.specs.Undo.{CanRewind, rewind}
use Rattle.esc_simplex.specs.Calls.{AreRowsFor}
use Rattle.esc_simplex.specs.Senses.{Sense}
use Rattle.esc_simplex.specs.View.{senses_in}
use Rattle.esc_simplex.specs.declared.simplex.Simplex.{Simplex}
use Rattle.esc_play.specs.Play.{HasMore}
use Rattle.esc_live.specs.LiveUndo.{AreSame, live_undo}
use Rattle.esc_live.specs.Promises.{IsBranch, IsGiven}
use Rattle.esc_live.specs.View.{logged}
use Rattle.esc_live.specs.declared.record.LiveRec.{LiveRec}
use Rattle.esc_search.specs.declared.level.Level.{Level}
use Rattle.esc_search.specs.declared.search.Search.{Search}

abbrev pub arithmetic_of : Search → Simplex
arithmetic_of s = s.branch.sharing.theory

-- what each unknown in the rows stands for
abbrev pub meanings_of : Search → List Sense
meanings_of s = senses_in (arithmetic_of s)

-- taking back the newest records of the first search gives the second one's branch, and whatever
-- taking back leaves only grew since
pub record GoesBackTo (s t : Search) : Type 0 where
  pub newest : List LiveRec
  pub records : s.trail.records ≡ t.trail.records ++ newest
  pub undoable : CanRewind live_undo s.branch newest
  pub same : AreSame (rewind live_undo s.branch newest) t.branch
  pub meanings : HasMore (meanings_of t) (meanings_of s)
  pub formulas : HasMore (logged t.branch) (logged s.branch)
  pub log : HasMore t.log s.log
  pub sides : HasMore t.sides s.sides
  pub splits : HasMore t.splits s.splits
  pub limits : s.limits ≡ t.limits

-- the level was begun where the search stood so
pub record IsBegunAt (level : Level) (t : Search) : Type 0 where
  pub mark : level.mark ≡ length t.trail.records
  pub formulas : level.formulas ≡ length (logged t.branch)
  pub facts : level.facts ≡ length t.log
  pub sides : level.sides ≡ length t.sides
  pub splits : level.splits ≡ length t.splits
  pub under : level.under ≡ t.under
  pub rows : tabled level.rows ≡ (arithmetic_of t).tableau
  pub fit : AreRowsFor (arithmetic_of t) level.rows
  pub branch : IsBranch t.branch
  pub given : IsGiven t.branch

-- the search can go back to where the level was begun
pub record CanReturn (s : Search) (level : Level) : Type 0 where
  pub there : Search
  pub begun : IsBegunAt level there
  pub back : GoesBackTo s there
  pub given : IsGiven s.branch

-- what the one search can go back to, so can the other
abbrev pub KeepsLevels : Search → Search → Type 0
KeepsLevels v w = (t : Search) → GoesBackTo v t → GoesBackTo w t

-- all is as it was: each part of the branch that is taken back, and the rows of the tableau, what
-- unknowns stand for in them, the log, the splits and the trail, which taking back leaves
pub record IsAsBefore (s t : Search) : Type 0 where
  pub branch : AreSame s.branch t.branch
  pub rows : (arithmetic_of s).tableau ≡ (arithmetic_of t).tableau
  pub meanings : meanings_of s ≡ meanings_of t
  pub formulas : logged s.branch ≡ logged t.branch
  pub log : s.log ≡ t.log
  pub sides : s.sides ≡ t.sides
  pub splits : s.splits ≡ t.splits
  pub under : s.under ≡ t.under
  pub records : s.trail.records ≡ t.trail.records
  pub limits : s.limits ≡ t.limits

-- ended at the level, the search is as it was where the level was begun, and can go back to what it
-- could go back to there
pub record IsBackAt (level : Level) (v w : Search) : Type 0 where
  pub as_before : (t : Search) → IsBegunAt level t → GoesBackTo v t → IsAsBefore w t
  pub older : (t : Search) → IsBegunAt level t → GoesBackTo v t → KeepsLevels t w
