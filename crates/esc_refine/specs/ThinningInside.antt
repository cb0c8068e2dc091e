-- What dropping items that fail leaves of a branch, and what it tells.
use Rattle.std.specs.Prelude.{◌≡◌}
use Rattle.esc_term.specs.Model.{Model}
use Rattle.esc_cover.specs.Laws.{HoldsIn}
use Rattle.esc_book.specs.Book.{IsLiveOccurrence}
use Rattle.esc_clause.specs.ClauseContext.{ClauseContext}
use Rattle.esc_clause.specs.Laws.{IsSo}
use Rattle.esc_clause.specs.Refinement.{judged_by}
use Rattle.esc_clause.specs.declared.occurrence.Occurrence.{Occurrence}
use Rattle.esc_clause.specs.declared.truth.Refined.{Refined}
use Rattle.esc_clause.specs.declared.truth.Refined.TheVariants.{Empty, Quiet, Unit}
use Rattle.esc_clause.specs.declared.truth.Truth.{Truth}
use Rattle.esc_live.specs.Promises.{IsSoundIn, IsUndecided}
use Rattle.esc_live.specs.View.{judge_on, logged}
use Rattle.esc_live.specs.declared.branch.LiveBranch.{LiveBranch}
use Rattle.esc_refine.specs.Refining.{IsQuiet}

-- what the decisions say of an occurrence, and the literals where they say nothing
abbrev pub truth_on : LiveBranch → Occurrence → Truth
truth_on v = judged_by (judge_on v) v.clauses.decisions

abbrev pub with_clauses : LiveBranch → ClauseContext → LiveBranch
with_clauses v clauses = record v { clauses = clauses }

-- all but the clauses is as it was, and so are the decisions
pub record IsThinner (v w : LiveBranch) : Type 0 where
  pub clauses : ClauseContext
  pub is : w ≡ with_clauses v clauses
  pub decisions : clauses.decisions ≡ v.clauses.decisions

-- the occurrence is one that may be decided, and is so where the branch is
pub record IsAlone (v w : LiveBranch) (at : Occurrence) : Type 0 where
  pub live : IsLiveOccurrence w.book at
  pub undecided : IsUndecided w at
  pub so : (M : Model) → IsSoundIn M v → IsSo (HoldsIn M) (logged w) at

-- what is told of the clauses is so: a clause has nothing left, no clause has a single item left,
-- or this one
abbrev pub Comes : LiveBranch → LiveBranch → Refined → Type 0
Comes v w Empty = (M : Model) → IsSoundIn M v → ⊥
Comes v w Quiet = IsQuiet w
Comes v w (Unit at) = IsAlone v w at

-- and what was so in a model is so
pub record Tells (v w : LiveBranch) (told : Refined) : Type 0 where
  pub comes : Comes v w told
  pub sound : (M : Model) → IsSoundIn M v → IsSoundIn M w
