-- What refining a branch leads to.
use Rattle.std.specs.Prelude.{◌≡◌, Option, Some, None}
use Rattle.std.specs.List.{All}
use Rattle.esc_cover.specs.Counterexample.{AllCovered}
use Rattle.esc_book.specs.Book.{IsLiveOccurrence}
use Rattle.esc_clause.specs.Laws.{IsCovered, IsSo}
use Rattle.esc_clause.specs.Refinement.{refined}
use Rattle.esc_clause.specs.declared.occurrence.Occurrence.{Occurrence}
use Rattle.esc_clause.specs.declared.truth.Refined.TheVariants.{Quiet}
use Rattle.esc_live.specs.Promises.{IsUndecided, decided_as}
use Rattle.esc_live.specs.View.{classes_on, judge_on, literals_on, live_on, logged}
use Rattle.esc_live.specs.declared.branch.LiveBranch.{LiveBranch}

-- no clause that is not satisfied has a single item left, or none
abbrev pub IsQuiet : LiveBranch → Type 0
IsQuiet v = refined (judge_on v) v.clauses ≡ Quiet

-- each live fact is covered, and what was decided is
pub record IsDone (v : LiveBranch) : Type 0 where
  pub facts : AllCovered (literals_on v) (classes_on v) (live_on v)
  pub decisions : All (λ d. IsSo (IsCovered (literals_on v) (classes_on v)) (logged v)
      (decided_as d)) v.clauses.decisions

-- where there is nothing to split, the branch is done; and what is split is an occurrence of a live
-- fact that was not decided
abbrev pub SplitsAt : LiveBranch → Option Occurrence → Type 0
SplitsAt v None = IsDone v
SplitsAt v (Some at) = IsLiveOccurrence v.book at × IsUndecided v at
