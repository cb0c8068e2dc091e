-- Where a quiet branch is to be split.
use Rattle.std.proofs.Common.{◌≡◌, ◌∷◌, Option, Some, None, sym}
use Rattle.esc_term.proofs.Members.{Contains-here}
use Rattle.esc_clause.specs.Laws.{ConsistentSaysNothingTwice, ExpansionIsComplete}
use Rattle.esc_clause.specs.Refinement.{next_split}
use Rattle.esc_clause.specs.declared.occurrence.Occurrence.{Occurrence}
use Rattle.esc_live.specs.Promises.{IsBranch}
use Rattle.esc_live.specs.View.{judge_on}
use Rattle.esc_live.specs.declared.branch.LiveBranch.{LiveBranch}
use Rattle.esc_refine.specs.Refining.{IsQuiet, SplitsAt}
use Rattle.esc_refine.specs.ThinningInside.{truth_on}
use Rattle.esc_refine.proofs.Done.{branch_done}
use Rattle.esc_refine.proofs.Lightened.{may_be_decided}
use Rattle.esc_refine.proofs.Told.{none_waits, waits_split}

pub split_there : (v : LiveBranch) → ExpansionIsComplete → ConsistentSaysNothingTwice
    → IsBranch v → IsQuiet v → (result : Option Occurrence)
    → result ≡ next_split (judge_on v) v.clauses → SplitsAt v result
split_there v complete once is quiet None e =
    branch_done v complete once is (none_waits (truth_on v) v.clauses.clauses quiet (sym e))
split_there v complete once is quiet (Some at) e =
    let found = waits_split (truth_on v) v.clauses.clauses at (sym e) in
    let may =
    may_be_decided v is at (at ∷ found.0) found.1 (Contains-here at found.0) in
    (may.live, may.undecided)
