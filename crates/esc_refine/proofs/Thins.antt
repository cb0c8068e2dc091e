-- What going through the clauses of a branch leaves of it, at either answer.
use Rattle.std.proofs.Common.{◌≡◌, Result, Ok, Err, IfOk, OnOk, OnErr, refl, ap, sym, subst}
use Rattle.std.proofs.Common.{◌∙◌}
use Rattle.std.specs.List.{All}
use Rattle.esc_book.specs.Book.{IsBook, IsLiveOccurrence, items_of}
use Rattle.esc_book.specs.Judging.{IsReady}
use Rattle.esc_book.specs.declared.judge.BookJudge.{BookJudge}
use Rattle.esc_clause.specs.ClauseContext.{ClauseContext}
use Rattle.esc_clause.specs.Refinement.{IsLighter, lighter, refined}
use Rattle.esc_clause.specs.declared.occurrence.Occurrence.{Occurrence}
use Rattle.esc_clause.specs.declared.truth.Refined.{Refined}
use Rattle.esc_clause.specs.declared.truth.Truth.{Truth}
use Rattle.esc_egraph.specs.Graph.{Graph}
use Rattle.esc_said.specs.Speaking.{IsSayingOf, SharingSpeaks, SpeaksFor}
use Rattle.esc_live.specs.Promises.{IsBranch}
use Rattle.esc_live.specs.View.{judge_on, literals_on}
use Rattle.esc_live.specs.declared.branch.LiveBranch.{LiveBranch}
use Rattle.esc_refine.specs.ThinningInside.{IsThinner, Tells, with_clauses}
use Rattle.esc_refine.proofs.Lightened.{SaysSo, thinned_branch, thinned_tells}

-- ---- the judge of a branch

-- the judge has the parts of the branch
pub record IsJudgeOf (j : BookJudge) (v : LiveBranch) : Type 0 where
  pub book : j.book.now ≡ v.book
  pub saying : IsSayingOf j.saying v.sharing
  pub literals : j.literals.now ≡ v.literals

module _ (j : BookJudge) (v : LiveBranch) (of : IsJudgeOf j v) where
  pub ready_on : SharingSpeaks → IsBranch v → IsReady j
  ready_on speaks is = record {
    book = subst (λ g. IsBook g j.book.now) (sym of.saying.graph)
        (subst (IsBook v.sharing.graph) (sym of.book) is.book);
    live = subst (λ ls. All (IsLiveOccurrence j.book.now) ls) (sym of.literals)
        (subst (λ b. All (IsLiveOccurrence b) v.literals) (sym of.book) is.shared.occur);
    speaks = subst (λ ls. SpeaksFor j.saying (items_of j.book.now ls)) (sym of.literals)
        (subst (λ b. SpeaksFor j.saying (items_of b v.literals)) (sym of.book)
        (speaks v.sharing j.saying (literals_on v) of.saying is.shared.shared
        is.shared.asserted));
  }

abbrev pub with_graph : LiveBranch → Graph → LiveBranch
with_graph v g = record v { sharing = record v.sharing { graph = g } }

-- with the graph of the branch the same is said
pub judged_on : (v : LiveBranch) (g : Graph) → g ≡ v.sharing.graph
    → judge_on (with_graph v g) ≡ judge_on v
judged_on v g e = ap (λ h. judge_on (with_graph v h)) e

-- ---- both answers

module _ (v : LiveBranch) (judge : Occurrence → Truth) (new : ClauseContext) where
  pub is_thinner : {E : Type 0} (result : Result Refined E)
      → OnOk result (new ≡ lighter judge v.clauses)
      → OnErr result (IsLighter judge v.clauses new) → IsThinner v (with_clauses v new)
  is_thinner (Ok told) ok err =
      record { clauses = new; is = refl; decisions = ap (λ (c : ClauseContext). c.decisions) ok }
  is_thinner (Err why) ok err =
      record {
        clauses = new;
        is = refl;
        decisions = ap (λ (c : ClauseContext). c.decisions) err.lighter;
      }

  module _ (is : IsBranch v) (same : judge ≡ judge_on v) where
    as_lightened : new ≡ lighter judge v.clauses → new ≡ lighter (judge_on v) v.clauses
    as_lightened e = e ∙ ap (λ j. lighter j v.clauses) same

    pub still_branch : {E : Type 0} (result : Result Refined E) → SaysSo v
        → OnOk result (new ≡ lighter judge v.clauses)
        → IfOk result (λ told. IsBranch (with_clauses v new))
    still_branch (Ok told) says ok =
        subst (λ c. IsBranch (with_clauses v c)) (sym (as_lightened ok)) (thinned_branch v is says)
    still_branch (Err why) says ok = tt

    pub tells_of : {E : Type 0} (result : Result Refined E) → SaysSo v
        → OnOk result (new ≡ lighter judge v.clauses)
        → IfOk result (λ told. told ≡ refined judge v.clauses)
        → IfOk result (Tells v (with_clauses v new))
    tells_of (Ok told) says ok exact =
        subst (λ c. Tells v (with_clauses v c) told) (sym (as_lightened ok))
        (thinned_tells v is says told (exact ∙ ap (λ j. refined j v.clauses) same))
    tells_of (Err why) says ok exact = tt
