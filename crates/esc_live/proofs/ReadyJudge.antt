-- The judge of a branch is ready, and says what the branch says.
use Rattle.std.proofs.Common.{◌≡◌, List, ap, sym, subst, ◌∙◌, if◌then◌else◌}
use Rattle.std.specs.List.{All}
use Rattle.esc_clause.specs.declared.occurrence.Occurrence.{Occurrence}
use Rattle.esc_clause.specs.declared.truth.Truth.{Truth}
use Rattle.esc_clause.specs.declared.truth.Truth.TheVariants.{Open}
use Rattle.esc_book.specs.Book.{BookView, IsBook, IsLiveOccurrence, is_live, items_of}
use Rattle.esc_book.specs.Judging.{IsReady, judged_by_book, truth_at}
use Rattle.esc_book.specs.declared.judge.BookJudge.{BookJudge}
use Rattle.esc_egraph.specs.Graph.{Graph}
use Rattle.esc_sharing.specs.Nodes.{classes_in}
use Rattle.esc_said.specs.Speaking.{IsSayingOf, SpeaksFor}
use Rattle.esc_said.proofs.Sharings.{sharing_speaks}
use Rattle.esc_live.specs.StandingInside.{IsStanding}
use Rattle.esc_live.specs.View.{judge_on, literals_on}
use Rattle.esc_live.specs.declared.branch.LiveBranch.{LiveBranch}

judge_of : BookView → List Occurrence → Graph → Occurrence → Truth
judge_of b ls g at =
    if is_live b at.fact then truth_at b.logged (items_of b ls) (classes_in g) at else Open

module _ (v : LiveBranch) (j : BookJudge) (book : j.book.now ≡ v.book)
    (literals : j.literals.now ≡ v.literals) (saying : IsSayingOf j.saying v.sharing) where
  pub ready_by : IsStanding v → IsReady j
  ready_by standing = record {
    book = subst (λ g. IsBook g j.book.now) (sym saying.graph)
        (subst (IsBook v.sharing.graph) (sym book) standing.book);
    live = subst (λ (b : BookView). All (IsLiveOccurrence b) j.literals.now) (sym book)
        (subst (All (IsLiveOccurrence v.book)) (sym literals) standing.shared.occur);
    speaks = subst (λ (b : BookView). SpeaksFor j.saying (items_of b j.literals.now)) (sym book)
        (subst (λ ls. SpeaksFor j.saying (items_of v.book ls)) (sym literals)
        (sharing_speaks v.sharing j.saying (literals_on v) saying standing.shared.shared
        standing.shared.asserted));
  }

pub judged_on : (v : LiveBranch) (g : Graph) → g ≡ v.sharing.graph
    → (λ (at : Occurrence). if is_live v.book at.fact
    then truth_at v.book.logged (items_of v.book v.literals) (classes_in g) at else Open)
    ≡ judge_on v
unfolding judge_of
judged_on v g same = ap (judge_of v.book v.literals) same
