-- What the calls of a branch leave and answer.
use Rattle.std.specs.Prelude.{◌≡◌, ◌⊎◌, ℕ, List, [], ◌∷◌, ◌++◌, Result, Ok, Err}
use Rattle.std.specs.List.{All}
use Rattle.esc_term.specs.Model.{Model}
use Rattle.esc_cover.specs.Laws.{HoldsIn}
use Rattle.esc_clause.specs.Laws.{IsSo}
use Rattle.esc_clause.specs.declared.decision.Decision.{Decision}
use Rattle.esc_clause.specs.declared.occurrence.Occurrence.{Occurrence}
use Rattle.esc_book.specs.Book.{IsBook, IsLiveOccurrence}
use Rattle.esc_egraph.specs.declared.state.State.{State}
use Rattle.esc_egraph.specs.declared.state.State.TheVariants.{Open, Closed}
use Rattle.esc_simplex.specs.View.{senses_in}
use Rattle.esc_simplex.specs.declared.stop.Stop.{Stop}
use Rattle.esc_simplex.specs.declared.stop.Stop.TheVariants as stop
use Rattle.esc_sharing.specs.Shared.{AreEqualInModels, told_in}
use Rattle.esc_outcome.specs.JamLaws.{shared_in}
use Rattle.esc_outcome.specs.Stopping.{IsStopped}
use Rattle.esc_play.specs.Play.{HasMore}
use Rattle.esc_live.specs.Promises.{IsBranch, IsSoundIn, decided_as, whole_at}
use Rattle.esc_live.specs.View.{literals_on, logged}
use Rattle.esc_live.specs.declared.branch.LiveBranch.{LiveBranch}

-- the stop is a jam of the log's formulas, and what the arithmetic was told is so where the literals
-- are
pub record IsStoppedAt (v : LiveBranch) (why : Stop) : Type 0 where
  pub book : IsBook v.sharing.graph v.book
  pub occur : All (IsLiveOccurrence v.book) v.literals
  pub stopped : IsStopped (logged v) v.sharing (literals_on v) why
  pub told : All (AreEqualInModels (literals_on v)) (told_in (shared_in v.sharing))

-- In models where this is so: at Open all promises hold and literals, decisions and clauses are so;
-- at Closed there is no such model; and where the arithmetic stopped, the literals are so.
abbrev pub Ends : LiveBranch → (Model → Type 0) → Result State Stop → Type 0
Ends w So (Ok Open) = IsBranch w × ((M : Model) → So M → IsSoundIn M w)
Ends w So (Ok Closed) = (M : Model) → So M → ⊥
Ends w So (Err stop.Memory) = Unit {0}
Ends w So (Err why) = IsStoppedAt w why × ((M : Model) → So M → All (HoldsIn M) (literals_on w))

-- literals came behind the others
abbrev pub AddsLiterals : LiveBranch → LiveBranch → Type 0
AddsLiterals v w = (more : List Occurrence) × (w.literals ≡ v.literals ++ more)

-- the fact became live, or neither it nor a literal came
abbrev pub GoesLiveOrNothing : LiveBranch → LiveBranch → ℕ → Type 0
GoesLiveOrNothing v w place = (w.book.live ≡ v.book.live ++ place ∷ [])
    ⊎ ((w.book.live ≡ v.book.live) × (w.literals ≡ v.literals))

-- what unknowns of the arithmetic stood for they stand for, and others may have come behind them
abbrev pub MeansMore : LiveBranch → LiveBranch → Type 0
MeansMore v w = HasMore (senses_in v.sharing.theory) (senses_in w.sharing.theory)

-- log and live facts are as they were, and literals and decisions came behind the others
pub record GoesOn (v w : LiveBranch) : Type 0 where
  pub book : w.book ≡ v.book
  pub literals : AddsLiterals v w
  pub decisions : (more : List Decision) × (w.clauses.decisions ≡ v.clauses.decisions ++ more)
  pub means : MeansMore v w
  pub limit : w.sharing.theory.limit ≡ v.sharing.theory.limit

-- the branch is so in the model, and so is the fact at the place of the log
abbrev pub HoldsWithFact : LiveBranch → ℕ → Model → Type 0
HoldsWithFact v place M = IsSoundIn M v × IsSo (HoldsIn M) (logged v) (whole_at place)

-- the branch is so in the model, and so is what is decided
abbrev pub HoldsWithDecision : LiveBranch → Decision → Model → Type 0
HoldsWithDecision v d M = IsSoundIn M v × IsSo (HoldsIn M) (logged v) (decided_as d)
