-- What a branch promises while it is open.
use Rattle.std.specs.Prelude.{◌≡◌, ℕ, Bool, true, false, IsTrue, List, Any}
use Rattle.std.specs.List.{All, AllPairs, Contains, filter, flat_map}
use Rattle.esc_term.specs.Formula.{is_closed}
use Rattle.esc_term.specs.Model.{Model}
use Rattle.esc_cover.specs.Arithmetic.{play_of}
use Rattle.esc_cover.specs.Assignment.{asked}
use Rattle.esc_cover.specs.Counterexample.{AreLiteralsOf, IsConsistent}
use Rattle.esc_cover.specs.Laws.{HoldsIn}
use Rattle.esc_clause.specs.ClauseContext.{left_in}
use Rattle.esc_clause.specs.Expansion.{clauses_of}
use Rattle.esc_clause.specs.Laws.{IsSo}
use Rattle.esc_clause.specs.Refinement.{are_alike, is_same_place}
use Rattle.esc_clause.specs.declared.decision.Decision.{Decision}
use Rattle.esc_clause.specs.declared.occurrence.Occurrence.{Occurrence}
use Rattle.esc_book.specs.Book.{IsBook, IsLiveOccurrence}
use Rattle.esc_simplex.specs.View.{IsSimplex}
use Rattle.esc_sharing.specs.Shared.{IsShared, items_in, literals_in, play_in}
use Rattle.esc_sharing.specs.Unquantified.{HaveSameUnquantified, IsSamePlay}
use Rattle.esc_outcome.specs.JamLaws.{IsGivenBy, shared_in}
use Rattle.esc_live.specs.Expanded.{IsExpanded}
use Rattle.esc_live.specs.View.{classes_on, literals_on, live_on, logged}
use Rattle.esc_live.specs.declared.branch.LiveBranch.{LiveBranch}

-- ---- what was asserted

-- the occurrence of a whole fact, which is to hold
abbrev pub whole_at : ℕ → Occurrence
whole_at place = record { fact = place; place = 0; positive = true }

-- the occurrence with the sign that was decided
abbrev pub decided_as : Decision → Occurrence
decided_as d = record d.at { positive = are_alike d.holds d.at.positive }

-- the signed formula is covered, or its parts were expanded, or its clauses stand
abbrev pub WasExpanded : LiveBranch → Occurrence → Type 0
WasExpanded v = IsExpanded (logged v) (literals_on v) (classes_on v) (left_in v.clauses)

-- some items, in order, of a clause that a part of a live fact makes
pub record IsMade (v : LiveBranch) (clause : List Occurrence) : Type 0 where
  pub part : Occurrence
  pub live : IsLiveOccurrence v.book part
  pub whole : List Occurrence
  pub made : Contains (clauses_of (logged v) part) whole
  pub test : Occurrence → Bool
  pub left : clause ≡ filter test whole

-- the occurrence was not decided
abbrev pub IsUndecided : LiveBranch → Occurrence → Type 0
IsUndecided v at = All (λ d. is_same_place d.at at ≡ false) v.clauses.decisions

-- ---- the parts of the promise

-- sharing and literals: the terms in play are those of the live facts, and the sharing has the
-- literals but for quantified formulas
pub record IsSharedOn (v : LiveBranch) : Type 0 where
  pub shared : IsShared (shared_in v.sharing)
  pub play : IsSamePlay (play_in (shared_in v.sharing)) (play_of (live_on v))
  pub asserted : HaveSameUnquantified (literals_in (shared_in v.sharing)) (literals_on v)
  -- orders came to both in one order
  pub asks : flat_map asked (literals_on v) ≡ flat_map asked (items_in (shared_in v.sharing))
  pub consistent : IsConsistent (literals_on v) (classes_on v)
  pub literals_are : AreLiteralsOf (live_on v) (literals_on v)
  pub occur : All (IsLiveOccurrence v.book) v.literals

-- no occurrence was decided twice, and each is one of a live fact
pub record AreDecisions (v : LiveBranch) : Type 0 where
  pub live : All (λ d. IsLiveOccurrence v.book d.at) v.clauses.decisions
  pub differ : AllPairs (λ a b. is_same_place a.at b.at ≡ false) v.clauses.decisions

-- all of it: each live fact and each decision was expanded
pub record IsBranch (v : LiveBranch) : Type 0 where
  pub closed : All (λ f. IsTrue (is_closed f)) (logged v)
  pub book : IsBook v.sharing.graph v.book
  pub shared : IsSharedOn v
  pub clauses : All (IsMade v) (left_in v.clauses)
  pub decisions : AreDecisions v
  pub facts : (place : ℕ) → Contains v.book.live place → WasExpanded v (whole_at place)
  pub decided : All (λ d. WasExpanded v (decided_as d)) v.clauses.decisions

-- what holds also where the branch is not open: the arithmetic knows terms of the formulas alone
pub record IsGiven (v : LiveBranch) : Type 0 where
  pub sound : IsSimplex v.sharing.theory
  pub given : IsGivenBy (logged v) v.sharing.theory

-- ---- what is so in a model

-- literals, decisions and clauses are so
pub record IsSoundIn (M : Model) (v : LiveBranch) : Type 0 where
  pub literals : All (HoldsIn M) (literals_on v)
  pub decisions : All (λ d. IsSo (HoldsIn M) (logged v) (decided_as d)) v.clauses.decisions
  pub clauses : All (Any (IsSo (HoldsIn M) (logged v))) (left_in v.clauses)
