-- How batches end, the newest first.
use Rattle.std.specs.Prelude.{◌≡◌, ◌≤◌, ℕ, Bool, List, [], ◌∷◌, ◌++◌, length, reverse, take}
use Rattle.std.specs.Option.{IsSome, is_some}
use Rattle.std.specs.List.{All}
use Rattle.esc_answers.specs.State.{AreRules}
use Rattle.esc_search.specs.Levels.{CanReturn, GoesBackTo, IsBegunAt}
use Rattle.esc_search.specs.declared.search.Search.{Search}
use Rattle.esc_session.specs.Back.{LeadsBack}
use Rattle.esc_session.specs.Between.{IsBetween}
use Rattle.esc_session.specs.SessionInside.{LeavesRest}
use Rattle.esc_session.specs.View.{state_of}
use Rattle.esc_session.specs.declared.batch.Batch.{Batch}
use Rattle.esc_session.specs.declared.batch.Standing.{Standing}
use Rattle.esc_session.specs.declared.batch.Standing.TheVariants.{Asserted, Closed}
use Rattle.esc_session.specs.declared.session.Session.{Session}

-- the search can go back to before a batch that stands so
abbrev pub CanEnd : Search → Standing → Type 0
CanEnd s (Asserted level) = CanReturn s level
CanEnd s (Closed level) = CanReturn s level
CanEnd s standing = Unit {0}

-- so the search was before a batch that stands so
abbrev pub WasBefore : Search → Standing → Search → Type 0
WasBefore s (Asserted level) there = IsBegunAt level there × GoesBackTo s there
WasBefore s (Closed level) there = IsBegunAt level there × GoesBackTo s there
WasBefore s standing there = s ≡ there

-- the newest batch went, and the search is as it was before it
pub record DropsOne (s t : Session) (is_rule : Bool) : Type 0 where
  pub batch : Batch
  pub batches : s.batches ≡ t.batches ++ batch ∷ []
  pub rule : is_rule ≡ is_some batch.predicate
  pub first : batch.first ≤ length s.base.background
  pub base : t.base ≡ record s.base { background = take batch.first s.base.background }
  pub search : (older : List Batch) (u : Search) → LeadsBack s.search (batch ∷ older) u
      → LeadsBack t.search older u

-- rules went, and the search is as it was before them
pub record DropsRules (s t : Session) : Type 0 where
  pub rules : List Batch
  pub batches : s.batches ≡ t.batches ++ rules
  pub are_rules : All (λ b. IsSome b.predicate) rules
  pub kept : ℕ
  pub base : t.base ≡ record s.base { background = take kept s.base.background }
  pub search : (older : List Batch) (u : Search) → LeadsBack s.search (reverse rules ++ older) u
      → LeadsBack t.search older u

-- rules went, and a push is still there
pub record IsPopping (s t : Session) : Type 0 where
  pub went : DropsRules s t
  pub between : IsBetween t
  pub leaves : LeavesRest s t
  pub push : AreRules (state_of t).batches → ⊥
