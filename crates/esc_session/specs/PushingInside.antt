-- How formulas are assumed inside a push.
use Rattle.std.specs.Prelude.{◌≡◌, ℕ, true, List, [], ◌∷◌, ◌++◌, Option, length}
use Rattle.std.specs.List.{All, Contains}
use Rattle.esc_term.specs.declared.formula.Formula.{Formula}
use Rattle.esc_term.specs.declared.term.Sym.{Sym}
use Rattle.esc_term.specs.Refuted.{Refuted}
use Rattle.esc_fact.specs.Fact.{formulas_of}
use Rattle.esc_fact.specs.declared.base.Base.{Base}
use Rattle.esc_search.specs.Levels.{KeepsLevels}
use Rattle.esc_search.specs.Proving.{IsOfArithmetic, IsReady}
use Rattle.esc_search.specs.declared.outcome.Outcome.{Outcome}
use Rattle.esc_search.specs.declared.outcome.Outcome.TheVariants as outcome
use Rattle.esc_search.specs.declared.search.Search.{Search}
use Rattle.esc_verdict.specs.Causes.{IsCause}
use Rattle.esc_session.specs.Back.{IsAgain}
use Rattle.esc_session.specs.Between.{StandsBy}
use Rattle.esc_session.specs.declared.batch.Standing.{Standing}
use Rattle.esc_session.specs.declared.batch.Standing.TheVariants.{Behind}
use Rattle.esc_session.specs.declared.session.Session.{Session}

-- the formulas of the log are of the background
abbrev pub IsLoggedOf : Base → Search → Type 0
IsLoggedOf base s = All (Contains base.background) (formulas_of base s.log)

-- the whole background is asserted, or so it ended before
abbrev pub RestEnds : Base → Search → Outcome → Type 0
RestEnds base s outcome.Open = IsReady base s × (length s.log ≡ length base.background)
RestEnds base s outcome.Closed = Refuted (formulas_of base s.log) × IsLoggedOf base s
RestEnds base s (outcome.Stopped why) = IsCause base s.limits why × IsOfArithmetic why
RestEnds base s outcome.Memory = Unit {0}

-- more of the background is asserted than was
pub record GoesOn (base : Base) (s t : Search) : Type 0 where
  pub ready : IsReady base t
  pub levels : KeepsLevels s t
  pub limits : t.limits ≡ s.limits
  pub tally : t.tally ≡ s.tally

-- the background stands so, and before it the search was so
abbrev pub GivesStanding : Base → Search → Search → Standing → Type 0
GivesStanding base s t standing =
    StandsBy s.limits base.background t standing true (IsAgain s)

-- a batch of the formulas behind the others, which waits
abbrev pub joined : Session → Option (Sym × ℕ) → List Formula → Session
joined s predicate fs = record s {
  base = record s.base { background = s.base.background ++ fs };
  batches = s.batches ++ record {
    first = length s.base.background;
    predicate = predicate;
    standing = Behind;
  } ∷ [];
}
