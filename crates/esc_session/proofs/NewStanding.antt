-- How a background that was asserted in a level stands.
use Rattle.std.proofs.Common.{◌≡◌, None, refl, subst, subst₂, ap}
use Rattle.esc_term.specs.Laws.{RefutedAmongMore}
use Rattle.esc_fact.specs.Fact.{formulas_of}
use Rattle.esc_fact.specs.declared.base.Base.{Base}
use Rattle.esc_live.specs.Promises.{IsGiven}
use Rattle.esc_options.specs.declared.options.Limits.{Limits}
use Rattle.esc_search.specs.Levels.{GoesBackTo, IsBegunAt}
use Rattle.esc_search.specs.Proving.{IsReady}
use Rattle.esc_search.specs.declared.level.Level.{Level}
use Rattle.esc_search.specs.declared.outcome.Outcome.TheVariants as outcome
use Rattle.esc_search.specs.declared.search.Search.{Search}
use Rattle.esc_verdict.specs.Causes.{IsCause}
use Rattle.esc_verdict.specs.declared.cause.Cause.{Cause}
use Rattle.esc_session.specs.Back.{IsAgain}
use Rattle.esc_session.specs.Between.{HasAsserted, assuming}
use Rattle.esc_session.specs.PushingInside.{GivesStanding, RestEnds}
use Rattle.esc_session.specs.declared.batch.Standing.TheVariants.{Asserted, Closed, Stopped}
use Rattle.esc_session.proofs.Again.{again_here}

module _ (base : Base) (no_goal : base.negated ≡ None) where
  assumed_alone : base ≡ assuming base.background
  assumed_alone = ap (λ o. record { background = base.background; negated = o }) no_goal

  has_asserted : (t : Search) → RestEnds base t outcome.Open → HasAsserted base.background t
  has_asserted t ends = record {
    ready = subst (λ (b : Base). IsReady b t) assumed_alone ends.0;
    all = ends.1;
  }

  module _ (s t : Search) (level : Level) (begun : IsBegunAt level s) (goes : GoesBackTo t s) where
    pub stands_asserted : RestEnds base t outcome.Open → GivesStanding base s t (Asserted level)
    stands_asserted ends = (refl, has_asserted t ends, (s, begun, goes, again_here s))

    pub stands_closed : RefutedAmongMore → IsGiven t.branch → RestEnds base t outcome.Closed
        → GivesStanding base s t (Closed level)
    stands_closed more given ends = (
      refl,
      more (formulas_of base t.log) base.background ends.1 ends.0,
      given,
      (s, begun, goes, again_here s),
    )

  pub stands_stopped : (s t w : Search) (why : Cause) → t.limits ≡ s.limits
      → RestEnds base t (outcome.Stopped why) → IsAgain s w
      → GivesStanding base s w (Stopped why)
  stands_stopped s t w why limits ends again = (
    refl,
    subst₂ (λ (b : Base) (l : Limits). IsCause b l why) assumed_alone limits ends.0,
    ends.1,
    again,
  )
