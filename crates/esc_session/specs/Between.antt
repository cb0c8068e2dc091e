-- What holds of a session between commands.
use Rattle.std.specs.Prelude.{◌≡◌, ◌≤◌, Bool, false, IsTrue, List, [], ◌∷◌, None, length, take}
use Rattle.esc_term.specs.declared.formula.Formula.{Formula}
use Rattle.esc_term.specs.Refuted.{Refuted}
use Rattle.esc_fact.specs.Legal.{IsClosedBase}
use Rattle.esc_fact.specs.declared.base.Base.{Base}
use Rattle.esc_options.specs.declared.options.Limits.{Limits}
use Rattle.esc_live.specs.Promises.{IsGiven}
use Rattle.esc_search.specs.Proving.{IsOfArithmetic, IsReady}
use Rattle.esc_search.specs.declared.search.Search.{Search}
use Rattle.esc_verdict.specs.Causes.{IsCause}
use Rattle.esc_session.specs.Back.{GoesThrough}
use Rattle.esc_session.specs.View.{is_open, newest_first}
use Rattle.esc_session.specs.declared.batch.Batch.{Batch}
use Rattle.esc_session.specs.declared.batch.Standing.{Standing}
use Rattle.esc_session.specs.declared.batch.Standing.TheVariants.{Asserted, Closed, Stopped}
use Rattle.esc_session.specs.declared.batch.Standing.TheVariants.{Behind}
use Rattle.esc_session.specs.declared.session.Session.{Session}

-- these formulas are assumed, and no goal is asked
abbrev pub assuming : List Formula → Base
assuming fs = record { background = fs; negated = None }

-- the formulas are asserted in order, and nothing else
pub record HasAsserted (fs : List Formula) (s : Search) : Type 0 where
  pub ready : IsReady (assuming fs) s
  pub all : length s.log ≡ length fs

-- A batch stands so, with which these formulas are in force: before it the search was so, and
-- whether each batch before it stood asserted, is told.
abbrev pub StandsBy : Limits → List Formula → Search → Standing → Bool → (Search → Type 0)
    → Type 0
StandsBy limits fs s (Asserted level) asserted so =
    IsTrue asserted × HasAsserted fs s × GoesThrough s level so
StandsBy limits fs s (Closed level) asserted so =
    IsTrue asserted × Refuted fs × IsGiven s.branch × GoesThrough s level so
StandsBy limits fs s (Stopped cause) asserted so =
    IsTrue asserted × IsCause (assuming fs) limits cause × IsOfArithmetic cause × so s
StandsBy limits fs s Behind asserted so = (asserted ≡ false) × so s

-- by these batches, the newest first, the formulas are in force, and so the search stands
abbrev pub Stands : Limits → List Formula → List Batch → Search → Type 0
Stands limits fs [] s = (fs ≡ []) × HasAsserted fs s
Stands limits fs (b ∷ older) s = (b.first ≤ length fs)
    × StandsBy limits fs s b.standing (is_open older)
    (λ t. Stands limits (take b.first fs) older t)

pub record IsBetween (s : Session) : Type 0 where
  pub closed : IsClosedBase s.base
  pub no_goal : s.base.negated ≡ None
  pub limits : s.search.limits ≡ s.limits
  pub stands : Stands s.limits s.base.background (newest_first s) s.search
