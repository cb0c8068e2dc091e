-- A search that is again as it was stands as it did.
use Rattle.std.proofs.Common.{List, [], ◌∷◌, take, refl, ap, ◌∙◌}
use Rattle.std.specs.Prelude.{Bool, length}
use Rattle.esc_term.specs.declared.formula.Formula.{Formula}
use Rattle.esc_fact.specs.declared.base.Base.{Base}
use Rattle.esc_live.specs.LiveUndo.{live_lawful}
use Rattle.esc_live.specs.Promises.{IsGiven}
use Rattle.esc_options.specs.declared.options.Limits.{Limits}
use Rattle.esc_search.specs.Levels.{GoesBackTo, IsAsBefore, IsBackAt, IsBegunAt}
use Rattle.esc_search.specs.Proving.{IsReady}
use Rattle.esc_search.specs.declared.level.Level.{Level}
use Rattle.esc_search.specs.declared.search.Search.{Search}
use Rattle.esc_session.specs.Back.{BeforeStanding, IsAgain, LeadsBack}
use Rattle.esc_session.specs.Between.{HasAsserted, Stands, StandsBy, assuming}
use Rattle.esc_session.specs.View.{is_open}
use Rattle.esc_session.specs.declared.batch.Batch.{Batch}
use Rattle.esc_session.specs.declared.batch.Standing.{Standing}
use Rattle.esc_session.specs.declared.batch.Standing.TheVariants.{Asserted, Behind, Closed}
use Rattle.esc_session.specs.declared.batch.Standing.TheVariants.{Stopped}

as_before_here : (s : Search) → IsAsBefore s s
as_before_here s = record {
  branch = live_lawful.reflexive s.branch;
  rows = refl;
  meanings = refl;
  formulas = refl;
  log = refl;
  sides = refl;
  splits = refl;
  under = refl;
  records = refl;
  limits = refl;
}

as_before_then : (s t u : Search) → IsAsBefore s t → IsAsBefore t u → IsAsBefore s u
as_before_then s t u h k = record {
  branch = live_lawful.transitive s.branch t.branch u.branch h.branch k.branch;
  rows = h.rows ∙ k.rows;
  meanings = h.meanings ∙ k.meanings;
  formulas = h.formulas ∙ k.formulas;
  log = h.log ∙ k.log;
  sides = h.sides ∙ k.sides;
  splits = h.splits ∙ k.splits;
  under = h.under ∙ k.under;
  records = h.records ∙ k.records;
  limits = h.limits ∙ k.limits;
}

pub again_here : (s : Search) → IsAgain s s
again_here s = record {
  as_before = as_before_here s;
  levels = λ t h. h;
  ready = λ base h. h;
  given = λ h. h;
}

pub again_then : (s t u : Search) → IsAgain s t → IsAgain t u → IsAgain s u
again_then s t u h k = record {
  as_before = as_before_then u t s k.as_before h.as_before;
  levels = λ older goes. k.levels older (h.levels older goes);
  ready = λ base ready. k.ready base (h.ready base ready);
  given = λ given. k.given (h.given given);
}

-- where a level ends, the search is again as it was where the level began
module _ (level : Level) (s v w : Search) (back : IsBackAt level v w)
    (ready : (base : Base) (t : Search) → IsBegunAt level t → GoesBackTo v t → IsReady base t
    → IsReady base w) (given : IsGiven w.branch) where
  pub again_ended : IsBegunAt level s → GoesBackTo v s → IsAgain s w
  again_ended begun goes = record {
    as_before = back.as_before s begun goes;
    levels = back.older s begun goes;
    ready = λ base h. ready base s begun goes h;
    given = λ h. given;
  }

-- ---- what stands by it

module _ (s w : Search) (again : IsAgain s w) where
  before_again : (standing : Standing) (so : Search → Type 0) → (so s → so w)
      → BeforeStanding s standing so → BeforeStanding w standing so
  before_again (Asserted level) so here (there, begun, goes, h) =
      (there, begun, again.levels there goes, h)
  before_again (Closed level) so here (there, begun, goes, h) =
      (there, begun, again.levels there goes, h)
  before_again (Stopped cause) so here h = here h
  before_again Behind so here h = here h

  pub leads_again : (newer : List Batch) (t : Search) → LeadsBack s newer t → LeadsBack w newer t
  leads_again [] t h = again_then t s w h again
  leads_again (b ∷ older) t h =
      before_again b.standing (λ u. LeadsBack u older t) (leads_again older t) h

  asserted_again : (fs : List Formula) → HasAsserted fs s → HasAsserted fs w
  asserted_again fs h = record {
    ready = again.ready (assuming fs) h.ready;
    all = ap length again.as_before.log ∙ h.all;
  }

  standing_again : (limits : Limits) (fs : List Formula) (standing : Standing) (older : Bool)
      (so : Search → Type 0) → (so s → so w) → StandsBy limits fs s standing older so
      → StandsBy limits fs w standing older so
  standing_again limits fs (Asserted level) older so here
      (all, asserted, (there, begun, goes, h)) =
      (all, asserted_again fs asserted, (there, begun, again.levels there goes, h))
  standing_again limits fs (Closed level) older so here
      (all, refuted, given, (there, begun, goes, h)) =
      (all, refuted, again.given given, (there, begun, again.levels there goes, h))
  standing_again limits fs (Stopped cause) older so here (all, is, arithmetic, h) =
      (all, is, arithmetic, here h)
  standing_again limits fs Behind older so here (some, h) = (some, here h)

  pub stands_again : (limits : Limits) (fs : List Formula) (bs : List Batch)
      → Stands limits fs bs s → Stands limits fs bs w
  stands_again limits fs [] (none, h) = (none, asserted_again fs h)
  stands_again limits fs (b ∷ older) (first, h) = (
    first,
    standing_again limits fs b.standing (is_open older)
        (λ t. Stands limits (take b.first fs) older t)
        (stands_again limits (take b.first fs) older) h,
  )
