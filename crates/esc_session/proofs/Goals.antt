-- A goal leaves all as it was.
use Rattle.std.proofs.Common.{◌≡◌, true, false, IsTrue, List, [], ◌∷◌, Option, None}
use Rattle.std.proofs.Common.{refl, reverse, sym, ap, subst, ◌∙◌}
use Rattle.std.specs.List.{cons_option}
use Rattle.std.proofs.lemmas.List.Elements.{All-append, All-cons, All-nil}
use Rattle.esc_term.specs.declared.formula.Formula.{Formula}
use Rattle.esc_term.specs.declared.formula.Formula.TheVariants.{Not}
use Rattle.esc_term.specs.Formula.{is_closed}
use Rattle.esc_term.specs.Laws.{RefutedAmongMore}
use Rattle.esc_term.specs.Refuted.{Refuted}
use Rattle.esc_term.proofs.FormulaLevels.{binds-Not}
use Rattle.esc_fact.specs.Legal.{IsClosedBase}
use Rattle.esc_fact.specs.declared.base.Base.{Base}
use Rattle.esc_report.specs.Goals.{base_of}
use Rattle.esc_search.specs.Proving.{IsReady, ReadyIsAlike}
use Rattle.esc_sharing.proofs.Lists.{All-append_left}
use Rattle.esc_session.specs.Acts.{Rests}
use Rattle.esc_session.specs.Back.{IsAgain}
use Rattle.esc_session.specs.Between.{IsBetween, Stands, assuming}
use Rattle.esc_session.specs.View.{has_closed, newest_first}
use Rattle.esc_session.specs.declared.session.Session.{Session}
use Rattle.esc_session.proofs.Again.{stands_again}
use Rattle.esc_session.proofs.Asked.{closed_reversed, stands_ready, stands_refuted}

module _ (s : Session) (between : IsBetween s) where
  abbrev fs : List Formula
  fs = s.base.background

  pub goal_refuted : RefutedAmongMore → has_closed s.batches ≡ true → Refuted fs
  goal_refuted law some = stands_refuted law s.limits fs (newest_first s) s.search between.stands
      (closed_reversed s.batches ∙ some)

  pub goal_closed : (f : Formula) → IsTrue (is_closed f) → IsClosedBase (base_of fs f)
  goal_closed f closed =
      All-append (λ g. IsTrue (is_closed g)) fs (Not f ∷ [])
      (All-append_left (λ g. IsTrue (is_closed g)) fs (cons_option s.base.negated [])
      between.closed)
      (All-cons (λ g. IsTrue (is_closed g)) (Not f) [] (binds-Not 0 f ∙ closed)
      (All-nil (λ g. IsTrue (is_closed g))))

  pub goal_ready : ReadyIsAlike → (f : Formula) → has_closed s.batches ≡ false
      → IsReady (base_of fs f) s.search
  goal_ready alike f none =
      let ready : IsReady (assuming fs) s.search =
      stands_ready alike s.limits fs (newest_first s) s.search between.stands
      (closed_reversed s.batches ∙ none) in
      alike (assuming fs) (base_of fs f) s.search refl ready.without_goal ready

  -- the goal is taken out of the base again
  abbrev rested : Base
  rested = record { background = fs; negated = None }

  base_back : rested ≡ s.base
  base_back = ap (λ (o : Option Formula). record s.base { negated = o }) (sym between.no_goal)

  module _ (t : Session) (base : t.base ≡ rested) (batches : t.batches ≡ s.batches)
      (limits : t.limits ≡ s.limits) (again : IsAgain s.search t.search) where
    pub goal_rests : Rests s t
    goal_rests = record { base = base ∙ base_back; batches = batches; search = again }

    pub goal_between : IsBetween t
    goal_between = record {
      closed = subst IsClosedBase (sym (base ∙ base_back)) between.closed;
      no_goal = ap (λ (b : Base). b.negated) base;
      limits = again.as_before.limits ∙ (between.limits ∙ sym limits);
      stands = subst (λ (u : Base). Stands t.limits u.background (newest_first t) t.search)
          (sym (base ∙ base_back))
          (subst (λ bs. Stands t.limits fs (reverse bs) t.search) (sym batches)
          (subst (λ l. Stands l fs (newest_first s) t.search) (sym limits)
          (stands_again s.search t.search again s.limits fs (newest_first s)
          between.stands)));
    }
