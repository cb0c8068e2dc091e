-- Where the newest batch ends, what stood before it stands again.
use Rattle.std.proofs.Common.{◌≡◌, ℕ, ◌≤◌, Bool, IsTrue, List, [], ◌∷◌, ◌++◌, length, reverse}
use Rattle.std.proofs.Common.{take, refl, sym, ap, subst, subst₂, ◌∙◌}
use Rattle.std.specs.List.{cons_option}
use Rattle.std.specs.Option.{is_some}
use Rattle.std.proofs.lemmas.List.Elements.{All-append, All-take}
use Rattle.std.proofs.lemmas.List.{reverse-append}
use Rattle.esc_term.specs.declared.formula.Formula.{Formula}
use Rattle.esc_term.specs.Formula.{is_closed}
use Rattle.esc_fact.specs.Legal.{IsClosedBase}
use Rattle.esc_fact.specs.declared.base.Base.{Base}
use Rattle.esc_sharing.proofs.Lists.{All-append_left, All-append_right}
use Rattle.esc_options.specs.declared.options.Limits.{Limits}
use Rattle.esc_search.specs.declared.search.Search.{Search}
use Rattle.esc_session.specs.Back.{BeforeStanding, IsAgain, LeadsBack}
use Rattle.esc_session.specs.Between.{IsBetween, Stands, StandsBy}
use Rattle.esc_session.specs.PoppingInside.{CanEnd, DropsOne, WasBefore}
use Rattle.esc_session.specs.View.{is_open}
use Rattle.esc_session.specs.declared.batch.Batch.{Batch}
use Rattle.esc_session.specs.declared.batch.Standing.{Standing}
use Rattle.esc_session.specs.declared.batch.Standing.TheVariants.{Asserted, Behind, Closed}
use Rattle.esc_session.specs.declared.batch.Standing.TheVariants.{Stopped}
use Rattle.esc_session.specs.declared.session.Session.{Session}
use Rattle.esc_session.proofs.Again.{leads_again, stands_again}

-- ---- a standing

pub before_was : (s : Search) (standing : Standing) (so : Search → Type 0)
    → BeforeStanding s standing so → (there : Search) × WasBefore s standing there × so there
before_was s (Asserted level) so h = (h.0, (h.1, h.2), h.3)
before_was s (Closed level) so h = (h.0, (h.1, h.2), h.3)
before_was s (Stopped cause) so h = (s, refl, h)
before_was s Behind so h = (s, refl, h)

pub was_limits : (s there : Search) (standing : Standing) → WasBefore s standing there
    → s.limits ≡ there.limits
was_limits s there (Asserted level) h = h.1.limits
was_limits s there (Closed level) h = h.1.limits
was_limits s there (Stopped cause) h = ap (λ (u : Search). u.limits) h
was_limits s there Behind h = ap (λ (u : Search). u.limits) h

pub can_end : (limits : Limits) (fs : List Formula) (s : Search) (standing : Standing)
    (older : Bool) (so : Search → Type 0) → StandsBy limits fs s standing older so
    → CanEnd s standing
can_end limits fs s (Asserted level) older so h = record {
  there = h.2.0;
  begun = h.2.1;
  back = h.2.2;
  given = h.1.ready.given;
}
can_end limits fs s (Closed level) older so h = record {
  there = h.3.0;
  begun = h.3.1;
  back = h.3.2;
  given = h.2;
}
can_end limits fs s (Stopped cause) older so h = tt
can_end limits fs s Behind older so h = tt

pub stood : (limits : Limits) (fs : List Formula) (s : Search) (standing : Standing)
    (older : Bool) (so : Search → Type 0) → StandsBy limits fs s standing older so
    → (there : Search) × WasBefore s standing there × so there
stood limits fs s (Asserted level) older so h = before_was s (Asserted level) so h.2
stood limits fs s (Closed level) older so h = before_was s (Closed level) so h.3
stood limits fs s (Stopped cause) older so h = (s, refl, h.3)
stood limits fs s Behind older so h = (s, refl, h.1)

closed_front : (base : Base) (n : ℕ) → IsClosedBase base
    → IsClosedBase (record base { background = take n base.background })
closed_front base n closed =
    let rest : List Formula = cons_option base.negated [] in
    All-append (λ f. IsTrue (is_closed f)) (take n base.background) rest
    (All-take (λ f. IsTrue (is_closed f)) n base.background
    (All-append_left (λ f. IsTrue (is_closed f)) base.background rest closed))
    (All-append_right (λ f. IsTrue (is_closed f)) base.background rest closed)

-- ---- the newest batch of a session

module _ (s : Session) (older : List Batch) (b : Batch) (batches : s.batches ≡ older ++ b ∷ [])
    (between : IsBetween s) where
  abbrev fs : List Formula
  fs = s.base.background

  abbrev pub front : List Formula
  front = take b.first fs

  stands : Stands s.limits fs (b ∷ reverse older) s.search
  stands = subst (λ (bs : List Batch). Stands s.limits fs bs s.search)
      (ap reverse batches ∙ reverse-append older (b ∷ [])) between.stands

  pub first_within : b.first ≤ length fs
  first_within = stands.0

  pub newest_can_end : CanEnd s.search b.standing
  newest_can_end = can_end s.limits fs s.search b.standing (is_open (reverse older))
      (λ t. Stands s.limits front (reverse older) t) stands.1

  module _ (w : Search)
      (again : (there : Search) → WasBefore s.search b.standing there → IsAgain there w) where
    was : (there : Search) × WasBefore s.search b.standing there
        × Stands s.limits front (reverse older) there
    was = stood s.limits fs s.search b.standing (is_open (reverse older))
        (λ t. Stands s.limits front (reverse older) t) stands.1

    pub older_stand : Stands s.limits front (reverse older) w
    older_stand = stands_again was.0 w (again was.0 was.1) s.limits front (reverse older) was.2

    pub older_limits : w.limits ≡ s.limits
    older_limits = (again was.0 was.1).as_before.limits
        ∙ (sym (was_limits s.search was.0 b.standing was.1) ∙ between.limits)

    pub older_leads : (rest : List Batch) (u : Search) → LeadsBack s.search (b ∷ rest) u
        → LeadsBack w rest u
    older_leads rest u h =
        let there = before_was s.search b.standing (λ t. LeadsBack t rest u) h in
        leads_again there.0 w (again there.0 there.1) rest u there.2

-- ---- the newest batch and its formulas are taken away, and then its standing ends

module _ (s m : Session) (b : Batch) (batches : s.batches ≡ m.batches ++ b ∷ [])
    (rest : m ≡ record s {
      batches = m.batches;
      base = record s.base { background = take b.first s.base.background };
    }) (between : IsBetween s) where
  abbrev cut : List Formula
  cut = take b.first s.base.background

  search_is : m.search ≡ s.search
  search_is = ap (λ (x : Session). x.search) rest

  limits_is : m.limits ≡ s.limits
  limits_is = ap (λ (x : Session). x.limits) rest

  pub base_is : m.base ≡ record s.base { background = cut }
  base_is = ap (λ (x : Session). x.base) rest

  pub taken_can_end : CanEnd m.search b.standing
  taken_can_end = subst (λ (x : Search). CanEnd x b.standing) (sym search_is)
      (newest_can_end s m.batches b batches between)

  module _ (w : Search)
      (again : (there : Search) → WasBefore m.search b.standing there → IsAgain there w) where
    from_before : (there : Search) → WasBefore s.search b.standing there → IsAgain there w
    from_before there h =
        again there (subst (λ (x : Search). WasBefore x b.standing there) (sym search_is) h)

    abbrev pub ended : Session
    ended = record m { search = w }

    pub ended_between : IsBetween ended
    ended_between = record {
      closed = subst IsClosedBase (sym base_is) (closed_front s.base b.first between.closed);
      no_goal = ap (λ (base : Base). base.negated) base_is ∙ between.no_goal;
      limits = older_limits s m.batches b batches between w from_before ∙ sym limits_is;
      stands = subst₂ (λ (limits : Limits) (base : Base).
          Stands limits base.background (reverse m.batches) w) (sym limits_is) (sym base_is)
          (older_stand s m.batches b batches between w from_before);
    }

    pub ended_drops : DropsOne s ended (is_some b.predicate)
    ended_drops = record {
      batch = b;
      batches = batches;
      rule = refl;
      first = first_within s m.batches b batches between;
      base = base_is;
      search = older_leads s m.batches b batches between w from_before;
    }
