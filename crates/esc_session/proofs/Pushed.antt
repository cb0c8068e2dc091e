-- What holds of a session to which a batch came.
use Rattle.std.proofs.Common.{◌≡◌, ◌≤◌, ℕ, Bool, true, false, IsTrue, List, [], ◌∷◌, ◌++◌, Option}
use Rattle.std.proofs.Common.{length, take, refl, sym, ap, ap₂, subst, ◌∙◌, append-nil, arith}
use Rattle.std.proofs.Common.{length-append}
use Rattle.std.specs.List.{All, cons_option, list_all}
use Rattle.std.proofs.lemmas.List.{take-append-le, take_all}
use Rattle.std.proofs.lemmas.List.Elements.{All-append}
use Rattle.std.proofs.lemmas.List.Sums.{AllPass-from_list_all}
use Rattle.esc_term.specs.declared.formula.Formula.{Formula}
use Rattle.esc_term.specs.declared.term.Sym.{Sym}
use Rattle.esc_term.specs.Formula.{is_closed}
use Rattle.esc_fact.specs.Legal.{IsClosedBase}
use Rattle.esc_options.specs.declared.options.Limits.{Limits}
use Rattle.esc_search.specs.Proving.{IsReady, ReadyIsAlike}
use Rattle.esc_search.specs.declared.search.Search.{Search}
use Rattle.esc_session.specs.Acts.{Joins}
use Rattle.esc_session.specs.Back.{BeforeStanding, IsAgain}
use Rattle.esc_session.specs.Between.{HasAsserted, IsBetween, Stands, StandsBy, assuming}
use Rattle.esc_session.specs.PushingInside.{GivesStanding, joined}
use Rattle.esc_session.specs.View.{is_asserted, is_open, newest_first}
use Rattle.esc_session.specs.declared.batch.Batch.{Batch}
use Rattle.esc_session.specs.declared.batch.Standing.{Standing}
use Rattle.esc_session.specs.declared.batch.Standing.TheVariants.{Asserted, Behind, Closed}
use Rattle.esc_session.specs.declared.batch.Standing.TheVariants.{Stopped}
use Rattle.esc_session.specs.declared.session.Session.{Session}
use Rattle.esc_session.proofs.Again.{again_here, stands_again}
use Rattle.esc_session.proofs.Newest.{newest_first_is, newest_same, older_same}

-- ---- how a batch stands

standing_asserted : (limits : Limits) (fs : List Formula) (s : Search) (standing : Standing)
    (older : Bool) (so : Search → Type 0) → StandsBy limits fs s standing older so
    → IsTrue (is_asserted standing)
    → HasAsserted fs s
standing_asserted limits fs s (Asserted level) older so h opened = h.1
standing_asserted limits fs s (Closed level) older so h opened = absurd (cc)
standing_asserted limits fs s (Stopped cause) older so h opened = absurd (cc)
standing_asserted limits fs s Behind older so h opened = absurd (cc)

open_asserted : (limits : Limits) (fs : List Formula) (bs : List Batch) (s : Search)
    → Stands limits fs bs s → IsTrue (is_open bs) → HasAsserted fs s
open_asserted limits fs [] s h opened = h.1
open_asserted limits fs (b ∷ older) s h opened =
    standing_asserted limits fs s b.standing (is_open older)
    (λ t. Stands limits (take b.first fs) older t) h.1 opened

module _ (limits : Limits) (fs : List Formula) (s : Search) (so : Search → Type 0) where
  standing_before : (standing : Standing) → StandsBy limits fs s standing true so
      → BeforeStanding s standing so
  standing_before (Asserted level) (all, asserted, through) = through
  standing_before (Closed level) (all, refuted, given, through) = through
  standing_before (Stopped cause) (all, is, arithmetic, here) = here
  standing_before Behind (waits, here) = here

  standing_weaker : (then : Search → Type 0) → ((t : Search) → so t → then t)
      → (standing : Standing) → StandsBy limits fs s standing true so
      → StandsBy limits fs s standing true then
  standing_weaker then on (Asserted level) (all, asserted, (there, begun, goes, h)) =
      (all, asserted, (there, begun, goes, on there h))
  standing_weaker then on (Closed level) (all, refuted, given, (there, begun, goes, h)) =
      (all, refuted, given, (there, begun, goes, on there h))
  standing_weaker then on (Stopped cause) (all, is, arithmetic, h) =
      (all, is, arithmetic, on s h)
  standing_weaker then on Behind (waits, h) = (waits, on s h)

-- ---- the session

module _ (s : Session) (predicate : Option (Sym × ℕ)) (fs : List Formula) (between : IsBetween s)
  where
    abbrev before : List Formula
    before = s.base.background

    abbrev pub batch_so : Standing → Batch
    batch_so standing = record {
      first = length before;
      predicate = predicate;
      standing = standing;
    }

    front : take (length before) (before ++ fs) ≡ before
    front =
        take-append-le (length before) before fs (omega arith)
        ∙ take_all (length before) before (omega arith)

    within : length before ≤ length (before ++ fs)
    within = omega (arith, length-append before fs)

    pub closed_joined : IsTrue (list_all is_closed fs)
        → IsClosedBase (joined s predicate fs).base
    closed_joined closed =
        subst (λ (o : Option Formula). All IsClosed ((before ++ fs) ++ cons_option o []))
        (sym between.no_goal)
        (subst (All IsClosed) (sym (append-nil (before ++ fs)))
        (All-append IsClosed before fs
        (subst (All IsClosed) (append-nil before)
        (subst (λ (o : Option Formula). All IsClosed (before ++ cons_option o []))
        between.no_goal between.closed))
        (AllPass-from_list_all is_closed fs closed)))
      where
        IsClosed : Formula → Type 0
        IsClosed f = IsTrue (is_closed f)

    pub ready_joined : ReadyIsAlike → IsTrue (is_open (newest_first s))
        → IsReady (joined s predicate fs).base s.search
    ready_joined alike opened =
        let asserted =
        open_asserted s.limits before (newest_first s) s.search between.stands opened in
        alike (assuming before) (joined s predicate fs).base s.search
        (take-append-le (length s.search.log) before fs (omega (arith, asserted.all)))
        (omega (arith, asserted.all, length-append before fs)) asserted.ready

    -- what stood before
    stood : Stands s.limits (take (length before) (before ++ fs)) (newest_first s) s.search
    stood =
        subst (λ (xs : List Formula). Stands s.limits xs (newest_first s) s.search) (sym front)
        between.stands

    -- ---- it waits

    pub joins_behind : Joins s (joined s predicate fs) predicate fs
    joins_behind = record {
      batch = batch_so Behind;
      batches = refl;
      first = refl;
      predicate_is = refl;
      base = refl;
      search = again_here s.search;
    }

    pub between_behind : IsTrue (list_all is_closed fs) → is_open (newest_first s) ≡ false
        → IsBetween (joined s predicate fs)
    between_behind closed waits = record {
      closed = closed_joined closed;
      no_goal = between.no_goal;
      limits = between.limits;
      stands = subst (λ (bs : List Batch). Stands s.limits (before ++ fs) bs s.search)
          (sym (newest_first_is s.batches (batch_so Behind))) (within, (waits, stood));
    }

    -- ---- it stands

    abbrev stands_so : Search → Standing → Session
    stands_so w standing = record s {
      base = record s.base { background = before ++ fs };
      batches = s.batches ++ batch_so standing ∷ [];
      search = w;
    }

    module _ (w : Search) (standing : Standing)
        (gives : GivesStanding (joined s predicate fs).base s.search w standing) where
      pub joins_so : Joins s (stands_so w standing) predicate fs
      joins_so = record {
        batch = batch_so standing;
        batches = refl;
        first = refl;
        predicate_is = refl;
        base = refl;
        search = standing_before s.search.limits (before ++ fs) w (IsAgain s.search) standing gives;
      }

      pub between_so : IsTrue (list_all is_closed fs) → IsTrue (is_open (newest_first s))
          → w.limits ≡ s.search.limits → IsBetween (stands_so w standing)
      between_so closed opened limits = record {
        closed = closed_joined closed;
        no_goal = between.no_goal;
        limits = limits ∙ between.limits;
        stands = subst (λ (bs : List Batch). Stands s.limits (before ++ fs) bs w)
            (sym (newest_first_is s.batches (batch_so standing))) (
              within,
              subst (λ (older : Bool). StandsBy s.limits (before ++ fs) w standing older after)
                  (sym opened)
                  (subst (λ (l : Limits). StandsBy l (before ++ fs) w standing true after)
                  between.limits
                  (standing_weaker s.search.limits (before ++ fs) w (IsAgain s.search) after
                  (λ t again. stands_again s.search t again s.limits
                  (take (length before) (before ++ fs)) (newest_first s) stood)
                  standing gives)),
            );
      }
        where
          after : Search → Type 0
          after t = Stands s.limits (take (length before) (before ++ fs)) (newest_first s) t

    -- ---- it is taken away

    pub taken_is : (j v : Session) (w : Search) (r : Batch) → j ≡ joined s predicate fs
        → j.batches ≡ v.batches ++ r ∷ []
        → v ≡ record j {
          base = record j.base { background = take r.first j.base.background };
          batches = v.batches;
          search = w;
        } → v ≡ record s { search = w }
    taken_is j v w r j_is batches v_is =
        let ends : s.batches ++ batch_so Behind ∷ [] ≡ v.batches ++ r ∷ [] =
        ap (λ (t : Session). t.batches) (sym j_is) ∙ batches in
        v_is
        ∙ (ap (λ (t : Session). record t {
          base = record t.base { background = take r.first t.base.background };
          batches = v.batches;
          search = w;
        }) j_is
        ∙ (ap₂ (λ (b : Batch) (bs : List Batch). record s {
          base = record s.base { background = take b.first (before ++ fs) };
          batches = bs;
          search = w;
        }) (sym (newest_same s.batches v.batches (batch_so Behind) r ends))
        (sym (older_same s.batches v.batches (batch_so Behind) r ends))
        ∙ ap (λ (xs : List Formula). record s {
          base = record s.base { background = xs };
          search = w;
        }) front))

    pub between_again : (w : Search) → IsAgain s.search w → IsBetween (record s { search = w })
    between_again w again = record {
      closed = between.closed;
      no_goal = between.no_goal;
      limits = again.as_before.limits ∙ between.limits;
      stands = stands_again s.search w again s.limits before (newest_first s) between.stands;
    }
