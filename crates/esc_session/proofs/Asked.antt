-- What stands between commands when a goal is asked.
use Rattle.std.proofs.Common.{◌≡◌, ◌≤◌, Bool, true, false, ◌||◌, List, [], ◌∷◌, length}
use Rattle.std.proofs.Common.{reverse, take, refl, sym, ap, ◌∙◌, arith}
use Rattle.std.specs.List.{Contains, list_any}
use Rattle.std.proofs.lemmas.List.{length-take, reverse-append}
use Rattle.std.proofs.lemmas.List.Elements.{All-contains_itself, All-take}
use Rattle.std.proofs.lemmas.List.Folds.{list_any-append}
use Rattle.esc_term.specs.declared.formula.Formula.{Formula}
use Rattle.esc_term.specs.Laws.{RefutedAmongMore}
use Rattle.esc_term.specs.Refuted.{Refuted}
use Rattle.esc_options.specs.declared.options.Limits.{Limits}
use Rattle.esc_search.specs.Proving.{IsReady, ReadyIsAlike}
use Rattle.esc_search.specs.declared.search.Search.{Search}
use Rattle.esc_session.specs.Between.{Stands, StandsBy, assuming}
use Rattle.esc_session.specs.View.{has_closed, is_closed, is_open}
use Rattle.esc_session.specs.declared.batch.Batch.{Batch}
use Rattle.esc_session.specs.declared.batch.Standing.{Standing}
use Rattle.esc_session.specs.declared.batch.Standing.TheVariants.{Asserted, Behind, Closed}
use Rattle.esc_session.specs.declared.batch.Standing.TheVariants.{Stopped}
use Rattle.esc_session.proofs.Dropping.{take_front}

-- ---- the order of batches plays no role for whether one closed

abbrev closed_batch : Batch → Bool
closed_batch b = is_closed b.standing

or_swap : (x y : Bool) → (x || (y || false)) ≡ (y || x)
or_swap true true = refl
or_swap true false = refl
or_swap false true = refl
or_swap false false = refl

pub closed_reversed : (bs : List Batch) → has_closed (reverse bs) ≡ has_closed bs
closed_reversed [] = refl
closed_reversed (b ∷ bs) =
    ap (list_any closed_batch) (reverse-append (b ∷ []) bs)
    ∙ (list_any-append closed_batch (reverse bs) (b ∷ [])
    ∙ (or_swap (list_any closed_batch (reverse bs)) (closed_batch b)
    ∙ ap (λ x. closed_batch b || x) (closed_reversed bs)))

-- ---- where none closed, a front is asserted and nothing else

module _ (alike : ReadyIsAlike) where
  front_ready : (n : _) (fs : List Formula) (s : Search) → IsReady (assuming (take n fs)) s
      → IsReady (assuming fs) s
  front_ready n fs s h =
      let few : length s.log ≤ length (take n fs) = h.without_goal in
      alike (assuming (take n fs)) (assuming fs) s
      (sym (take_front (length s.log) n fs few))
      (omega (arith, few, length-take n fs)) h

  standing_ready : (limits : Limits) (fs : List Formula) (s : Search) (standing : Standing)
      (older : Bool) (so : Search → Type 0) → (so s → IsReady (assuming fs) s)
      → is_closed standing ≡ false → StandsBy limits fs s standing older so
      → IsReady (assuming fs) s
  standing_ready limits fs s (Asserted level) older so here none h = h.1.ready
  standing_ready limits fs s (Closed level) older so here none h = absurd cc
  standing_ready limits fs s (Stopped cause) older so here none h = here h.3
  standing_ready limits fs s Behind older so here none h = here h.1

  pub stands_ready : (limits : Limits) (fs : List Formula) (bs : List Batch) (s : Search)
      → Stands limits fs bs s → has_closed bs ≡ false → IsReady (assuming fs) s
  stands_ready limits fs [] s h none = h.1.ready
  stands_ready limits fs (b ∷ older) s h none =
      pick (is_closed b.standing) refl none
      (λ e stands. front_ready b.first fs s
      (stands_ready limits (take b.first fs) older s stands e))
    where
      pick : (x : Bool) → is_closed b.standing ≡ x → (x || has_closed older) ≡ false
          → (has_closed older ≡ false → Stands limits (take b.first fs) older s
          → IsReady (assuming fs) s)
          → IsReady (assuming fs) s
      pick true is e later = absurd cc
      pick false is e later = standing_ready limits fs s b.standing (is_open older)
          (λ t. Stands limits (take b.first fs) older t) (later e) is h.1

-- ---- where one closed, what is assumed is refuted

module _ (law : RefutedAmongMore) where
  front_refuted : (n : _) (fs : List Formula) → Refuted (take n fs) → Refuted fs
  front_refuted n fs refuted =
      law (take n fs) fs (All-take (Contains fs) n fs (All-contains_itself fs)) refuted

  standing_refuted : (limits : Limits) (fs : List Formula) (s : Search) (standing : Standing)
      (older : Bool) (so : Search → Type 0) → ((t : Search) → so t → Refuted fs)
      → is_closed standing ≡ false → StandsBy limits fs s standing older so → Refuted fs
  standing_refuted limits fs s (Asserted level) older so there none h = there h.2.0 h.2.3
  standing_refuted limits fs s (Closed level) older so there none h = absurd cc
  standing_refuted limits fs s (Stopped cause) older so there none h = there s h.3
  standing_refuted limits fs s Behind older so there none h = there s h.1

  closed_refuted : (limits : Limits) (fs : List Formula) (s : Search) (standing : Standing)
      (older : Bool) (so : Search → Type 0) → is_closed standing ≡ true
      → StandsBy limits fs s standing older so → Refuted fs
  closed_refuted limits fs s (Asserted level) older so is h = absurd cc
  closed_refuted limits fs s (Closed level) older so is h = h.1
  closed_refuted limits fs s (Stopped cause) older so is h = absurd cc
  closed_refuted limits fs s Behind older so is h = absurd cc

  pub stands_refuted : (limits : Limits) (fs : List Formula) (bs : List Batch) (s : Search)
      → Stands limits fs bs s → has_closed bs ≡ true → Refuted fs
  stands_refuted limits fs [] s h some = absurd cc
  stands_refuted limits fs (b ∷ older) s h some =
      pick (is_closed b.standing) refl some
      (λ e t stands. front_refuted b.first fs
      (stands_refuted limits (take b.first fs) older t stands e))
    where
      pick : (x : Bool) → is_closed b.standing ≡ x → (x || has_closed older) ≡ true
          → (has_closed older ≡ true → (t : Search) → Stands limits (take b.first fs) older t
          → Refuted fs)
          → Refuted fs
      pick true is e later = closed_refuted limits fs s b.standing (is_open older)
          (λ t. Stands limits (take b.first fs) older t) is h.1
      pick false is e later = standing_refuted limits fs s b.standing (is_open older)
          (λ t. Stands limits (take b.first fs) older t) (later e) is h.1
