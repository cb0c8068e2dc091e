-- The facts that name a formula of the base become live.
use Rattle.std.proofs.Common.{◌≡◌, ℕ, ◌<◌, ◌+◌, suc, true, List, [], ◌∷◌, ◌++◌, Some}
use Rattle.std.proofs.Common.{None, Result, Ok, Err, length, get_or, append-nil, refl, sym, ap}
use Rattle.std.proofs.Common.{ap₂, subst, ◌∙◌, inl, inr, arith}
use Rattle.std.specs.Prelude.{IsSome, IsSomeAnd, slice_get}
use Rattle.std.specs.List.{All, Contains, cons_option, filter_map, range_with_len}
use Rattle.std.specs.Option.{option_map}
use Rattle.std.proofs.lemmas.List.{length_push}
use Rattle.std.proofs.lemmas.List.Elements.{All-contains, All-head, All-push, All-take}
use Rattle.std.proofs.lemmas.List.Elements.{filter_map-append}
use Rattle.std.proofs.lemmas.List.FromFn.{get_or-range_with_len}
use Rattle.std.proofs.lemmas.Option.{slice_get-get_or}
use Rattle.esc_term.specs.declared.formula.Formula.{Formula}
use Rattle.esc_term.specs.declared.formula.Formula.TheVariants as formula
use Rattle.esc_term.specs.Interpretation.{truth}
use Rattle.esc_term.specs.Model.{Model, read_in}
use Rattle.esc_term.specs.Refuted.{AllTrue}
use Rattle.esc_term.proofs.Models.{Refuted-from_models}
use Rattle.esc_cover.specs.Laws.{HoldsIn}
use Rattle.esc_clause.specs.Laws.{IsSo}
use Rattle.esc_clause.specs.Occurrences.{formula_at, item_at, occurrences_of, signed}
use Rattle.esc_clause.specs.declared.occurrence.Occurrence.{Occurrence}
use Rattle.esc_clause.proofs.Places.{parts_from}
use Rattle.esc_trail.specs.Records.{Records}
use Rattle.esc_egraph.specs.declared.state.State.{State}
use Rattle.esc_egraph.specs.declared.state.State.TheVariants as state
use Rattle.esc_simplex.specs.declared.stop.Stop.{Stop}
use Rattle.esc_simplex.specs.declared.stop.Stop.TheVariants as stop
use Rattle.esc_fact.specs.Fact.{formula_of, formulas_of}
use Rattle.esc_fact.specs.Legal.{first_facts}
use Rattle.esc_fact.specs.declared.base.Base.{Base}
use Rattle.esc_live.specs.Calls.{Ends, GoesLiveOrNothing, HoldsWithFact, IsStoppedAt}
use Rattle.esc_live.specs.Promises.{IsBranch, IsGiven, IsSoundIn, whole_at}
use Rattle.esc_live.specs.View.{literals_on, live_on, logged}
use Rattle.esc_live.specs.declared.branch.LiveBranch.{LiveBranch}
use Rattle.esc_live.specs.declared.record.LiveRec.{LiveRec}
use Rattle.esc_sharing.proofs.Lists.{All-append_left, All-append_right}
use Rattle.esc_search.specs.Proving.{decided_on, live_facts}
use Rattle.esc_search.specs.SearchInside.{GoesLive, IsBegun, IsHalted}
use Rattle.esc_search.specs.declared.search.Search.{Search}
use Rattle.esc_search.proofs.FrontFacts.{begun_grown, range_push}
use Rattle.esc_search.proofs.LiveFacts.{All-filter_map, filter_map-read, first_named}
use Rattle.esc_search.proofs.LiveFacts.{length-filter_map, slice_get-contained}

-- ---- whole facts

whole_there : (fs : List Formula) (place : ℕ) (f : Formula) → slice_get fs place ≡ Some f
    → formula_at fs (whole_at place) ≡ Some f
whole_there fs place f is =
    ap (λ os. get_or os 0 None) (parts_from fs f place true 0 (f ∷ []) [] is
    (sym (append-nil (occurrences_of f ++ []) ∙ append-nil (occurrences_of f))))

pub whole_so : (M : Model) (fs : List Formula) (place : ℕ) (f : Formula)
    → slice_get fs place ≡ Some f
    → truth (read_in M) f ≡ true → IsSo (HoldsIn M) fs (whole_at place)
whole_so M fs place f is holds =
    subst (λ o. IsSomeAnd (option_map (signed true) o) (HoldsIn M))
    (sym (whole_there fs place f is)) holds

-- ---- one more fact is live

pub front_named : (base : Base) (s : Search) → IsBegun base s
    → All (λ f. IsSome (formula_of base f)) s.log
front_named base s begun = subst (All (λ f. IsSome (formula_of base f))) (sym begun.log)
    (All-take (λ f. IsSome (formula_of base f)) (length s.log) (first_facts base)
    (first_named base))

module _ (base : Base) (s : Search) (begun : IsBegun base s)
    (more : length s.branch.book.live < length s.log) where
  named : All (λ f. IsSome (formula_of base f)) s.log
  named = front_named base s begun

  abbrev place : ℕ
  place = length s.branch.book.live

  abbrev fs : List Formula
  fs = logged s.branch

  many : length fs ≡ length s.log
  many = ap length begun.formulas ∙ length-filter_map (formula_of base) s.log named

  pub place_within : place < length fs
  place_within = omega (arith, more, many)

  pub place_new : Contains s.branch.book.live place → ⊥
  place_new h =
      let at : get_or s.branch.book.live h.0 place ≡ 0 + h.0 =
      ap (λ ks. get_or ks h.0 place) begun.live ∙ get_or-range_with_len 0 place h.0 place h.1 in
      omega (arith, h.1, at, h.2)

  abbrev next : Formula
  next = get_or fs place formula.True

  there : slice_get fs place ≡ Some next
  there = slice_get-get_or fs place formula.True place_within

  abbrev IsTrueIn : Model → Formula → Type 0
  IsTrueIn M f = truth (read_in M) f ≡ true

  so : (M : Model) → AllTrue (read_in M) (live_on s.branch ++ next ∷ [])
      → HoldsWithFact s.branch place M
  so M all = (
    begun.sound M (All-append_left (IsTrueIn M) (live_on s.branch) (next ∷ []) all),
    whole_so M fs place next there (All-head (IsTrueIn M) next []
        (All-append_right (IsTrueIn M) (live_on s.branch) (next ∷ []) all)),
  )

  -- a model of the log
  from_log : (M : Model) → AllTrue (read_in M) fs
      → AllTrue (read_in M) (live_on s.branch ++ next ∷ [])
  from_log M all =
      All-push (IsTrueIn M) (live_on s.branch) next
      (All-filter_map (slice_get fs) (IsTrueIn M) s.branch.book.live (λ k f h e.
      All-contains (IsTrueIn M) fs f all (slice_get-contained fs k f e)))
      (All-contains (IsTrueIn M) fs next all (slice_get-contained fs place next there))

  module _ (w : LiveBranch) (t : Records LiveRec) (given : IsGiven w)
      (same_log : logged w ≡ logged s.branch)
      (same_limit : w.sharing.theory.limit ≡ s.branch.sharing.theory.limit) where
    abbrev pub asserted : Search
    asserted = record s { branch = w; trail = t }

    formulas : logged w ≡ formulas_of base s.log
    formulas = same_log ∙ begun.formulas

    live_more : w.book.live ≡ s.branch.book.live ++ place ∷ []
        → live_on w ≡ live_on s.branch ++ next ∷ []
    live_more e =
        ap₂ (λ gs ks. filter_map (slice_get gs) ks) same_log e
        ∙ (filter_map-append (slice_get fs) s.branch.book.live (place ∷ [])
        ∙ ap (λ o. live_on s.branch ++ cons_option o []) there)

    begun_live : w.book.live ≡ s.branch.book.live ++ place ∷ [] → IsBranch w
        → ((M : Model) → HoldsWithFact s.branch place M → IsSoundIn M w) → IsBegun base asserted
    begun_live e branch sound = record {
      log = begun.log;
      formulas = formulas;
      live =
          let longer : suc place ≡ length w.book.live =
          omega (arith, ap length e, length_push s.branch.book.live place) in
          let last : 0 + place ≡ place = omega arith in
          e ∙ (ap (λ (ks : List ℕ). ks ++ place ∷ []) begun.live
          ∙ (ap (λ k. range_with_len 0 place ++ k ∷ []) (sym last) ∙ sym (range_push 0 place)))
          ∙ ap (range_with_len 0) longer;
      few = omega (arith, more, ap length e, length_push s.branch.book.live place);
      sides = begun.sides;
      splits = begun.splits;
      under = begun.under;
      branch = branch;
      given = given;
      sound = λ M all. sound M (so M (subst (AllTrue (read_in M)) (live_more e) all));
      limit = same_limit ∙ begun.limit;
    }

    live_read : live_on w ≡ formulas_of base (live_facts asserted)
    live_read =
        ap (λ gs. filter_map (slice_get gs) w.book.live) formulas
        ∙ filter_map-read (formula_of base) s.log named w.book.live

    halted : (why : Stop) → GoesLiveOrNothing s.branch w place → IsStoppedAt w why
        → ((M : Model) → HoldsWithFact s.branch place M → All (HoldsIn M) (literals_on w))
        → IsHalted base asserted why
    halted why goes stopped hold = record {
      grown = begun_grown base s begun;
      formulas = formulas;
      limit = same_limit ∙ begun.limit;
      stopped = stopped;
      follow = λ M all.
          let live = subst (AllTrue (read_in M)) (sym live_read)
          (All-append_left (IsTrueIn M) (formulas_of base (live_facts asserted))
          (decided_on base asserted) all) in
          elim goes [
            | inl e ↦ hold M (so M (subst (AllTrue (read_in M)) (live_more e) live))
            | inr same ↦
                subst (All (HoldsIn M))
                (sym (ap₂ (λ gs (os : List Occurrence). filter_map (item_at gs) os) same_log
                same.1))
                (begun.sound M (subst (AllTrue (read_in M))
                (ap₂ (λ gs ks. filter_map (slice_get gs) ks) same_log same.0) live)).literals
          ];
    }

    pub begins : (r : Result State Stop) → Ends w (HoldsWithFact s.branch place) r
        → (r ≡ Ok state.Open → w.book.live ≡ s.branch.book.live ++ place ∷ [])
        → GoesLiveOrNothing s.branch w place → GoesLive base asserted r
    begins (Ok state.Open) ends live goes = begun_live (live refl) ends.0 ends.1
    begins (Ok state.Closed) ends live goes =
        Refuted-from_models (formulas_of base s.log) (record {
          none = λ M all. ends M (so M (from_log M
              (subst (AllTrue (read_in M)) (sym begun.formulas) all)));
        })
    begins (Err stop.Memory) ends live goes = tt
    begins (Err (stop.Spill j)) ends live goes = halted (stop.Spill j) goes ends.0 ends.1
    begins (Err (stop.Form x)) ends live goes = halted (stop.Form x) goes ends.0 ends.1
    begins (Err (stop.Pivots j)) ends live goes = halted (stop.Pivots j) goes ends.0 ends.1
