-- The next fact of a round becomes live, where the search is.
use Rattle.std.proofs.Common.{◌≡◌, ℕ, ◌<◌, ◌+◌, true, List, [], ◌∷◌, ◌++◌, Option, Some, None}
use Rattle.std.proofs.Common.{Result}
use Rattle.std.proofs.Common.{Ok, Err, length, refl, sym, ap, ap₂, subst, ◌∙◌, arith}
use Rattle.std.proofs.Common.{inl, inr, length-append, get_or}
use Rattle.std.specs.Prelude.{IsSome, slice_get}
use Rattle.std.specs.Option.{option_and_then}
use Rattle.std.specs.List.{All, AllPairs, Contains, cons_option, filter_map}
use Rattle.std.proofs.lemmas.List.{get_or_append_left}
use Rattle.std.proofs.lemmas.List.Elements.{All-append, All-contains, All-head, All-push}
use Rattle.std.proofs.lemmas.List.Elements.{All-weaker}
use Rattle.std.proofs.lemmas.List.Elements.{filter_map-append}
use Rattle.std.proofs.Math.Seq.{get_or-append_seam}
use Rattle.std.proofs.lemmas.Option.{slice_get_within}
use Rattle.esc_term.specs.declared.formula.Formula.{Formula}
use Rattle.esc_term.specs.Interpretation.{truth}
use Rattle.esc_term.specs.Model.{Model, read_in}
use Rattle.esc_term.specs.Refuted.{AllTrue}
use Rattle.esc_term.proofs.Models.{Refuted-from_models}
use Rattle.esc_cover.specs.Laws.{HoldsIn}
use Rattle.esc_clause.specs.Occurrences.{item_at}
use Rattle.esc_clause.specs.declared.occurrence.Occurrence.{Occurrence}
use Rattle.esc_trail.specs.Records.{Records}
use Rattle.esc_trail.specs.Undo.{Notes}
use Rattle.esc_egraph.specs.declared.state.State.{State}
use Rattle.esc_egraph.specs.declared.state.State.TheVariants as state
use Rattle.esc_simplex.specs.declared.stop.Stop.{Stop}
use Rattle.esc_simplex.specs.declared.stop.Stop.TheVariants as stop
use Rattle.esc_fact.specs.Fact.{formula_of, formulas_of}
use Rattle.esc_fact.specs.declared.base.Base.{Base}
use Rattle.esc_fact.specs.declared.fact.Fact.{Fact}
use Rattle.esc_live.specs.Calls.{AddsLiterals, Ends, GoesLiveOrNothing, HoldsWithFact, IsStoppedAt}
use Rattle.esc_live.specs.Calls.{MeansMore}
use Rattle.esc_live.specs.LiveUndo.{live_undo}
use Rattle.esc_live.specs.Promises.{IsGiven}
use Rattle.esc_live.specs.View.{literals_on, live_on, logged}
use Rattle.esc_live.specs.declared.branch.LiveBranch.{LiveBranch}
use Rattle.esc_live.specs.declared.record.LiveRec.{LiveRec}
use Rattle.esc_live.proofs.LiveAtoms.{Contains-filter_map}
use Rattle.esc_outcome.specs.Tree.{path_formulas}
use Rattle.esc_sharing.proofs.Lists.{All-append_left, All-append_right}
use Rattle.esc_search.specs.SearchInside.{IsHalted, IsKept, IsOpenHere, IsSearch, IsWaiting}
use Rattle.esc_search.specs.SearchInside.{Reaches, WasDecided, facts_on}
use Rattle.esc_search.specs.declared.course.Course.{Course}
use Rattle.esc_search.specs.declared.search.Search.{Search}
use Rattle.esc_search.proofs.Asserting.{whole_so}
use Rattle.esc_search.proofs.BackTo.{kept_since, since_call}
use Rattle.esc_search.proofs.Gathered.{gathered_more}
use Rattle.esc_search.proofs.LiveFacts.{length-filter_map, slice_get-contained}
use Rattle.esc_search.proofs.LiveFacts.{slice_get-filter_map}
use Rattle.esc_search.proofs.Reaching.{from_log, halted_at, named}
use Rattle.esc_search.proofs.Waiting.{waits_on}

-- what differs from all behind it does not stand before
pub not_before : {X : Type 0} (xs ys : List X) (x : X)
    → AllPairs (λ a b. a ≡ b → ⊥) (xs ++ (x ∷ ys)) → Contains xs x → ⊥
not_before xs ys x differ there =
    let at : get_or (xs ++ (x ∷ ys)) (length xs) x ≡ x = get_or-append_seam xs x ys x in
    differ there.0 (length xs) x there.1 (omega (arith, length-append xs (x ∷ ys)))
    (get_or_append_left xs (x ∷ ys) x there.0 there.1 ∙ there.2 ∙ sym at)

module _ (base : Base) (s : Search) (course : Course) (fact : Fact) (coming : List Fact)
    (search : IsSearch base s course) (here : IsOpenHere base s course.starts (fact ∷ coming))
    (place : ℕ) (there : slice_get s.log place ≡ Some fact) where
  abbrev fs : List Formula
  fs = logged s.branch

  abbrev path : List Formula
  path = path_formulas (formulas_of base s.log) s.splits s.under

  abbrev IsTrueIn : Model → Formula → Type 0
  IsTrueIn M f = truth (read_in M) f ≡ true

  many : length fs ≡ length s.log
  many = ap length search.formulas
      ∙ length-filter_map (formula_of base) s.log (named base s course search)

  pub next_there : place < length fs
  next_there = omega (arith, many, slice_get_within s.log place fact there)

  pub next_new : Contains s.branch.book.live place → ⊥
  next_new h =
      not_before (facts_on s.log s.branch) coming fact here.gathered.legal.differ
      (Contains-filter_map (slice_get s.log) s.branch.book.live place fact h there)

  -- its formula
  found : (f : Formula) × (slice_get fs place ≡ Some f)
  found = go (formula_of base fact) refl
      (All-contains (λ x. IsSome (formula_of base x)) s.log fact (named base s course search)
      (slice_get-contained s.log place fact there))
    where
      go : (o : Option Formula) → formula_of base fact ≡ o → IsSome o
          → (f : Formula) × (slice_get fs place ≡ Some f)
      go None e some = absurd (cc)
      go (Some f) e some = (
        f,
        ap (λ list. slice_get list place) search.formulas
            ∙ (slice_get-filter_map (formula_of base) s.log (named base s course search) place
            ∙ (ap (option_and_then (formula_of base)) there ∙ e)),
      )

  abbrev next : Formula
  next = found.0

  so : (M : Model) → AllTrue (read_in M) (live_on s.branch ++ path)
      → truth (read_in M) next ≡ true → HoldsWithFact s.branch place M
  so M all holds = (here.sound M all, whole_so M fs place next found.1 holds)

  module _ (w : LiveBranch) (t : Records LiveRec) (given : IsGiven w)
      (same_log : logged w ≡ logged s.branch)
      (same_limit : w.sharing.theory.limit ≡ s.branch.sharing.theory.limit)
      (literals : AddsLiterals s.branch w)
      (decisions : w.clauses.decisions ≡ s.branch.clauses.decisions)
      (notes : Notes live_undo (λ rec. rec) s.trail.records t.records s.branch w) where
    abbrev pub asserted : Search
    asserted = record s { branch = w; trail = t }

    pub asserted_formulas : logged w ≡ formulas_of base s.log
    asserted_formulas = same_log ∙ search.formulas

    pub asserted_search : IsSearch base asserted course
    asserted_search = record {
      closed = search.closed;
      legal = search.legal;
      few_facts = search.few_facts;
      formulas = asserted_formulas;
      grown = search.grown;
      given = given;
      limit = same_limit ∙ search.limit;
      few = search.few;
      few_rounds = search.few_rounds;
      free = search.free;
      waits = All-weaker (IsWaiting base s course.starts) (IsWaiting base asserted course.starts)
          (waits_on base s w t notes course.starts) course.waiting search.waits;
      older = search.older;
      climbs = search.climbs;
    }

    pub asserted_kept : MeansMore s.branch w → IsKept base s course.waiting asserted course.waiting
    asserted_kept means =
        kept_since base s course.waiting asserted given asserted_formulas refl
        (since_call s w t notes means same_log)

    live_more : w.book.live ≡ s.branch.book.live ++ place ∷ []
        → live_on w ≡ live_on s.branch ++ next ∷ []
    live_more e =
        ap₂ (λ gs ks. filter_map (slice_get gs) ks) same_log e
        ∙ (filter_map-append (slice_get fs) s.branch.book.live (place ∷ [])
        ∙ ap (λ o. live_on s.branch ++ cons_option o []) found.1)

    facts_more : w.book.live ≡ s.branch.book.live ++ place ∷ []
        → facts_on s.log w ≡ facts_on s.log s.branch ++ fact ∷ []
    facts_more e =
        ap (filter_map (slice_get s.log)) e
        ∙ (filter_map-append (slice_get s.log) s.branch.book.live (place ∷ [])
        ∙ ap (λ o. facts_on s.log s.branch ++ cons_option o []) there)

    literals_more : literals_on w
        ≡ literals_on s.branch ++ filter_map (item_at (logged s.branch)) literals.0
    literals_more =
        ap₂ (λ gs (os : List Occurrence). filter_map (item_at gs) os) same_log literals.1
        ∙ filter_map-append (item_at (logged s.branch)) s.branch.literals literals.0

    -- in a model of what is said when the fact is live
    so_live : w.book.live ≡ s.branch.book.live ++ place ∷ [] → (M : Model)
        → AllTrue (read_in M) (live_on w ++ path) → HoldsWithFact s.branch place M
    so_live e M all =
        let whole = subst (λ list. AllTrue (read_in M) (list ++ path)) (live_more e) all in
        let live = All-append_left (IsTrueIn M) (live_on s.branch ++ next ∷ []) path whole in
        so M
        (All-append (IsTrueIn M) (live_on s.branch) path
        (All-append_left (IsTrueIn M) (live_on s.branch) (next ∷ []) live)
        (All-append_right (IsTrueIn M) (live_on s.branch ++ next ∷ []) path whole))
        (All-head (IsTrueIn M) next []
        (All-append_right (IsTrueIn M) (live_on s.branch) (next ∷ []) live))

    -- in one of the log
    so_log : (M : Model) → AllTrue (read_in M) (formulas_of base s.log ++ path)
        → HoldsWithFact s.branch place M
    so_log M all =
        so M (from_log base s course search M all)
        (All-contains (IsTrueIn M) fs next
        (subst (AllTrue (read_in M)) (sym search.formulas)
        (All-append_left (IsTrueIn M) (formulas_of base s.log) path all))
        (slice_get-contained fs place next found.1))

    halts : (why : Stop) → GoesLiveOrNothing s.branch w place → IsStoppedAt w why
        → ((M : Model) → HoldsWithFact s.branch place M → All (HoldsIn M) (literals_on w))
        → IsHalted base asserted why
    halts why goes stopped hold =
        halted_at base asserted course asserted_search why stopped (λ M all.
        elim goes [
          | inl e ↦ hold M (so_live e M all)
          | inr same ↦
              subst (All (HoldsIn M))
              (sym (ap₂ (λ gs (os : List Occurrence). filter_map (item_at gs) os) same_log same.1))
              (here.sound M (subst (λ list. AllTrue (read_in M) (list ++ path))
              (ap₂ (λ gs ks. filter_map (slice_get gs) ks) same_log same.0) all)).literals
        ])

    pub asserts_next : (r : Result State Stop) → Ends w (HoldsWithFact s.branch place) r
        → (r ≡ Ok state.Open → w.book.live ≡ s.branch.book.live ++ place ∷ [])
        → GoesLiveOrNothing s.branch w place → Reaches base asserted course coming r
    asserts_next (Ok state.Open) ends live goes = (
      asserted_search,
      record {
        branch = ends.0;
        gathered = gathered_more base s.limits.depth course.starts fact coming s.log s.branch w
            here.gathered
            (subst (All (λ k. k < length s.log)) (sym (live refl))
            (All-push (λ k. k < length s.log) s.branch.book.live place here.gathered.places
            (slice_get_within s.log place fact there)))
            (facts_more (live refl)) (filter_map (item_at (logged s.branch)) literals.0)
            literals_more;
        sound = λ M all. ends.1 M (so_live (live refl) M all);
        decided = subst (WasDecided s.splits s.under) (sym decisions) here.decided;
      },
    )
    asserts_next (Ok state.Closed) ends live goes = (
      asserted_search,
      Refuted-from_models _ (record { none = λ M all. ends M (so_log M all) }),
    )
    asserts_next (Err stop.Memory) ends live goes = tt
    asserts_next (Err (stop.Spill j)) ends live goes = halts (stop.Spill j) goes ends.0 ends.1
    asserts_next (Err (stop.Form x)) ends live goes = halts (stop.Form x) goes ends.0 ends.1
    asserts_next (Err (stop.Pivots j)) ends live goes = halts (stop.Pivots j) goes ends.0 ends.1
