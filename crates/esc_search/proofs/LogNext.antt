-- The next fact of a round is logged, where the search is.
use Rattle.std.proofs.Common.{◌≡◌, ℕ, ◌<◌, ◌≤◌, ◌+◌, Bool, true, false, List, [], ◌∷◌, ◌++◌}
use Rattle.std.proofs.Common.{Some}
use Rattle.std.proofs.Common.{None, Option, length, take, refl, sym, ap, ap₂, subst, ◌∙◌}
use Rattle.std.proofs.Common.{append-nil}
use Rattle.std.proofs.Common.{append_assoc, arith, inr, length-append, subst₂}
use Rattle.std.specs.Prelude.{if◌then◌else◌, not, slice_get}
use Rattle.std.specs.List.{All, Contains, cons_option, filter_map, fold}
use Rattle.std.specs.Option.{option_map_or}
use Rattle.std.proofs.lemmas.List.{length_push}
use Rattle.std.proofs.lemmas.List.Elements.{All-contains, All-push, All-weaker}
use Rattle.std.proofs.lemmas.List.Elements.{Contains-append_left}
use Rattle.std.proofs.lemmas.List.Elements.{Contains-push, filter_map-append}
use Rattle.esc_term.specs.declared.formula.Formula.{Formula}
use Rattle.esc_term.specs.Model.{Model, read_in}
use Rattle.esc_term.specs.Refuted.{AllTrue}
use Rattle.esc_clause.specs.Occurrences.{item_at}
use Rattle.esc_clause.specs.declared.occurrence.Occurrence.{Occurrence}
use Rattle.esc_fact.specs.Depth.{Deep, deep, depth_behind, with_depth}
use Rattle.esc_fact.specs.Fact.{IsFact, formula_of, formulas_of}
use Rattle.esc_fact.specs.Legal.{IsLegal, first_facts, is_first, made_facts}
use Rattle.esc_fact.specs.declared.base.Base.{Base}
use Rattle.esc_fact.specs.declared.fact.Fact.{Fact}
use Rattle.esc_book.specs.Book.{IsLiveOccurrence}
use Rattle.esc_live.specs.Promises.{IsBranch, IsGiven, IsSoundIn}
use Rattle.esc_live.specs.View.{literals_on, live_on, logged}
use Rattle.esc_live.specs.declared.branch.LiveBranch.{LiveBranch}
use Rattle.esc_live.proofs.LogGrows.{filter_map-alike, item_same}
use Rattle.esc_outcome.specs.Causes.{AllFollow, formulas_on}
use Rattle.esc_outcome.specs.Grown.{Grown, IsShallowAmong}
use Rattle.esc_outcome.specs.GrownLaws.{with_fact}
use Rattle.esc_outcome.specs.Tree.{IsRefutedAt, Side, path_formulas}
use Rattle.esc_outcome.specs.declared.branch.Split.{Split}
use Rattle.esc_outcome.proofs.Branches.{grown_by_fact}
use Rattle.esc_sharing.proofs.Lists.{All-append_left}
use Rattle.std.proofs.lemmas.List.Elements.{filter-append}
use Rattle.std.proofs.lemmas.List.Sums.{fold-append}
use Rattle.esc_outcome.proofs.Decided.{decided_stays}
use Rattle.esc_verdict.specs.declared.cause.Start.{Start}
use Rattle.esc_verdict.specs.Rounds.{IsMatched}
use Rattle.esc_verdict.proofs.GrowingLog.{log_may_grow}
use Rattle.esc_verdict.proofs.MatchedFacts.{matched_is_made}
use Rattle.esc_verdict.proofs.RoundFacts.{legal_front}
use Rattle.esc_search.specs.Proving.{branch_of, live_facts}
use Rattle.esc_search.specs.SearchInside.{AreGathered, Climbs, IsAmid, IsKept, IsOpenHere, IsSearch}
use Rattle.esc_search.specs.SearchInside.{IsWaiting}
use Rattle.esc_egraph.specs.declared.state.State.TheVariants as state
use Rattle.esc_search.specs.SearchInside.{WasDecided, WasSplit, facts_on}
use Rattle.esc_search.specs.declared.course.Course.{Course}
use Rattle.esc_search.specs.declared.open_split.OpenSplit.{OpenSplit}
use Rattle.esc_search.specs.declared.search.Search.{Search}
use Rattle.esc_search.proofs.FewFacts.{live_logged}
use Rattle.esc_search.proofs.Following.{all_follow}
use Rattle.esc_search.proofs.FrontFacts.{filter_map-places_more}
use Rattle.esc_search.proofs.Gathered.{gathered_still}
use Rattle.esc_search.proofs.Reaching.{from_log}
use Rattle.esc_search.proofs.BackTo.{kept_since, since_logged}
use Rattle.esc_search.proofs.Waiting.{waits_on}

-- ---- depths of a front

module _ (base : Base) (P : Deep → Type 0) where
  depths_front : (facts : List Fact) (ds : List Deep) → All P (fold (with_depth base) ds facts)
      → All P ds
  depths_front [] ds h = h
  depths_front (f ∷ facts) ds h =
      one (formula_of base f) (depths_front facts (with_depth base ds f) h)
    where
      one : (o : Option Formula)
          → All P (option_map_or (λ g. ds ++ record {
            formula = g;
            depth = depth_behind base ds f;
          } ∷ []) o ds) → All P ds
      one None all = all
      one (Some g) all = All-append_left P ds _ all

  pub deep_front : (xs ys : List Fact) → All P (deep base (xs ++ ys)) → All P (deep base xs)
  deep_front xs ys h =
      depths_front ys (deep base xs) (subst (All P) (fold-append (with_depth base) [] xs ys) h)

-- ---- one more of those that are made

made_push : (xs : List Fact) (f : Fact)
    → length (made_facts (xs ++ f ∷ [])) ≤ length (made_facts xs) + 1
made_push xs f =
    let whole = filter-append (λ g. not (is_first g)) xs (f ∷ []) in
    let last = one (not (is_first f)) in
    omega (arith, ap length whole, length-append (made_facts xs) (made_facts (f ∷ [])), last)
  where
    one : (b : Bool) → length (if b then f ∷ [] else []) ≤ 1
    one true = omega arith
    one false = omega arith

-- ---- the fact

module _ (base : Base) (s : Search) (course : Course) (fact : Fact) (coming : List Fact)
    (search : IsSearch base s course) (here : IsOpenHere base s course.starts (fact ∷ coming))
    (new : Contains s.log fact → ⊥) where
  abbrev live : List Fact
  live = live_facts s

  abbrev longer : List Fact
  longer = s.log ++ fact ∷ []

  abbrev fs : List Formula
  fs = formulas_of base s.log

  gathered : AreGathered base s.limits.depth s.log s.branch course.starts (fact ∷ coming)
  gathered = here.gathered

  seam : live ++ (fact ∷ coming) ≡ (live ++ fact ∷ []) ++ coming
  seam = sym (append_assoc live (fact ∷ []) coming)

  legal_live : IsLegal base (live ++ fact ∷ [])
  legal_live =
      legal_front base (live ++ fact ∷ []) (gathered.begins.0 ++ fact ∷ []) coming
      (ap (λ list. list ++ fact ∷ []) gathered.begins.1
      ∙ append_assoc (first_facts base) gathered.begins.0 (fact ∷ []))
      (subst (IsLegal base) seam gathered.legal)

  pub next_is_fact : IsFact base fact
  next_is_fact = All-contains (IsFact base) (live ++ fact ∷ []) fact legal_live.are_facts
      (Contains-push live fact)

  among : All (Contains s.log) live
  among = live_logged s.log s.branch.book.live

  pub legal_log : IsLegal base longer
  legal_log = log_may_grow base s.log live fact search.legal among legal_live new

  follow : AllFollow (formulas_on base (branch_of s)) (literals_on s.branch)
  follow = all_follow (formulas_on base (branch_of s)) (literals_on s.branch) (λ M all.
      (here.sound M (from_log base s course search M all)).literals)

  matched : IsMatched base live (literals_on s.branch) fact
  matched = gathered.matched live coming fact refl

  shallow : IsShallowAmong base s.limits.depth longer fact
  shallow = record {
    list = live ++ fact ∷ [];
    legal = legal_live;
    logged = All-push (Contains longer) live fact
        (All-weaker (Contains s.log) (Contains longer)
        (λ f h. Contains-append_left s.log (fact ∷ []) f h) live among)
        (Contains-push s.log fact);
    there = Contains-push live fact;
    shallow = deep_front base (λ d. d.depth ≤ s.limits.depth) (live ++ fact ∷ []) coming
        (subst (λ list. All (λ (d : Deep). d.depth ≤ s.limits.depth) (deep base list)) seam
        gathered.shallow);
  }

  pub grown_next : Grown base s.limits.depth (with_fact (branch_of s) fact)
  grown_next =
      grown_by_fact base s.limits.depth (branch_of s) fact search.grown
      (record { more = []; legal = subst (IsLegal base) (sym (append-nil longer)) legal_log })
      (matched_is_made base (branch_of s) live (literals_on s.branch) fact among follow matched)
      (inr shallow)

  -- ---- the branch with its formula

  module _ (more_may : length (made_facts s.log) < s.limits.facts) (w : LiveBranch) (g : Formula)
      (is : formula_of base fact ≡ Some g)
      (grows : logged w ≡ logged s.branch ++ g ∷ [])
      (same : w ≡ record s.branch { book = record s.branch.book { logged = logged w } })
      (is_branch : IsBranch w) (given : IsGiven w)
      (sound : (M : Model) → IsSoundIn M s.branch → IsSoundIn M w) where
    abbrev pub with_next : Search
    with_next = record s {
      log = longer;
      sides = s.sides ++ s.under ∷ [];
      branch = w;
    }

    abbrev fs_more : List Formula
    fs_more = formulas_of base longer

    formulas_are : fs_more ≡ fs ++ g ∷ []
    formulas_are =
        filter_map-append (formula_of base) s.log (fact ∷ [])
        ∙ ap (λ o. fs ++ cons_option o []) is

    pub next_formulas : logged w ≡ fs_more
    next_formulas = grows ∙ (ap (λ list. list ++ g ∷ []) search.formulas ∙ sym formulas_are)

    path_same : (side : Side) → path_formulas fs_more s.splits side ≡ path_formulas fs s.splits side
    path_same side =
        ap (λ list. path_formulas list s.splits side) formulas_are
        ∙ decided_stays fs (g ∷ []) s.splits side search.grown.splits.occur

    same_live : w.book.live ≡ s.branch.book.live
    same_live = ap (λ (v : LiveBranch). v.book.live) same

    live_same : live_on w ≡ live_on s.branch
    live_same =
        ap₂ (λ list ks. filter_map (slice_get list) ks) grows same_live
        ∙ filter_map-places_more (logged s.branch) (g ∷ []) s.branch.book.live
        here.branch.book.within

    literals_same : literals_on w ≡ literals_on s.branch
    literals_same =
        ap₂ (λ list (os : List Occurrence). filter_map (item_at list) os) grows
        (ap (λ (v : LiveBranch). v.literals) same)
        ∙ filter_map-alike (IsLiveOccurrence s.branch.book) (item_at (logged s.branch ++ g ∷ []))
        (item_at (logged s.branch)) (λ at h. item_same (logged s.branch) (g ∷ []) at h.there)
        s.branch.literals here.branch.shared.occur

    places_more : (ks : List ℕ) → All (λ k. k < length s.log) ks
        → All (λ k. k < length longer) ks
    places_more ks all =
        All-weaker (λ k. k < length s.log) (λ k. k < length longer)
        (λ k below. omega (arith, below, length_push s.log fact)) ks all

    facts_same : (v : LiveBranch) → All (λ k. k < length s.log) v.book.live
        → facts_on longer v ≡ facts_on s.log v
    facts_same v all = filter_map-places_more s.log (fact ∷ []) v.book.live all

    was_logged : (starts : List Start) (split : Split) (v : LiveBranch)
        → WasSplit base s.limits.depth s.log s.splits starts split v
        → WasSplit base s.limits.depth longer s.splits starts split v
    was_logged starts split v h = record {
      branch = h.branch;
      formulas = (
        h.formulas.0 ++ g ∷ [],
        formulas_are ∙ (ap (λ list. list ++ g ∷ []) h.formulas.1
            ∙ append_assoc (logged v) h.formulas.0 (g ∷ [])),
      );
      gathered = gathered_still base s.limits.depth starts [] s.log longer v v h.gathered
          (places_more v.book.live h.gathered.places) (facts_same v h.gathered.places) []
          (sym (append-nil (literals_on v)));
      sound = λ M all. h.sound M (subst (λ list. AllTrue (read_in M) (live_on v ++ list))
          (path_same split.under) all);
      decided = h.decided;
      occurs = h.occurs;
      undecided = h.undecided;
    }

    waits_logged : (o : OpenSplit) → IsWaiting base s course.starts o
        → IsWaiting base with_next course.starts o
    waits_logged o h =
        let notes = (since_logged s w longer (s.sides ++ s.under ∷ []) same
        (g ∷ [], grows) (fact ∷ [], refl) (s.under ∷ [], refl)).notes in
        let on = waits_on base s w s.trail notes course.starts o h in
        record {
          there = h.there;
          free = h.free;
          elsewhere = h.elsewhere;
          within = h.within;
          undoable = on.undoable;
          begun = h.begun;
          before = on.before;
          same = on.same;
          split = was_logged (take o.rounds course.starts) o.split on.before on.split;
        }

    pub next_search : IsSearch base with_next course
    next_search = record {
      closed = search.closed;
      legal = legal_log;
      few_facts = omega (arith, more_may, made_push s.log fact);
      formulas = next_formulas;
      grown = grown_next;
      given = given;
      limit = ap (λ (v : LiveBranch). v.sharing.theory.limit) same ∙ search.limit;
      few = search.few;
      few_rounds = search.few_rounds;
      free = search.free;
      waits = All-weaker (IsWaiting base s course.starts) (IsWaiting base with_next course.starts)
          waits_logged course.waiting search.waits;
      older = search.older;
      climbs = λ gs. subst (λ list. Climbs (IsRefutedAt list s.splits) None course.waiting s.under)
          (sym (ap (λ list. list ++ gs) formulas_are ∙ append_assoc fs (g ∷ []) gs))
          (search.climbs (g ∷ gs));
    }

    pub next_here : IsOpenHere base with_next course.starts (fact ∷ coming)
    next_here = record {
      branch = is_branch;
      gathered = gathered_still base s.limits.depth course.starts (fact ∷ coming) s.log longer
          s.branch w gathered
          (subst (All (λ k. k < length longer)) (sym same_live)
          (places_more s.branch.book.live gathered.places))
          (ap (filter_map (slice_get longer)) same_live ∙ facts_same s.branch gathered.places) []
          (literals_same ∙ sym (append-nil (literals_on s.branch)));
      sound = λ M all. sound M (here.sound M (subst (AllTrue (read_in M))
          (ap₂ (λ xs ys. xs ++ ys) live_same (path_same s.under)) all));
      decided = subst (WasDecided s.splits s.under)
          (sym (ap (λ (v : LiveBranch). v.clauses.decisions) same)) here.decided;
    }

    -- the same with what calls made of log and sides
    module _ (log : List Fact) (sides : List Side) (l : log ≡ longer)
        (x : sides ≡ s.sides ++ s.under ∷ []) where
      abbrev made : Search
      made = record s { log = log; sides = sides; branch = w }

      pub next_amid : IsAmid base made course (fact ∷ coming) state.Open
      next_amid =
          subst₂ (λ a b. IsAmid base (record s { log = a; sides = b; branch = w }) course
          (fact ∷ coming) state.Open) (sym l) (sym x) (next_search, next_here)

      pub next_kept : IsKept base s course.waiting made course.waiting
      next_kept =
          kept_since base s course.waiting made given
          (next_formulas ∙ sym (ap (formulas_of base) l)) refl
          (since_logged s w log sides same (g ∷ [], grows) (fact ∷ [], l) (s.under ∷ [], x))
