-- A search goes back to the newest open split, and to its other side.
use Rattle.std.proofs.Common.{◌≡◌, ℕ, ◌<◌, true, false, List, [], ◌∷◌, ◌++◌, Some, None}
use Rattle.std.proofs.Common.{length, take, drop, append-nil, refl, sym, ap, ap₂, subst, ◌∙◌, arith}
use Rattle.std.proofs.Common.{get_or, IsTrue}
use Rattle.std.specs.Prelude.{slice_get}
use Rattle.std.specs.List.{All, AllPairs, Contains, filter_map}
use Rattle.std.proofs.lemmas.List.{get_or_append_left, get_or_push, length_push}
use Rattle.std.proofs.lemmas.List.Elements.{All-contains, Contains-push}
use Rattle.std.proofs.lemmas.Option.{slice_get_within}
use Rattle.esc_term.specs.declared.formula.Formula.{Formula}
use Rattle.esc_term.specs.Formula.{is_closed}
use Rattle.esc_clause.specs.ClauseContext.{ClauseContext}
use Rattle.esc_clause.specs.Occurrences.{item_at}
use Rattle.esc_clause.specs.declared.occurrence.Occurrence.{Occurrence}
use Rattle.esc_clause.specs.Refinement.{is_same_place}
use Rattle.esc_clause.specs.declared.decision.Decision.{Decision}
use Rattle.esc_trail.specs.Records.{Records}
use Rattle.esc_fact.specs.Fact.{IsFact, formula_of, formulas_of}
use Rattle.esc_fact.specs.Laws.{FactIsClosed}
use Rattle.esc_fact.specs.declared.base.Base.{Base}
use Rattle.esc_fact.specs.declared.fact.Fact.{Fact}
use Rattle.esc_term.specs.Model.{read_in}
use Rattle.esc_term.specs.Refuted.{AllTrue}
use Rattle.esc_book.specs.Book.{IsLiveOccurrence}
use Rattle.esc_live.specs.Laws.{BackIsBranch, BackIsSound, IsBackAt, LeavesLog, RewoundIsGiven}
use Rattle.esc_live.specs.LiveUndo.{AreSame}
use Rattle.esc_live.specs.Promises.{IsGiven}
use Rattle.esc_live.specs.View.{literals_on, live_on, logged}
use Rattle.esc_live.proofs.LogGrows.{filter_map-alike, item_same, there_grows}
use Rattle.esc_live.specs.declared.branch.LiveBranch.{LiveBranch}
use Rattle.esc_live.specs.declared.record.LiveRec.{LiveRec}
use Rattle.esc_outcome.specs.Grown.{IsDoneIn}
use Rattle.esc_outcome.specs.Tree.{IsOccurrence, IsRefutedAt, path_formulas}
use Rattle.esc_outcome.specs.declared.branch.Split.{Split}
use Rattle.esc_outcome.proofs.Branches.{grown_is_elsewhere}
use Rattle.esc_outcome.proofs.Decided.{refuted_by_more, sides_close}
use Rattle.esc_sharing.proofs.Lists.{All-append_left, All-each}
use Rattle.esc_search.specs.Proving.{branch_of}
use Rattle.esc_search.specs.SearchInside.{IsKept, IsOlder, IsSearch, IsToDecide, IsWaiting}
use Rattle.esc_search.specs.SearchInside.{WasDecided}
use Rattle.esc_search.specs.SearchInside.{WasSplit}
use Rattle.esc_search.specs.declared.open_split.OpenSplit.{OpenSplit}
use Rattle.esc_search.specs.declared.search.Search.{Search}
use Rattle.esc_search.specs.declared.course.Course.{Course}
use Rattle.esc_verdict.specs.declared.cause.Start.{Start}
use Rattle.esc_search.proofs.Gathered.{gathered_still}
use Rattle.esc_search.proofs.BackTo.{back_popped, behind_front}
use Rattle.esc_search.proofs.FrontFacts.{filter_map-places_more}
use Rattle.esc_search.proofs.LiveFacts.{All-filter_map}
use Rattle.esc_search.proofs.Climbing.{climbs_first, climbs_other}
use Rattle.esc_search.proofs.Splitting.{to_decide}
use Rattle.esc_search.proofs.Waiting.{at_other, few_earlier, waits_back}

-- ---- pairs of a list with one more

module _ {X : Type 0} (R : X → X → Type 0) (xs : List X) (y : X)
    (all : AllPairs R (xs ++ y ∷ [])) where
  pub pairs_front : AllPairs R xs
  pairs_front i j d before below =
      subst (λ b. R (get_or xs i d) b) (get_or_append_left xs (y ∷ []) d j below)
      (subst (λ a. R a (get_or (xs ++ y ∷ []) j d))
      (get_or_append_left xs (y ∷ []) d i (omega (arith, before, below)))
      (all i j d before (omega (arith, below, length_push xs y))))

  pub pairs_last : All (λ x. R x y) xs
  pairs_last k d below =
      subst (R (get_or xs k d)) (get_or_push xs y d (length xs) refl)
      (subst (λ a. R a (get_or (xs ++ y ∷ []) (length xs) d))
      (get_or_append_left xs (y ∷ []) d k below)
      (all k (length xs) d below (omega (arith, length_push xs y))))

-- ---- the branch

-- a branch that is back where it was split is as it was
was_back : (back_branch : BackIsBranch) (back_sound : BackIsSound) (base : Base) (depth : ℕ)
    (log : List Fact) (splits : List Split) (starts : List Start) (split : Split)
    (v w : LiveBranch) → IsGiven v → logged v ≡ formulas_of base log → AreSame v w
    → All (λ (f : Formula). IsTrue (is_closed f)) (formulas_of base log)
    → WasSplit base depth log splits starts split w
    → WasSplit base depth log splits starts split v
was_back back_branch back_sound base depth log splits starts split v w given is_log same closed
    was =
    let longer : logged v ≡ logged w ++ was.formulas.0 = is_log ∙ was.formulas.1 in
    let back : IsBackAt v w = record {
      same = same;
      more = was.formulas.0;
      log = longer;
      closed = subst (All (λ (f : Formula). IsTrue (is_closed f))) (sym is_log) closed;
    } in
    let live : live_on v ≡ live_on w =
    ap₂ (λ fs ks. filter_map (slice_get fs) ks) longer same.live
    ∙ filter_map-places_more (logged w) was.formulas.0 w.book.live was.branch.book.within in
    let literals : literals_on v ≡ literals_on w =
    ap₂ (λ fs (os : List Occurrence). filter_map (item_at fs) os) longer same.literals
    ∙ filter_map-alike (IsLiveOccurrence w.book) (item_at (logged w ++ was.formulas.0))
    (item_at (logged w)) (λ at is. item_same (logged w) was.formulas.0 at is.there) w.literals
    was.branch.shared.occur in
    record {
      branch = back_branch v w back given was.branch;
      formulas = ([], sym is_log ∙ sym (append-nil (logged v)));
      gathered = gathered_still base depth starts [] log log w v was.gathered
          (subst (All (λ k. k < length log)) (sym same.live) was.gathered.places)
          (ap (filter_map (slice_get log)) same.live) []
          (literals ∙ sym (append-nil (literals_on w)));
      sound = λ M all. back_sound v w back was.branch M (was.sound M (subst (λ fs.
          AllTrue (read_in M) (fs ++ path_formulas (formulas_of base log) splits split.under)) live
          all));
      decided = subst (λ (c : ClauseContext). WasDecided splits split.under c.decisions)
          (sym same.clauses) was.decided;
      occurs = record {
        live = subst (λ (list : List ℕ). Contains list split.at.fact) (sym same.live)
            was.occurs.live;
        there = subst (λ list. IsOccurrence list split.at) (sym longer)
            (there_grows (logged w) was.formulas.0 split.at was.occurs.there);
      };
      undecided = subst (λ (c : ClauseContext). All (λ (d : Decision).
          is_same_place d.at split.at ≡ false) c.decisions) (sym same.clauses) was.undecided;
    }

-- ---- the search

module _ (back_branch : BackIsBranch) (back_sound : BackIsSound) (rewound : RewoundIsGiven)
    (facts_closed : FactIsClosed) (base : Base) (s : Search) (course : Course) (n : OpenSplit)
    (search : IsSearch base s (record course { waiting = course.waiting ++ n ∷ [] }))
    (refuted : IsDoneIn base (branch_of s) s.under)
    (t : Records LiveRec) (records : t.records ≡ take n.mark s.trail.records) where
  abbrev fs : List Formula
  fs = formulas_of base s.log

  abbrev os : List OpenSplit
  os = course.waiting

  pub is : IsWaiting base s course.starts n
  is = All-contains (IsWaiting base s course.starts) (os ++ n ∷ []) n search.waits
      (Contains-push os n)

  abbrev pub other : Search
  other = at_other base s course.starts t n is records

  abbrev pub shorter : Course
  shorter = record course { starts = take n.rounds course.starts }

  leaves : LeavesLog s.branch other.branch
  leaves = rewound s.branch (drop n.mark s.trail.records) is.undoable search.given

  log : logged other.branch ≡ fs
  log = leaves.log ∙ search.formulas

  all_closed : All (λ (f : Formula). IsTrue (is_closed f)) fs
  all_closed = All-filter_map (formula_of base) (λ (f : Formula). IsTrue (is_closed f)) s.log
      (λ fact f there named. facts_closed base fact f search.closed
      (All-contains (IsFact base) s.log fact search.legal.are_facts there) named)

  was : WasSplit base s.limits.depth s.log s.splits shorter.starts n.split other.branch
  was = was_back back_branch back_sound base s.limits.depth s.log s.splits shorter.starts n.split
      other.branch is.before leaves.given log is.same all_closed is.split

  first : (gs : List Formula) → IsRefutedAt (fs ++ gs) s.splits (Some (n.number, true))
  first gs = climbs_first (IsRefutedAt (fs ++ gs) s.splits) None os n s.under (search.climbs gs)
      (refuted_by_more fs gs s.splits s.under search.grown.splits.occur refuted)

  first_alone : IsRefutedAt fs s.splits (Some (n.number, true))
  first_alone = subst (λ gs. IsRefutedAt gs s.splits (Some (n.number, true))) (append-nil fs)
      (first [])

  there : IsOccurrence fs n.split.at
  there = subst (λ gs. IsOccurrence gs n.split.at) log was.occurs.there

  pub search_back : IsSearch base other shorter
  search_back = record {
    closed = search.closed;
    legal = search.legal;
    few_facts = search.few_facts;
    formulas = log;
    grown = grown_is_elsewhere base s.limits.depth (branch_of s) (Some (n.number, false))
        search.grown (record {
          there = slice_get_within s.splits n.number n.split is.there;
          in_turn = λ e. first_alone;
        });
    given = leaves.given;
    limit = leaves.limit ∙ search.limit;
    few = search.few;
    few_rounds = omega (
      arith,
      is.begun,
      search.few_rounds,
      few_earlier base s course.starts t n is records,
    );
    free = is.free;
    waits = All-each (IsWaiting base other shorter.starts) os (λ o h.
        waits_back base s course.starts t n is records o
        (All-contains (λ p. IsOlder p n) os o (pairs_last IsOlder os n search.older) h)
        (All-contains (IsWaiting base s course.starts) os o
        (All-append_left (IsWaiting base s course.starts) os (n ∷ []) search.waits) h));
    older = pairs_front IsOlder os n search.older;
    climbs = λ gs. climbs_other (IsRefutedAt (fs ++ gs) s.splits) None os n s.under
        (Some (n.number, false)) (search.climbs gs)
        (sides_close (fs ++ gs) s.splits n.number n.split search.grown.splits.tree is.there
        (there_grows fs gs n.split.at there) (first gs));
  }

  pub other_to_decide : IsToDecide base other shorter.starts n.split.at false
  other_to_decide =
      to_decide base other shorter.starts n.number n.split false search.grown.splits.tree is.there
      refl log was

  pub kept_other : IsKept base s (os ++ n ∷ []) other os
  kept_other = record {
    given = search_back.given;
    formulas = search_back.formulas;
    limits = refl;
    tally = refl;
    levels = λ t2 behind goes.
        let parts = behind_front t2 os n behind in (
          back_popped rewound s t2 n.mark t (Some (n.number, false)) records is.undoable
              search.given parts.1 goes,
          parts.0,
        );
  }
