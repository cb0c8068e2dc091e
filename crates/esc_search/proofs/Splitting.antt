-- A search makes a split, and goes to its first side.
use Rattle.std.proofs.Common.{◌≡◌, ℕ, ◌<◌, Bool, true, false, List, [], ◌∷◌, ◌++◌, Some}
use Rattle.std.proofs.Common.{None, length, refl, sym, ap, ap₂, subst, subst₂, ◌∙◌, append-nil}
use Rattle.std.proofs.Common.{arith}
use Rattle.std.specs.Prelude.{slice_get}
use Rattle.std.specs.List.{All, Contains}
use Rattle.std.proofs.lemmas.List.{length_push}
use Rattle.std.proofs.lemmas.List.Elements.{All-contains, All-head, All-push, All-weaker}
use Rattle.std.proofs.lemmas.List.Elements.{Contains-append_left, Contains-push}
use Rattle.std.proofs.lemmas.List.Quantifiers.{all_pairs_push}
use Rattle.std.proofs.lemmas.Option.{slice_get_within}
use Rattle.esc_term.specs.declared.formula.Formula.{Formula}
use Rattle.esc_term.specs.Model.{read_in}
use Rattle.esc_term.specs.Refuted.{AllTrue}
use Rattle.esc_cover.specs.Laws.{HoldsIn}
use Rattle.esc_clause.specs.Laws.{IsSo}
use Rattle.esc_clause.specs.Refinement.{is_same_place}
use Rattle.esc_clause.specs.declared.decision.Decision.{Decision}
use Rattle.esc_clause.specs.declared.occurrence.Occurrence.{Occurrence}
use Rattle.esc_fact.specs.Fact.{formulas_of}
use Rattle.esc_fact.specs.declared.base.Base.{Base}
use Rattle.esc_live.specs.Promises.{decided_as}
use Rattle.esc_live.specs.View.{live_on, logged}
use Rattle.esc_outcome.specs.Grown.{IsDoneIn, IsPlace}
use Rattle.esc_outcome.specs.Tree.{IsFree, IsOccurrence, IsRefutedAt, IsSideAmong, IsTree}
use Rattle.esc_outcome.specs.Tree.{IsUndecidedAt, path_of}
use Rattle.esc_outcome.specs.declared.branch.Split.{Split}
use Rattle.esc_outcome.proofs.Branches.{grown_by_split}
use Rattle.esc_outcome.proofs.Decided.{refuted_stays}
use Rattle.esc_outcome.proofs.Growing.{IsSideAmong-more, new_sides_are_free}
use Rattle.esc_outcome.proofs.Paths.{path_below, slice_get_push}
use Rattle.esc_term.specs.Refuted.{Refuted}
use Rattle.esc_refine.specs.Refining.{SplitsAt}
use Rattle.esc_sharing.proofs.Lists.{All-each}
use Rattle.esc_search.specs.Proving.{branch_of}
use Rattle.esc_search.specs.SearchInside.{IsOlder, IsOpenHere, IsSearch, IsToDecide, IsWaiting}
use Rattle.esc_search.specs.SearchInside.{WasSplit, said_under, sides_left, steps_left}
use Rattle.esc_search.specs.declared.course.Course.{Course}
use Rattle.esc_verdict.specs.declared.cause.Start.{Start}
use Rattle.esc_search.proofs.Nearer.{nearer_sides}
use Rattle.esc_search.specs.declared.open_split.OpenSplit.{OpenSplit}
use Rattle.esc_search.specs.declared.search.Search.{Search}
use Rattle.esc_search.proofs.Climbing.{AreAlike, IsAmong, climbs_alike, climbs_push}
use Rattle.esc_search.proofs.Following.{so_below}
use Rattle.esc_search.proofs.Waiting.{at_split, formulas_at-more, new_open, split_here}
use Rattle.esc_search.proofs.Waiting.{was_split, waits_new, waits_split}

-- ---- to decide a side

-- where the branch is as it was split, one side of the split is to be decided
pub to_decide : (base : Base) (s : Search) (starts : List Start) (k : ℕ) (split : Split)
    (holds : Bool) → IsTree s.splits → slice_get s.splits k ≡ Some split
    → s.under ≡ Some (k, holds) → logged s.branch ≡ formulas_of base s.log
    → WasSplit base s.limits.depth s.log s.splits starts split s.branch
    → IsToDecide base s starts split.at holds
to_decide base s starts k split holds tree is under log was =
    let fs = formulas_of base s.log in
    let d : Decision = record { at = split.at; holds = holds } in
    let there : IsOccurrence fs split.at =
    subst (λ gs. IsOccurrence gs split.at) log was.occurs.there in
    record {
      branch = was.branch;
      gathered = was.gathered;
      occurs = was.occurs;
      undecided = was.undecided;
      so = λ M all.
          let below = so_below M (live_on s.branch) fs s.splits k split holds tree is there
          (subst (λ side. AllTrue (read_in M) (said_under fs s.branch s.splits side)) under all)
          in (
            was.sound M below.above,
            subst (λ gs. IsSo (HoldsIn M) gs (decided_as d)) (sym log) below.here,
          );
      decided =
          let here = s.branch.clauses.decisions in
          let more = here ++ (d ∷ []) in
          subst (λ path. All (Contains more) path)
          (sym (ap (path_of s.splits) under ∙ path_below s.splits k split holds tree is))
          (All-push (Contains more) (path_of s.splits split.under) d
          (All-weaker (Contains here) (Contains more)
          (λ e h. Contains-append_left here (d ∷ []) e h) (path_of s.splits split.under)
          was.decided)
          (Contains-push here d));
    }

-- ---- the places of open splits

module _ (base : Base) (s : Search) (course : Course) (search : IsSearch base s course) where
  pub here_among : IsSideAmong (length s.splits) s.under
  here_among =
      (All-head (IsPlace (IsDoneIn base (branch_of s)) s.splits) s.under s.sides
      search.grown.places).there

  pub waiting_among : (o : OpenSplit) → IsWaiting base s course.starts o
      → IsAmong (length s.splits) o
  waiting_among o h =
      let within = slice_get_within s.splits o.number o.split h.there in
      record {
        under = IsSideAmong-more o.number (length s.splits) o.split.under
            (search.grown.splits.tree.rooted o.number o.split h.there) (omega (arith, within));
        number = within;
      }

  pub all_waiting_among : All (IsAmong (length s.splits)) course.waiting
  all_waiting_among =
      All-weaker (IsWaiting base s course.starts) (IsAmong (length s.splits)) waiting_among
      course.waiting search.waits

-- ---- the split

module _ (base : Base) (s : Search) (course : Course) (search : IsSearch base s course)
    (open_here : IsOpenHere base s course.starts []) (at : Occurrence)
    (splits_at : SplitsAt s.branch (Some at))
  where
    abbrev fs : List Formula
    fs = formulas_of base s.log

    abbrev new : Split
    new = split_here base s course.starts at

    abbrev after : Search
    after = at_split base s course.starts at

    abbrev last : OpenSplit
    last = new_open base s course.starts at

    abbrev os : List OpenSplit
    os = course.waiting

    abbrev longer : Course
    longer = record course { waiting = os ++ last ∷ [] }

    pub split_there : IsOccurrence fs at
    split_there = subst (λ gs. IsOccurrence gs at) search.formulas splits_at.0.there

    pub split_new : IsUndecidedAt s.splits s.under at
    split_new = All-weaker (Contains s.branch.clauses.decisions)
        (λ (d : Decision). is_same_place d.at at ≡ false)
        (λ d h. All-contains (λ (e : Decision). is_same_place e.at at ≡ false)
        s.branch.clauses.decisions d splits_at.1 h)
        (path_of s.splits s.under) open_here.decided

    was : WasSplit base s.limits.depth s.log s.splits course.starts new s.branch
    was = record {
      branch = open_here.branch;
      formulas = ([], sym search.formulas ∙ sym (append-nil (logged s.branch)));
      gathered = open_here.gathered;
      sound = open_here.sound;
      decided = open_here.decided;
      occurs = splits_at.0;
      undecided = splits_at.1;
    }

    among : IsSideAmong (length s.splits) s.under
    among = here_among base s course search

    alike : (gs : List Formula)
        → AreAlike (length s.splits) (IsRefutedAt gs s.splits) (IsRefutedAt gs after.splits)
    alike gs = record {
      more = λ side is. refuted_stays gs s.splits (new ∷ []) side is;
      fewer = λ side is refuted.
          subst Refuted (formulas_at-more gs s.splits (new ∷ []) side is) refuted;
    }

    free_side : (holds : Bool) → IsFree after.splits (Some (length s.splits, holds))
    free_side holds =
        new_sides_are_free s.splits new holds search.grown.splits.tree among

    grown_tree : IsTree after.splits
    grown_tree = (grown_by_split base s.limits.depth (branch_of s) at search.grown search.free
        split_there split_new).splits.tree

    waits_all : All (IsWaiting base after course.starts) (os ++ last ∷ [])
    waits_all =
        All-push (IsWaiting base after course.starts) os last
        (All-each (IsWaiting base after course.starts) os (λ o h.
        let is = All-contains (IsWaiting base s course.starts) os o search.waits h in
        waits_split base s course.starts at o (waiting_among base s course search o is).under is))
        (waits_new base s course.starts at among (free_side false) was)

    pub search_split : length s.splits < s.limits.splits → IsSearch base after longer
    search_split more = record {
      closed = search.closed;
      legal = search.legal;
      few_facts = search.few_facts;
      formulas = search.formulas;
      grown = grown_by_split base s.limits.depth (branch_of s) at search.grown search.free
          split_there split_new;
      given = search.given;
      limit = search.limit;
      few = omega (arith, more, length_push s.splits new);
      few_rounds = search.few_rounds;
      free = free_side true;
      waits = waits_all;
      older = all_pairs_push IsOlder os last search.older (λ k d below.
          let o = search.waits k d below in
          record {
            mark = o.within;
            number = (waiting_among base s course search _ o).number;
            rounds = o.begun;
          });
      climbs = λ gs. climbs_push (IsRefutedAt (fs ++ gs) after.splits) None os last
          (climbs_alike (length s.splits) (IsRefutedAt (fs ++ gs) s.splits)
          (IsRefutedAt (fs ++ gs) after.splits) (alike (fs ++ gs)) None os s.under tt
          (all_waiting_among base s course search) among (search.climbs gs));
    }

    pub split_to_decide : IsToDecide base after course.starts at true
    split_to_decide =
        to_decide base after course.starts (length s.splits) new true grown_tree
        (slice_get_push s.splits new) refl search.formulas
        (was_split base s.limits.depth s.log s.splits (new ∷ []) course.starts new s.branch among
        was)

    -- the same with what a call made of it
    module _ (splits : List Split) (number mark rounds : ℕ) (numbered : number ≡ length s.splits)
        (marked : mark ≡ length s.trail.records) (counted : rounds ≡ length course.starts)
        (pushed : splits ≡ s.splits ++ new ∷ []) where
      abbrev made : Search
      made = record s { splits = splits; under = Some (number, true) }

      abbrev opened : OpenSplit
      opened = record { mark = mark; number = number; rounds = rounds; split = new }

      opened_is : opened ≡ last
      opened_is =
          ap₂ (λ m n. let o : OpenSplit = record {
            mark = m;
            number = n;
            rounds = rounds;
            split = new;
          } in o) marked numbered
          ∙ ap (λ r. let o : OpenSplit = record {
            mark = length s.trail.records;
            number = length s.splits;
            rounds = r;
            split = new;
          } in o) counted

      pub search_made : (waiting : List OpenSplit) → waiting ≡ os ++ opened ∷ []
          → length s.splits < s.limits.splits
          → IsSearch base made (record course { waiting = waiting })
      search_made waiting waits more =
          subst (λ n. IsSearch base (record s { splits = splits; under = Some (n, true) })
          (record course { waiting = waiting })) (sym numbered)
          (subst₂ (λ a b. IsSearch base (record s {
            splits = a;
            under = Some (length s.splits, true);
          }) (record course { waiting = b })) (sym pushed)
          (sym (waits ∙ ap (λ o. os ++ o ∷ []) opened_is)) (search_split more))

      pub made_to_decide : IsToDecide base made course.starts at true
      made_to_decide =
          subst₂ (λ a n. IsToDecide base (record s { splits = a; under = Some (n, true) })
          course.starts at true) (sym pushed) (sym numbered) split_to_decide

      fewer_sides : (waiting : List OpenSplit) → waiting ≡ os ++ opened ∷ []
          → length s.splits < s.limits.splits
          → sides_left made (record course { waiting = waiting }) < sides_left s course
      fewer_sides waiting waits more = omega (
        arith,
        more,
        ap length pushed,
        length_push s.splits new,
        ap length waits,
        length_push os opened,
      )

      pub nearer_made : (waiting : List OpenSplit) → waiting ≡ os ++ opened ∷ []
          → length s.splits < s.limits.splits
          → steps_left made (record course { waiting = waiting }) < steps_left s course
      nearer_made waiting waits more =
          nearer_sides (sides_left made (record course { waiting = waiting }))
          (sides_left s course) s.limits.rounds (length course.starts) (length course.starts)
          (fewer_sides waiting waits more)
