-- A round begins where the search is.
use Rattle.std.proofs.Common.{◌≡◌, ◌≢◌, ℕ, ◌<◌, ◌+◌, ◌-◌, ◌*◌, List, [], ◌∷◌, ◌++◌}
use Rattle.std.proofs.Common.{length, append_assoc, append-nil, refl, sym, ap, ap₂, subst}
use Rattle.std.proofs.Common.{◌∙◌, arith, inl, inr, Option, Some, None}
use Rattle.std.specs.Prelude.{IsSome, slice_get}
use Rattle.std.specs.Option.{option_map}
use Rattle.std.specs.List.{All, Contains}
use Rattle.std.proofs.lemmas.List.{length_push, take-append-le}
use Rattle.std.proofs.lemmas.List.Elements.{All-contains_itself, All-head, All-tail}
use Rattle.std.proofs.lemmas.List.Elements.{All-weaker, Contains-append_left}
use Rattle.std.proofs.lemmas.Option.{slice_get_cases}
use Rattle.esc_term.specs.declared.formula.Formula.{Formula}
use Rattle.esc_term.specs.declared.formula.Item.{Item}
use Rattle.esc_book.specs.Book.{IsLiveOccurrence}
use Rattle.esc_clause.specs.Occurrences.{formula_at, item_at, signed}
use Rattle.esc_clause.specs.declared.occurrence.Occurrence.{Occurrence}
use Rattle.esc_fact.specs.declared.base.Base.{Base}
use Rattle.esc_fact.specs.declared.fact.Fact.{Fact}
use Rattle.esc_live.specs.View.{literals_on, logged}
use Rattle.esc_verdict.specs.RoundLaws.{RoundIsMatched, RoundIsWithin, RoundMayFollow}
use Rattle.esc_verdict.specs.Rounds.{AreMatched, AreRounds, IsMatched, IsRoundOf}
use Rattle.esc_verdict.specs.declared.cause.Start.{Start}
use Rattle.esc_verdict.proofs.MatchedFacts.{matched_by_more, matched_grows}
use Rattle.esc_verdict.proofs.RoundAfterRound.{rounds_grow}
use Rattle.esc_egraph.specs.declared.state.State.TheVariants as state
use Rattle.esc_search.specs.Proving.{live_facts}
use Rattle.esc_search.specs.SearchInside.{IsAmid, IsKept, IsNearer, IsOpenHere, IsSearch, IsWaiting}
use Rattle.esc_search.specs.SearchInside.{WasSplit, sides_left, steps_left}
use Rattle.esc_search.specs.declared.course.Course.{Course}
use Rattle.esc_search.specs.declared.open_split.OpenSplit.{OpenSplit}
use Rattle.esc_search.specs.declared.search.Search.{Search}
use Rattle.esc_search.specs.declared.step.Step.{Step}
use Rattle.esc_search.specs.declared.step.Step.TheVariants as step
use Rattle.esc_search.proofs.Ending.{legal_here, matched_here, rounds_here, shallow_here}
use Rattle.esc_search.proofs.LiveFacts.{length-filter_map}
use Rattle.esc_search.proofs.Reaching.{steps_same}

-- ---- facts that these facts match come behind them

module _ (base : Base) (facts : List Fact) (items : List Item) where
  same_items : (P : List Item → Type 0) → P (items ++ []) → P items
  same_items P = subst P (append-nil items)

  all_matched : (before rest : List Fact) → All (Contains before) facts
      → AreMatched base before items → All (IsMatched base facts items) rest
      → AreMatched base (before ++ rest) items
  all_matched before [] among h all =
      subst (λ fs. AreMatched base fs items) (sym (append-nil before)) h
  all_matched before (f ∷ rest) among h all =
      let is : IsMatched base before items f =
      same_items (λ list. IsMatched base before list f)
      (matched_by_more base facts before items [] f among
      (All-head (IsMatched base facts items) f rest all)) in
      subst (λ fs. AreMatched base fs items) (append_assoc before (f ∷ []) rest)
      (all_matched (before ++ f ∷ []) rest
      (All-weaker (Contains before) (Contains (before ++ f ∷ []))
      (λ g there. Contains-append_left before (f ∷ []) g there) facts among)
      (same_items (AreMatched base (before ++ f ∷ [])) (matched_grows base before items [] f h is))
      (All-tail (IsMatched base facts items) f rest all))

-- ---- what stands there

some_within : {X : Type 0} (xs : List X) (k : ℕ) → k < length xs → IsSome (slice_get xs k)
some_within xs k below = elim (slice_get_cases xs k).1 [
  | inl found ↦ subst IsSome (sym found.2) refl
  | inr past ↦ absurd (omega (arith, below, past.0))
]

some_item : (fs : List Formula) (at : Occurrence) → IsSome (formula_at fs at)
    → IsSome (item_at fs at)
some_item fs at = go (formula_at fs at)
  where
    go : (o : Option Formula) → IsSome o → IsSome (option_map (signed at.positive) o)
    go None h = h
    go (Some f) h = refl

-- ---- the search

module _ (follow : RoundMayFollow) (is_within : RoundIsWithin) (is_matched : RoundIsMatched)
    (base : Base) (s : Search) (course : Course) (list : List Fact)
    (search : IsSearch base s course) (here : IsOpenHere base s course.starts [])
    (round : IsRoundOf base s.limits.depth (live_facts s) (literals_on s.branch) list)
    (some : list ≢ []) (may : length course.starts < s.limits.rounds) where
  abbrev facts : List Fact
  facts = live_facts s

  abbrev items : List Item
  items = literals_on s.branch

  abbrev start : Start
  start = record { facts = length facts; literals = length items }

  abbrev pub begun : Course
  begun = record course { starts = course.starts ++ start ∷ [] }

  whole : IsRoundOf base s.limits.depth facts items (list ++ [])
  whole = subst (IsRoundOf base s.limits.depth facts items) (sym (append-nil list)) round

  waits_begun : (o : OpenSplit) → IsWaiting base s course.starts o
      → IsWaiting base s begun.starts o
  waits_begun o h = record {
    there = h.there;
    free = h.free;
    elsewhere = h.elsewhere;
    within = h.within;
    undoable = h.undoable;
    begun = omega (arith, h.begun, length_push course.starts start);
    before = h.before;
    same = h.same;
    split = subst (λ starts. WasSplit base s.limits.depth s.log s.splits starts o.split h.before)
        (sym (take-append-le o.rounds course.starts (start ∷ []) h.begun)) h.split;
  }

  pub round_search : IsSearch base s begun
  round_search = record {
    closed = search.closed;
    legal = search.legal;
    few_facts = search.few_facts;
    formulas = search.formulas;
    grown = search.grown;
    given = search.given;
    limit = search.limit;
    few = search.few;
    few_rounds = omega (arith, may, length_push course.starts start);
    free = search.free;
    waits = All-weaker (IsWaiting base s course.starts) (IsWaiting base s begun.starts)
        waits_begun course.waiting search.waits;
    older = search.older;
    climbs = search.climbs;
  }

  pub round_here : IsOpenHere base s begun.starts list
  round_here = record {
    branch = here.branch;
    gathered = record {
      places = here.gathered.places;
      begins = here.gathered.begins;
      legal = follow base s.limits.depth facts items list []
          (legal_here base s course search here) whole;
      shallow = is_within base s.limits.depth facts items list []
          (shallow_here base s course search here) whole;
      rounds = subst (λ is. AreRounds base s.limits.depth (facts ++ list) is begun.starts)
          (append-nil items)
          (rounds_grow base s.limits.depth facts list items [] course.starts
          (rounds_here base s course search here) some round);
      matched = all_matched base facts items facts list (All-contains_itself facts)
          (matched_here base s course search here)
          (is_matched base s.limits.depth facts items list round);
    };
    sound = here.sound;
    decided = here.decided;
  }

  -- the numbers by which it is told where the round begins
  module _ (live literals : ℕ) (l : live ≡ length s.branch.book.live)
      (i : literals ≡ length s.branch.literals) where
    many_facts : length facts ≡ live
    many_facts = length-filter_map (slice_get s.log) s.branch.book.live
        (All-weaker (λ k. k < length s.log) (λ k. IsSome (slice_get s.log k))
        (λ k below. some_within s.log k below) s.branch.book.live here.gathered.places)
        ∙ sym l

    many_items : length items ≡ literals
    many_items = length-filter_map (item_at (logged s.branch)) s.branch.literals
        (All-weaker (IsLiveOccurrence s.branch.book) (λ at. IsSome (item_at (logged s.branch) at))
        (λ at is. some_item (logged s.branch) at is.there) s.branch.literals
        here.branch.shared.occur)
        ∙ sym i

    pub round_amid : (starts : List Start)
        → starts ≡ course.starts ++ record { facts = live; literals = literals } ∷ []
        → IsAmid base s (record course { starts = starts }) list state.Open
    round_amid starts is =
        subst (λ xs. IsAmid base s (record course { starts = xs }) list state.Open)
        (ap₂ (λ (n m : ℕ). course.starts ++ record { facts = n; literals = m } ∷ [])
        many_facts many_items ∙ sym is)
        (round_search, round_here)

-- ---- steps

pub nearer_step : (before after : ℕ) → after < before → (r : Step) → IsNearer before after r
nearer_step before after fewer (step.Goes state) = fewer
nearer_step before after fewer (step.Ends outcome) = tt

-- one more round
pub nearer_round : {xs ys : List OpenSplit} (base : Base) (s t : Search) (c d : Course)
    → IsKept base s xs t ys → t.splits ≡ s.splits → d.waiting ≡ c.waiting
    → length d.starts ≡ length c.starts + 1 → length c.starts < s.limits.rounds
    → steps_left t d < steps_left s c
nearer_round base s t c d kept splits waiting more may =
    let same : steps_left t d ≡ steps_left s d = steps_same base s t d kept splits in
    let sides : sides_left s d ≡ sides_left s c =
    ap (λ (os : List OpenSplit). 2 * (s.limits.splits - length s.splits) + length os) waiting in
    let all : steps_left s d
    ≡ sides_left s c * (s.limits.rounds + 1) + (s.limits.rounds - length d.starts) =
    ap (λ n. n * (s.limits.rounds + 1) + (s.limits.rounds - length d.starts)) sides in
    omega (arith, same, all, more, may)
