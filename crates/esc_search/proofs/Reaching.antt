-- What a call on the branch at hand reaches.
use Rattle.std.proofs.Common.{◌≡◌, ℕ, List, ◌++◌, Result, Ok, Err, length}
use Rattle.std.proofs.Common.{◌<◌, ◌+◌, ◌-◌, ◌*◌, arith, ap₂}
use Rattle.std.proofs.Common.{refl, sym, ap, subst, ◌∙◌}
use Rattle.std.specs.Prelude.{IsSome, OnOk, slice_get}
use Rattle.std.specs.List.{All, Contains, filter_map}
use Rattle.std.proofs.lemmas.List.Elements.{All-weaker, Contains-append_left}
use Rattle.std.proofs.lemmas.List.Elements.{filter_map-append}
use Rattle.esc_clause.specs.Occurrences.{item_at}
use Rattle.esc_clause.specs.declared.occurrence.Occurrence.{Occurrence}
use Rattle.esc_term.specs.Model.{Model, read_in}
use Rattle.esc_term.specs.Refuted.{AllTrue}
use Rattle.esc_term.proofs.Models.{Refuted-from_models}
use Rattle.esc_cover.specs.Laws.{HoldsIn}
use Rattle.esc_clause.specs.declared.decision.Decision.{Decision}
use Rattle.esc_outcome.specs.Tree.{formulas_at, path_formulas, path_of}
use Rattle.esc_trail.specs.Records.{Records}
use Rattle.esc_trail.specs.Undo.{Notes}
use Rattle.esc_egraph.specs.declared.state.State.{State}
use Rattle.esc_egraph.specs.declared.state.State.TheVariants as state
use Rattle.esc_simplex.specs.declared.stop.Stop.{Stop}
use Rattle.esc_simplex.specs.declared.stop.Stop.TheVariants as stop
use Rattle.esc_fact.specs.Fact.{IsFact, formula_of, formulas_of}
use Rattle.esc_fact.specs.declared.base.Base.{Base}
use Rattle.esc_fact.specs.declared.fact.Fact.{Fact}
use Rattle.esc_book.specs.Book.{BookView, live_formulas}
use Rattle.esc_live.specs.Calls.{Ends, GoesOn, IsStoppedAt}
use Rattle.esc_live.specs.LiveUndo.{live_undo}
use Rattle.esc_live.specs.Promises.{IsGiven}
use Rattle.esc_live.specs.View.{literals_on, live_on, logged}
use Rattle.esc_live.specs.declared.branch.LiveBranch.{LiveBranch}
use Rattle.esc_live.specs.declared.record.LiveRec.{LiveRec}
use Rattle.esc_search.specs.Proving.{decided_on, live_facts}
use Rattle.esc_search.specs.SearchInside.{AreGathered, IsHalted, IsKept, IsSearch, IsWaiting}
use Rattle.esc_search.specs.SearchInside.{Reaches, WasDecided, said_on, said_under, sides_left}
use Rattle.esc_search.specs.SearchInside.{steps_left}
use Rattle.esc_search.specs.declared.course.Course.{Course}
use Rattle.esc_verdict.specs.declared.cause.Start.{Start}
use Rattle.esc_options.specs.declared.options.Limits.{Limits}
use Rattle.esc_search.specs.declared.open_split.OpenSplit.{OpenSplit}
use Rattle.esc_search.specs.declared.search.Search.{Search}
use Rattle.esc_search.proofs.BackTo.{kept_same, kept_since, since_call}
use Rattle.esc_search.proofs.Gathered.{gathered_still}
use Rattle.esc_search.proofs.LiveFacts.{filter_map-read, live_true}
use Rattle.esc_search.proofs.Nearer.{nearer_sides}
use Rattle.esc_search.proofs.Waiting.{waits_on}

-- ---- live facts

pub named : (base : Base) (s : Search) (course : Course) → IsSearch base s course
    → All (λ f. IsSome (formula_of base f)) s.log
named base s course search =
    All-weaker (IsFact base) (λ f. IsSome (formula_of base f)) (λ f is. is.named) s.log
    search.legal.are_facts

-- the formulas of the live facts
pub live_read : (base : Base) (s : Search) → logged s.branch ≡ formulas_of base s.log
    → All (λ f. IsSome (formula_of base f)) s.log
    → live_on s.branch ≡ formulas_of base (live_facts s)
live_read base s formulas named =
    ap (λ gs. filter_map (slice_get gs) s.branch.book.live) formulas
    ∙ filter_map-read (formula_of base) s.log named s.branch.book.live

module _ (base : Base) (s : Search) (course : Course) (search : IsSearch base s course) where
  pub said_here : said_on base s
      ≡ said_under (formulas_of base s.log) s.branch s.splits s.under
  said_here = ap (λ fs. fs ++ decided_on base s)
      (sym (live_read base s search.formulas (named base s course search)))

  -- a model of the log with what was decided
  pub from_log : (M : Model)
      → AllTrue (read_in M) (formulas_at (formulas_of base s.log) s.splits s.under)
      → AllTrue (read_in M) (said_under (formulas_of base s.log) s.branch s.splits s.under)
  from_log M all = subst (AllTrue (read_in M)) said_here
      (live_true base s (read_in M) (decided_on base s) all)

  pub halted_at : (why : Stop) → IsStoppedAt s.branch why
      → ((M : Model)
      → AllTrue (read_in M) (said_under (formulas_of base s.log) s.branch s.splits s.under)
      → All (HoldsIn M) (literals_on s.branch)) → IsHalted base s why
  halted_at why stopped hold = record {
    grown = search.grown;
    formulas = search.formulas;
    limit = search.limit;
    stopped = stopped;
    follow = λ M all. hold M (subst (AllTrue (read_in M)) said_here all);
  }

-- ---- decisions

pub decided_on_ok : (s : Search) (w : LiveBranch) (ds : List Decision) (r : Result State Stop)
    → OnOk r (w.clauses.decisions ≡ ds) → WasDecided s.splits s.under ds
    → r ≡ Ok state.Open → WasDecided s.splits s.under w.clauses.decisions
decided_on_ok s w ds r on decided is =
    let same : w.clauses.decisions ≡ ds = subst (λ x. OnOk x (w.clauses.decisions ≡ ds)) is on in
    subst (WasDecided s.splits s.under) (sym same) decided

pub decided_still : (s : Search) (w : LiveBranch) → GoesOn s.branch w
    → WasDecided s.splits s.under s.branch.clauses.decisions
    → WasDecided s.splits s.under w.clauses.decisions
decided_still s w goes decided =
    subst (WasDecided s.splits s.under) (sym goes.decisions.1)
    (All-weaker (Contains s.branch.clauses.decisions)
    (Contains (s.branch.clauses.decisions ++ goes.decisions.0))
    (λ d h. Contains-append_left s.branch.clauses.decisions goes.decisions.0 d h)
    (path_of s.splits s.under) decided)

-- ---- a call

-- the live facts are those that there were, with more literals
gathered_on : (base : Base) (depth : ℕ) (log : List Fact) (starts : List Start)
    (coming : List Fact) (v w : LiveBranch) → GoesOn v w
    → AreGathered base depth log v starts coming → AreGathered base depth log w starts coming
gathered_on base depth log starts coming v w goes h =
    let live : w.book.live ≡ v.book.live = ap (λ (b : BookView). b.live) goes.book in
    gathered_still base depth starts coming log log v w h
    (subst (All (λ k. k < length log)) (sym live) h.places)
    (ap (filter_map (slice_get log)) live)
    (filter_map (item_at (logged v)) goes.literals.0)
    (ap₂ (λ (b : BookView) (os : List Occurrence). filter_map (item_at b.logged) os) goes.book
    goes.literals.1
    ∙ filter_map-append (item_at (logged v)) v.literals goes.literals.0)

module _ (base : Base) (s : Search) (w : LiveBranch) (t : Records LiveRec) (course : Course)
    (search : IsSearch base s course)
    (notes : Notes live_undo (λ rec. rec) s.trail.records t.records s.branch w)
    (goes : GoesOn s.branch w) (given : IsGiven w) where
  abbrev pub after : Search
  after = record s { branch = w; trail = t }

  abbrev starts : List Start
  starts = course.starts

  pub search_on : IsSearch base after course
  search_on = record {
    closed = search.closed;
    legal = search.legal;
    few_facts = search.few_facts;
    formulas = ap (λ (b : BookView). b.logged) goes.book ∙ search.formulas;
    grown = search.grown;
    given = given;
    limit = goes.limit ∙ search.limit;
    few = search.few;
    few_rounds = search.few_rounds;
    free = search.free;
    waits = All-weaker (IsWaiting base s starts) (IsWaiting base after starts)
        (waits_on base s w t notes starts) course.waiting search.waits;
    older = search.older;
    climbs = search.climbs;
  }

  pub kept_on : IsKept base s course.waiting after course.waiting
  kept_on = kept_since base s course.waiting after given search_on.formulas refl
      (since_call s w t notes goes.means (ap (λ (b : BookView). b.logged) goes.book))

  -- what is said of the live facts and the way is the same
  said_same : said_under (formulas_of base s.log) w s.splits s.under
      ≡ said_under (formulas_of base s.log) s.branch s.splits s.under
  said_same = ap (λ (b : BookView). live_formulas b
      ++ path_formulas (formulas_of base s.log) s.splits s.under) goes.book

  module _ (coming : List Fact) (So : Model → Type 0)
      (gathered : AreGathered base s.limits.depth s.log s.branch starts coming)
      (so : (M : Model)
      → AllTrue (read_in M) (said_under (formulas_of base s.log) s.branch s.splits s.under)
      → So M) where
    so_after : (M : Model)
        → AllTrue (read_in M) (said_under (formulas_of base s.log) w s.splits s.under) → So M
    so_after M all = so M (subst (AllTrue (read_in M)) said_same all)

    pub reached : (r : Result State Stop)
        → (r ≡ Ok state.Open → WasDecided s.splits s.under w.clauses.decisions)
        → Ends w So r → Reaches base after course coming r
    reached (Ok state.Open) decided ends = (
      search_on,
      record {
        branch = ends.0;
        gathered = gathered_on base s.limits.depth s.log starts coming s.branch w goes gathered;
        sound = λ M all. ends.1 M (so_after M all);
        decided = decided refl;
      },
    )
    reached (Ok state.Closed) decided ends = (
      search_on,
      Refuted-from_models _ (record {
        none = λ M all. ends M (so_after M (from_log base after course search_on M all));
      }),
    )
    reached (Err stop.Memory) decided ends = tt
    reached (Err (stop.Spill j)) decided ends = halted_at base after course search_on (stop.Spill j)
        ends.0 (λ M all. ends.1 M (so_after M all))
    reached (Err (stop.Form x)) decided ends = halted_at base after course search_on (stop.Form x)
        ends.0 (λ M all. ends.1 M (so_after M all))
    reached (Err (stop.Pivots j)) decided ends = halted_at base after course search_on
        (stop.Pivots j) ends.0 (λ M all. ends.1 M (so_after M all))

-- ---- one call after another

pub kept_here : (base : Base) (s : Search) (course : Course) → IsSearch base s course
    → IsKept base s course.waiting s course.waiting
kept_here base s course search =
    kept_same base s course.waiting search.given search.formulas

-- an open split less, with its rounds
pub nearer_back : {xs ys : List OpenSplit} (base : Base) (s t : Search) (c d : Course)
    → IsKept base s xs t ys → t.splits ≡ s.splits
    → length c.waiting ≡ length d.waiting + 1 → steps_left t d < steps_left s c
nearer_back base s t c d kept splits waits =
    let same = ap length splits in
    let limits = ap (λ (l : Limits). l.splits) kept.limits in
    let fewer : sides_left t d < sides_left s c = omega (arith, limits, same, waits) in
    subst (λ n. sides_left t d * (n + 1) + (n - length d.starts) < steps_left s c)
    (sym (ap (λ (l : Limits). l.rounds) kept.limits))
    (nearer_sides (sides_left t d) (sides_left s c) s.limits.rounds (length d.starts)
    (length c.starts) fewer)

pub steps_same : {xs ys : List OpenSplit} (base : Base) (s t : Search) (c : Course)
    → IsKept base s xs t ys → t.splits ≡ s.splits → steps_left t c ≡ steps_left s c
steps_same base s t c kept splits =
    ap₂ (λ (l : Limits) n. (2 * (l.splits - n) + length c.waiting) * (l.rounds + 1)
    + (l.rounds - length c.starts)) kept.limits (ap length splits)

-- nothing but the branch
pub steps_kept : {xs ys : List OpenSplit} (base : Base) (s t : Search) (c : Course) (n : ℕ)
    → IsKept base s xs t ys → t.splits ≡ s.splits → steps_left s c < n → steps_left t c < n
steps_kept base s t c n kept splits below =
    subst (λ k. k < n) (sym (steps_same base s t c kept splits)) below
