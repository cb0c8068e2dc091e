-- The search through the splits starts where all facts are live.
use Rattle.std.proofs.Common.{append-nil, ◌≡◌, ℕ, ◌≤◌, ◌<◌, ◌+◌, get_or, List, [], ◌++◌, length}
use Rattle.std.proofs.Common.{true, sym, ap}
use Rattle.std.proofs.Common.{subst}
use Rattle.std.proofs.Common.{◌∙◌, arith}
use Rattle.std.specs.Prelude.{slice_get}
use Rattle.std.specs.List.{All, Contains, filter_map, range_with_len}
use Rattle.std.proofs.lemmas.List.Elements.{All-nil}
use Rattle.std.proofs.lemmas.List.FromFn.{get_or-range_with_len, length-range_with_len}
use Rattle.esc_fact.specs.Depth.{Deep, deep}
use Rattle.esc_fact.specs.declared.fact.Fact.{Fact}
use Rattle.esc_term.specs.declared.formula.Formula.{Formula}
use Rattle.esc_term.specs.Interpretation.{truth}
use Rattle.esc_term.specs.Model.{read_in}
use Rattle.esc_egraph.specs.declared.state.State.TheVariants as state
use Rattle.esc_fact.specs.Fact.{formulas_of}
use Rattle.esc_fact.specs.Legal.{IsClosedBase, IsLegal, first_facts, made_facts}
use Rattle.esc_fact.specs.declared.base.Base.{Base}
use Rattle.esc_live.specs.View.{literals_on, live_on}
use Rattle.esc_verdict.specs.Rounds.{AreMatched}
use Rattle.esc_outcome.specs.Tree.{IsFree, IsRefutedAt, path_formulas}
use Rattle.esc_outcome.specs.declared.branch.Split.{Split}
use Rattle.esc_outcome.proofs.FirstFacts.{first_legal}
use Rattle.esc_sharing.proofs.Lists.{All-append_left}
use Rattle.esc_term.specs.Refuted.{Refuted}
use Rattle.esc_search.specs.Proving.{IsRefutedLog}
use Rattle.esc_search.specs.SearchInside.{IsAt, IsLogged, IsWaiting, WasDecided, facts_on}
use Rattle.esc_search.specs.declared.course.Course.{Course}
use Rattle.esc_search.specs.declared.search.Search.{Search}
use Rattle.esc_search.proofs.FrontFacts.{begun_grown}
use Rattle.esc_search.proofs.Ending.{all_first, first_shallow, none_made_first}
use Rattle.esc_search.proofs.Gathered.{first_matched}
use Rattle.esc_search.proofs.LiveFacts.{filter_map-all_places}

-- a course that begins
abbrev pub new_course : Course
new_course = record { waiting = []; starts = [] }

all_below : (n : ℕ) → All (λ k. k < n) (range_with_len 0 n)
all_below n k d below =
    let many = length-range_with_len 0 n in
    let at : get_or (range_with_len 0 n) k d ≡ 0 + k = get_or-range_with_len 0 n k d
    (omega (arith, below, many)) in
    omega (arith, at, below, many)

pub search_starts : (base : Base) (s : Search) → IsClosedBase base → IsLogged base s
    → length s.log ≤ length s.branch.book.live → IsAt base s new_course state.Open
search_starts base s closed all_logged all =
    let begun = all_logged.0 in
    let first = all_logged.1 in
    let places : length s.branch.book.live ≡ length s.log = omega (arith, all, begun.few) in
    let live = begun.live ∙ ap (range_with_len 0) places in
    let facts : facts_on s.log s.branch ++ [] ≡ first_facts base =
    append-nil (facts_on s.log s.branch)
    ∙ (ap (filter_map (slice_get s.log)) live ∙ (filter_map-all_places s.log ∙ first)) in
    let legal : IsLegal base s.log = subst (IsLegal base) (sym first) (first_legal base) in (
      record {
        closed = closed;
        legal = legal;
        few_facts = subst (λ (fs : List Fact). length (made_facts fs) ≤ s.limits.facts)
            (sym first) (omega (arith, none_made_first base));
        formulas = begun.formulas;
        grown = begun_grown base s begun;
        given = begun.given;
        limit = begun.limit;
        few = subst (λ (list : List Split). length list ≤ s.limits.splits) (sym begun.splits)
            (omega arith);
        few_rounds = omega arith;
        free = subst (λ (list : List Split). IsFree list s.under) (sym begun.splits)
            (All-nil (λ (split : Split). split.under ≡ s.under → ⊥));
        waits = All-nil (IsWaiting base s []);
        older = λ i j d before below. absurd (omega (arith, below));
        climbs = λ gs d. subst (IsRefutedAt (formulas_of base s.log ++ gs) s.splits) begun.under d;
      },
      record {
        branch = begun.branch;
        gathered = record {
          places = subst (All (λ k. k < length s.log)) (sym live) (all_below (length s.log));
          begins = (
            [],
            sym (append-nil (facts_on s.log s.branch))
                ∙ (facts ∙ sym (append-nil (first_facts base))),
          );
          legal = subst (IsLegal base) (sym facts) (first_legal base);
          shallow = subst (λ fs. All (λ (d : Deep). d.depth ≤ s.limits.depth) (deep base fs))
              (sym facts) (first_shallow base s.limits.depth);
          rounds = facts;
          matched = subst (λ fs. AreMatched base fs (literals_on s.branch)) (sym facts)
              (first_matched base (literals_on s.branch) (first_facts base) (all_first base));
        };
        sound = λ M all. begun.sound M
            (All-append_left (λ (f : Formula). truth (read_in M) f ≡ true) (live_on s.branch)
            (path_formulas (formulas_of base s.log) s.splits s.under) all);
        decided = subst (λ side. WasDecided s.splits side s.branch.clauses.decisions)
            (sym begun.under) (All-nil (Contains s.branch.clauses.decisions));
      },
    )

pub refuted_first : (base : Base) (s : Search) → s.log ≡ first_facts base
    → Refuted (formulas_of base s.log) → IsRefutedLog base s
refuted_first base s log refuted = record {
  legal = subst (IsLegal base) (sym log) (first_legal base);
  refuted = refuted;
}
