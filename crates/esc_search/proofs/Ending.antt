-- What holds of a search that is left open, or whose root is refuted.
use Rattle.std.proofs.Common.{◌≡◌, ℕ, ◌≤◌, IsTrue, List, [], ◌∷◌, ◌++◌, Option, Some, None, length}
use Rattle.std.proofs.Common.{map, append-nil, refl, sym, ap, subst, ◌∙◌, arith}
use Rattle.std.specs.Prelude.{not, if◌then◌else◌}
use Rattle.std.specs.List.{All, AllPairs, Contains, cons_option, fold, range_with_len}
use Rattle.std.specs.Option.{option_map, option_map_or}
use Rattle.std.proofs.lemmas.List.Elements.{All-append, All-cons, All-contains, All-head}
use Rattle.std.proofs.lemmas.List.Elements.{All-map, All-nil}
use Rattle.std.proofs.lemmas.List.Elements.{All-push, All-tail}
use Rattle.esc_term.specs.declared.formula.Formula.{Formula}
use Rattle.esc_cover.specs.Arithmetic.{play_of}
use Rattle.esc_cover.specs.Counterexample.{AllCovered, AreLiteralsOf}
use Rattle.esc_fact.specs.Depth.{Deep, IsWithinLimits, deep, with_depth}
use Rattle.esc_fact.specs.Fact.{formula_of, formulas_of}
use Rattle.esc_fact.specs.Legal.{IsLegal, first_facts, is_first, made_facts}
use Rattle.esc_fact.specs.declared.base.Base.{Base}
use Rattle.esc_fact.specs.declared.fact.Fact.{Fact}
use Rattle.esc_fact.specs.declared.fact.Fact.TheVariants as fact
use Rattle.esc_context.specs.Left.{IsLeft, shared_of}
use Rattle.esc_sharing.specs.Shared.{play_in}
use Rattle.esc_sharing.specs.Unquantified.{IsSamePlay}
use Rattle.esc_live.specs.View.{classes_on, literals_on, live_on}
use Rattle.esc_outcome.specs.Grown.{IsDoneIn}
use Rattle.esc_outcome.proofs.Decided.{root_closes}
use Rattle.esc_outcome.proofs.FirstFacts.{first_legal}
use Rattle.esc_refine.specs.Refining.{IsDone}
use Rattle.esc_search.specs.Proving.{IsLeftOpen, IsRefutedLog, IsSaturatedHere, branch_of}
use Rattle.esc_search.specs.Proving.{live_facts}
use Rattle.esc_search.specs.SearchInside.{Climbs, IsOpenHere, IsSearch}
use Rattle.esc_outcome.specs.Tree.{IsRefutedAt}
use Rattle.esc_verdict.specs.Rounds.{AreMatched, AreRounds}
use Rattle.esc_search.specs.declared.search.Search.{Search}
use Rattle.esc_search.specs.declared.course.Course.{Course}
use Rattle.esc_search.proofs.FewFacts.{contains_filter, distinct_pairs, few_among}
use Rattle.esc_search.proofs.FewFacts.{filter_contains, filter_distinct, live_logged}
use Rattle.esc_search.proofs.Reaching.{live_read, named}
use Rattle.esc_search.proofs.Stopping.{follow_open}

-- ---- first facts are within all limits

pub all_first : (base : Base) → All (λ f. IsTrue (is_first f)) (first_facts base)
all_first base =
    All-append IsFirst (map fact.Given places)
    (cons_option (option_map (λ f. fact.NegGoal) base.negated) [])
    (All-map IsFirst fact.Given places (λ k d below. refl)) (last base.negated)
  where
    IsFirst : Fact → Type 0
    IsFirst f = IsTrue (is_first f)

    places : List ℕ
    places = range_with_len 0 (length base.background)

    last : (o : Option Formula)
        → All (λ f. IsTrue (is_first f)) (cons_option (option_map (λ f. fact.NegGoal) o) [])
    last None = All-nil (λ f. IsTrue (is_first f))
    last (Some f) = All-cons (λ f. IsTrue (is_first f)) fact.NegGoal [] refl
        (All-nil (λ f. IsTrue (is_first f)))

none_made : (facts : List Fact) → All (λ f. IsTrue (is_first f)) facts → made_facts facts ≡ []
none_made [] all = refl
none_made (f ∷ facts) all =
    ap (λ b. if not b then f ∷ made_facts facts else made_facts facts)
    (All-head (λ g. IsTrue (is_first g)) f facts all)
    ∙ none_made facts (All-tail (λ g. IsTrue (is_first g)) f facts all)

module _ (base : Base) (depth : ℕ) where
  abbrev IsShallow : Deep → Type 0
  IsShallow d = d.depth ≤ depth

  one_more : (before : List Deep) (f : Fact) → IsTrue (is_first f) → All IsShallow before
      → All IsShallow (with_depth base before f)
  one_more before (fact.Given k) first all = go (formula_of base (fact.Given k))
    where
      go : (o : Option Formula) → All IsShallow (option_map_or
          (λ f. before ++ record { formula = f; depth = 0 } ∷ []) o before)
      go None = all
      go (Some f) = All-push IsShallow before (record { formula = f; depth = 0 }) all (omega arith)
  one_more before fact.NegGoal first all = go (formula_of base fact.NegGoal)
    where
      go : (o : Option Formula) → All IsShallow (option_map_or
          (λ f. before ++ record { formula = f; depth = 0 } ∷ []) o before)
      go None = all
      go (Some f) = All-push IsShallow before (record { formula = f; depth = 0 }) all (omega arith)
  one_more before (fact.Inst number outer terms) first all = absurd (cc)
  one_more before (fact.Skolem number outer) first all = absurd (cc)
  one_more before (fact.Map1 m i x) first all = absurd (cc)
  one_more before (fact.Map2 m i x j) first all = absurd (cc)

  all_shallow : (before : List Deep) (facts : List Fact) → All (λ f. IsTrue (is_first f)) facts
      → All IsShallow before → All IsShallow (fold (with_depth base) before facts)
  all_shallow before [] first all = all
  all_shallow before (f ∷ facts) first all =
      all_shallow (with_depth base before f) facts
      (All-tail (λ g. IsTrue (is_first g)) f facts first)
      (one_more before f (All-head (λ g. IsTrue (is_first g)) f facts first) all)

  first_within : (count : ℕ) → IsWithinLimits base depth count (first_facts base)
  first_within count = record {
    legal = first_legal base;
    shallow = all_shallow [] (first_facts base) (all_first base) (All-nil IsShallow);
    few = subst (λ (fs : List Fact). length fs ≤ count)
        (sym (none_made (first_facts base) (all_first base))) (omega arith);
  }

pub first_shallow : (base : Base) (depth : ℕ)
    → All (λ d. d.depth ≤ depth) (deep base (first_facts base))
first_shallow base depth = (first_within base depth 0).shallow

pub none_made_first : (base : Base) → length (made_facts (first_facts base)) ≡ 0
none_made_first base = ap length (none_made (first_facts base) (all_first base))

-- ---- facts of the log

-- distinct facts of a list that are made are no more than those of the list
pub made_few : (live log : List Fact) → AllPairs (λ f g. f ≡ g → ⊥) live
    → All (Contains log) live → length (made_facts live) ≤ length (made_facts log)
made_few live log differ among =
    few_among (made_facts live) (made_facts log)
    (filter_distinct (λ f. not (is_first f)) live (distinct_pairs live differ))
    (λ f h.
    let there = filter_contains (λ g. not (is_first g)) live f h in
    contains_filter (λ g. not (is_first g)) log f
    (All-contains (Contains log) live f among there.0) there.1)

-- ---- the branch at hand

module _ (base : Base) (s : Search) (course : Course) (search : IsSearch base s course)
    (open_here : IsOpenHere base s course.starts []) where
  abbrev live : List Fact
  live = live_facts s

  formulas : live_on s.branch ≡ formulas_of base live
  formulas = live_read base s search.formulas (named base s course search)

  pub legal_here : IsLegal base live
  legal_here = subst (IsLegal base) (append-nil live) open_here.gathered.legal

  pub shallow_here : All (λ d. d.depth ≤ s.limits.depth) (deep base live)
  shallow_here = subst (λ fs. All (λ (d : Deep). d.depth ≤ s.limits.depth) (deep base fs))
      (append-nil live) open_here.gathered.shallow

  pub rounds_here : AreRounds base s.limits.depth live (literals_on s.branch) course.starts
  rounds_here = subst (λ fs. AreRounds base s.limits.depth fs (literals_on s.branch) course.starts)
      (append-nil live) open_here.gathered.rounds

  -- what the round after these begins with
  pub matched_here : AreMatched base live (literals_on s.branch)
  matched_here = subst (λ fs. AreMatched base fs (literals_on s.branch)) (append-nil live)
      open_here.gathered.matched

  pub among_log : All (Contains s.log) live
  among_log = live_logged s.log s.branch.book.live

  few_here : length (made_facts live) ≤ length (made_facts s.log)
  few_here = made_few live s.log legal_here.differ among_log

  pub within_here : IsWithinLimits base s.limits.depth s.limits.facts live
  within_here = record {
    legal = legal_here;
    shallow = shallow_here;
    few = omega (arith, few_here, search.few_facts);
  }

  pub literals_here : AreLiteralsOf (formulas_of base live) (literals_on s.branch)
  literals_here = subst (λ fs. AreLiteralsOf fs (literals_on s.branch)) formulas
      open_here.branch.shared.literals_are

  left_here : IsDone s.branch → IsLeft base s.branch.sharing live (literals_on s.branch)
  left_here done = record {
    closed = search.closed;
    are_facts = legal_here.are_facts;
    shared = open_here.branch.shared.shared;
    play = subst (λ fs. IsSamePlay (play_in (shared_of s.branch.sharing)) (play_of fs))
        formulas open_here.branch.shared.play;
    asserted = open_here.branch.shared.asserted;
    one_sign = open_here.branch.shared.consistent.one_sign;
    covered = subst (AllCovered (literals_on s.branch) (classes_on s.branch)) formulas
        done.facts;
    are_literals = literals_here;
  }

  pub left_open : IsDone s.branch → IsSaturatedHere base s → IsLeftOpen base s
  left_open done saturated = record {
    branch = open_here.branch;
    done = done;
    within = within_here;
    left = left_here done;
    follow = follow_open base s course search open_here;
    saturated = saturated;
    starts = course.starts;
    rounds = rounds_here;
  }

-- ---- refuted

pub refuted_log : (base : Base) (s : Search) (course : Course) → course.waiting ≡ []
    → IsSearch base s course → IsDoneIn base (branch_of s) s.under → IsRefutedLog base s
refuted_log base s course none search refuted =
    let fs = formulas_of base s.log in
    let climbs : IsRefutedAt (fs ++ []) s.splits s.under → IsRefutedAt (fs ++ []) s.splits None =
    subst (λ os. Climbs (IsRefutedAt (fs ++ []) s.splits) None os s.under) none (search.climbs [])
    in
    record {
      legal = search.legal;
      refuted = root_closes fs s.splits
          (subst (λ gs. IsRefutedAt gs s.splits None) (append-nil fs)
          (climbs (subst (λ gs. IsRefutedAt gs s.splits s.under) (sym (append-nil fs)) refuted)));
    }
