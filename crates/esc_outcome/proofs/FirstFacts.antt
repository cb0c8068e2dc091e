-- The facts that name a formula of the base are a legal list, and a branch begins with them.
use Rattle.std.proofs.Common.{◌≡◌, ◌≢◌, ◌⊎◌, ℕ, ◌<◌, IsTrue, List, [], ◌∷◌, ◌++◌, Option, Some}
use Rattle.std.proofs.Common.{None, length, map, get_or, append-nil, append_assoc, refl, sym, subst}
use Rattle.std.proofs.Common.{◌∙◌, inl, inr, lit<, arith}
use Rattle.std.specs.Prelude.{IsSome}
use Rattle.std.specs.List.{All, AllPairs, cons_option, range_with_len}
use Rattle.std.specs.Option.{option_map}
use Rattle.std.proofs.lemmas.List.Elements.{All-append, All-contains, All-cons, All-nil}
use Rattle.std.proofs.lemmas.List.Elements.{Contains-append_right}
use Rattle.std.proofs.lemmas.List.FromFn.{get_or-map-range_with_len, length-map-range_with_len}
use Rattle.std.proofs.lemmas.List.Quantifiers.{all_pairs_push}
use Rattle.std.proofs.lemmas.Option.{slice_get_cases}
use Rattle.esc_term.specs.declared.formula.Formula.{Formula}
use Rattle.esc_term.proofs.Members.{Contains-here}
use Rattle.esc_fact.specs.Fact.{IsFact, formulas_of}
use Rattle.esc_fact.specs.Legal.{IsDrawnFrom, IsLegal, first_facts, is_first}
use Rattle.esc_fact.specs.declared.base.Base.{Base}
use Rattle.esc_fact.specs.declared.fact.Fact.{Fact}
use Rattle.esc_fact.specs.declared.fact.Fact.TheVariants as fact
use Rattle.esc_outcome.specs.Grown.{AreMet, IsDoneIn, IsMet, IsPlace, IsShallowAmong, makers_of}
use Rattle.esc_outcome.specs.GrownLaws.{EmptyIsGrown, FirstIsLegal, GrownByFirst, empty_branch}
use Rattle.esc_outcome.specs.Tree.{AreDifferent, ComesInTurn, IsOccurrence, Placed, named_by}
use Rattle.esc_outcome.specs.Tree.{placed}
use Rattle.esc_outcome.specs.declared.branch.Split.{Split}
use Rattle.esc_outcome.proofs.Branches.{grown_fact, some_behind}

module _ (base : Base) where
  abbrev pub count : ℕ
  count = length base.background

  abbrev pub givens : List Fact
  givens = map fact.Given (range_with_len 0 count)

  pub many : length givens ≡ count
  many = length-map-range_with_len fact.Given 0 count

  pub given_at : (k : ℕ) (d : Fact) → k < length givens → get_or givens k d ≡ fact.Given k
  given_at k d below =
      get_or-map-range_with_len fact.Given 0 count k k d (omega (arith, below, many)) (omega arith)

  -- ---- what holds of each of them

  each_first : (P : Fact → Type 0) → ((k : ℕ) → k < count → P (fact.Given k))
      → ((f : Formula) → base.negated ≡ Some f → P fact.NegGoal) → All P (first_facts base)
  each_first P given goal =
      All-append P givens (cons_option (option_map (λ f. fact.NegGoal) base.negated) [])
      (λ k d below. subst P (sym (given_at k d below)) (given k (omega (arith, below, many))))
      (last base.negated refl)
    where
      last : (o : Option Formula) → base.negated ≡ o
          → All P (cons_option (option_map (λ f. fact.NegGoal) o) [])
      last None e = All-nil P
      last (Some f) e = All-cons P fact.NegGoal [] (goal f e) (All-nil P)

  given_is : (k : ℕ) → k < count → IsFact base (fact.Given k)
  given_is k below = record {
    named = elim (slice_get_cases base.background k).1 [
      | inl found ↦ subst IsSome (sym found.2) refl
      | inr past ↦ absurd (omega (arith, below, past.0))
    ];
    counts = tt;
    grounded = refl;
  }

  goal_is : (f : Formula) → base.negated ≡ Some f → IsFact base fact.NegGoal
  goal_is f e = record { named = subst IsSome (sym e) refl; counts = tt; grounded = refl }

  -- ---- they differ

  given_same : (i j : ℕ) → fact.Given i ≡ fact.Given j → i ≡ j
  given_same i j e = cc

  givens_differ : AllPairs (λ a b. a ≢ b) givens
  givens_differ i j d before below same =
      let first = given_at i d (omega (arith, before, below)) in
      let equal = given_same i j (sym first ∙ (same ∙ given_at j d below)) in
      omega (arith, before, equal)

  differ : (o : Option Formula)
      → AllPairs (λ a b. a ≢ b) (givens ++ cons_option (option_map (λ f. fact.NegGoal) o) [])
  differ None = subst (AllPairs (λ a b. a ≢ b)) (sym (append-nil givens)) givens_differ
  differ (Some f) =
      all_pairs_push (λ a b. a ≢ b) givens fact.NegGoal givens_differ
      (λ k d below same. absurd (not_goal k (sym (given_at k d below) ∙ same)))
    where
      not_goal : (k : ℕ) → fact.Given k ≡ fact.NegGoal → ⊥
      not_goal k e = cc

  -- ---- they need nothing before them

  drawn_first : (before : List Fact) (f : Fact) → IsTrue (is_first f) → IsDrawnFrom base before f
  drawn_first before (fact.Given k) first = tt
  drawn_first before fact.NegGoal first = tt
  drawn_first before (fact.Inst number outer terms) first = absurd (cc)
  drawn_first before (fact.Skolem number outer) first = absurd (cc)
  drawn_first before (fact.Map1 m i x) first = absurd (cc)
  drawn_first before (fact.Map2 m i x j) first = absurd (cc)

  are_first : All (λ f. IsTrue (is_first f)) (first_facts base)
  are_first = each_first (λ f. IsTrue (is_first f)) (λ k below. refl) (λ f e. refl)

  first_at : (before after : List Fact) (f : Fact) → first_facts base ≡ before ++ (f ∷ after)
      → IsTrue (is_first f)
  first_at before after f e =
      All-contains (λ g. IsTrue (is_first g)) (before ++ (f ∷ after)) f
      (subst (All (λ g. IsTrue (is_first g))) e are_first)
      (Contains-append_right before (f ∷ after) f (Contains-here f after))

  pub first_legal : IsLegal base (first_facts base)
  first_legal = record {
    more = [];
    begins = sym (append-nil (first_facts base));
    differ = differ base.negated;
    are_facts = each_first (IsFact base) given_is goal_is;
    drawn = λ before after f e. drawn_first before f (first_at before after f e);
  }

pub first_is_legal : FirstIsLegal
first_is_legal base = first_legal base

-- ---- branches

pub empty_is_grown : EmptyIsGrown
unfolding placed
empty_is_grown base depth = record {
  log = record { more = first_facts base; legal = first_legal base };
  splits = record {
    tree = record {
      rooted = λ k split e. absurd (cc);
      alone = λ i j d before below. absurd (omega (arith, below));
    };
    once = All-nil (λ (p : Placed). AreDifferent (named_by p));
    occur = All-nil (λ (s : Split). IsOccurrence [] s.at);
    in_turn = All-nil (λ (s : Split). ComesInTurn (IsDoneIn base empty_branch) s.under);
  };
  one_side_each = refl;
  places = All-cons (IsPlace (IsDoneIn base empty_branch) []) None []
      (record { there = tt; in_turn = tt }) (All-nil (IsPlace (IsDoneIn base empty_branch) []));
  made = λ before after f e. absurd (some_behind before after f e);
  shallow = All-nil (λ f. IsTrue (is_first f) ⊎ IsShallowAmong base depth [] f);
}

made_first : (fs decided : List Formula) (base : Base) (f : Fact) → IsTrue (is_first f)
    → AreMet fs decided (makers_of base f)
made_first fs decided base (fact.Given k) first =
    (0, [], lit< tt, refl, All-nil (IsMet fs decided))
made_first fs decided base fact.NegGoal first =
    (0, [], lit< tt, refl, All-nil (IsMet fs decided))
made_first fs decided base (fact.Inst number outer terms) first = absurd (cc)
made_first fs decided base (fact.Skolem number outer) first = absurd (cc)
made_first fs decided base (fact.Map1 m i x) first = absurd (cc)
made_first fs decided base (fact.Map2 m i x j) first = absurd (cc)

pub grown_by_first : GrownByFirst
grown_by_first base depth branch f rest grown e =
    let first = first_at base branch.log rest f e in
    grown_fact base depth branch grown f
    (record {
      more = rest;
      legal = subst (IsLegal base)
          (e ∙ sym (append_assoc branch.log (f ∷ []) rest)) (first_legal base);
    })
    (made_first (formulas_of base branch.log) _ base f first) (inl first)
