-- How many facts of a legal list are there besides those that name a formula of the base.
use Rattle.std.proofs.Common.{◌≡◌, ◌≤◌, ◌+◌, false, List, [], ◌∷◌, ◌++◌, Option}
use Rattle.std.proofs.Common.{Some}
use Rattle.std.proofs.Common.{None, length, append_assoc, refl, sym, ap, subst, ◌∙◌}
use Rattle.std.proofs.Common.{arith}
use Rattle.std.proofs.Common.{inl, inr, length-append}
use Rattle.std.specs.Prelude.{if◌then◌else◌, not, slice_get}
use Rattle.std.specs.List.{All, AllPairs, Contains, cons_option}
use Rattle.std.specs.Option.{option_map}
use Rattle.std.proofs.lemmas.List.Elements.{All-contains, All-contains_itself, All-weaker}
use Rattle.std.proofs.lemmas.List.Elements.{Contains-append_left, Contains-append_right}
use Rattle.std.proofs.lemmas.List.Elements.{filter-append}
use Rattle.std.proofs.lemmas.Option.{slice_get_cases}
use Rattle.esc_term.specs.declared.formula.Formula.{Formula}
use Rattle.esc_term.proofs.Members.{Contains-here}
use Rattle.esc_fact.specs.Fact.{IsFact}
use Rattle.esc_fact.specs.Legal.{IsLegal, first_facts, is_first, made_facts}
use Rattle.esc_fact.specs.declared.base.Base.{Base}
use Rattle.esc_fact.specs.declared.fact.Fact.{Fact}
use Rattle.esc_fact.specs.declared.fact.Fact.TheVariants as fact
use Rattle.esc_outcome.proofs.Decided.{not_none}
use Rattle.esc_outcome.proofs.FirstFacts.{given_at, givens, many}
use Rattle.esc_search.proofs.AssertNext.{not_before}
use Rattle.esc_search.proofs.Ending.{none_made_first}

abbrev goal_fact : Option Formula → List Fact
goal_fact o = cons_option (option_map (λ f. fact.NegGoal) o) []

-- a fact that names a formula of the base is one of the first
is_among_first : (base : Base) (f : Fact) → IsFact base f → (Contains (first_facts base) f → ⊥)
    → is_first f ≡ false
is_among_first base (fact.Given k) is new =
    elim (slice_get_cases base.background k).1 [
      | inl found ↦
          absurd (new (Contains-append_left (givens base) (goal_fact base.negated) (fact.Given k) (
            k,
            omega (arith, found.1, many base),
            given_at base k (fact.Given k) (omega (arith, found.1, many base)),
          )))
      | inr past ↦ absurd (not_none (slice_get base.background k) past.1 is.named)
    ]
is_among_first base fact.NegGoal is new = go base.negated refl
  where
    go : (o : Option Formula) → base.negated ≡ o → is_first fact.NegGoal ≡ false
    go None e = absurd (not_none base.negated e is.named)
    go (Some f) e =
        absurd (new (Contains-append_right (givens base) (goal_fact base.negated) fact.NegGoal
        (subst (λ o. Contains (goal_fact o) fact.NegGoal) (sym e) (Contains-here fact.NegGoal []))))
is_among_first base (fact.Inst number outer terms) is new = refl
is_among_first base (fact.Skolem number outer) is new = refl
is_among_first base (fact.Map1 m i x) is new = refl
is_among_first base (fact.Map2 m i x j) is new = refl

module _ (base : Base) (log : List Fact) (legal : IsLegal base log) where
  -- all that stand behind the first ones are made
  all_made : (before more : List Fact) → log ≡ before ++ more
      → All (Contains before) (first_facts base) → made_facts more ≡ more
  all_made before [] e among = refl
  all_made before (f ∷ more) e among =
      let later : is_first f ≡ false = is_among_first base f
      (All-contains (IsFact base) log f legal.are_facts
      (subst (λ fs. Contains fs f) (sym e)
      (Contains-append_right before (f ∷ more) f (Contains-here f more))))
      (λ there. not_before before more f (subst (AllPairs (λ a b. a ≡ b → ⊥)) e legal.differ)
      (All-contains (Contains before) (first_facts base) f among there)) in
      ap (λ b. if not b then f ∷ made_facts more else made_facts more) later
      ∙ ap (λ fs. f ∷ fs) (all_made (before ++ f ∷ []) more
      (e ∙ sym (append_assoc before (f ∷ []) more))
      (All-weaker (Contains before) (Contains (before ++ f ∷ []))
      (λ g h. Contains-append_left before (f ∷ []) g h) (first_facts base) among))

  made_behind : length log ≡ length (first_facts base) + length (made_facts log)
  made_behind =
      let first = first_facts base in
      let whole : made_facts log ≡ made_facts first ++ made_facts legal.more =
      ap made_facts legal.begins
      ∙ filter-append (λ g. not (is_first g)) first legal.more in
      omega (
        arith,
        ap length legal.begins,
        length-append first legal.more,
        ap length whole,
        length-append (made_facts first) (made_facts legal.more),
        none_made_first base,
        ap length (all_made first legal.more legal.begins (All-contains_itself first)),
      )

  length-first : length (first_facts base)
      ≡ length base.background + length (goal_fact base.negated)
  length-first = length-append (givens base) (goal_fact base.negated)
      ∙ ap (λ n. n + length (goal_fact base.negated)) (many base)

  pub background_fits : length base.background ≤ length log
  background_fits = omega (arith, made_behind, length-first)

  pub made_with_goal : (f : Formula) → base.negated ≡ Some f
      → length log ≡ length base.background + 1 + length (made_facts log)
  made_with_goal f e =
      omega (arith, made_behind, length-first, ap (λ o. length (goal_fact o)) e)

  pub made_without_goal : base.negated ≡ None
      → length log ≡ length base.background + length (made_facts log)
  made_without_goal e =
      omega (arith, made_behind, length-first, ap (λ o. length (goal_fact o)) e)
