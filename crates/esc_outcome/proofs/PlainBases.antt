-- Bases from which nothing is drawn.
use Rattle.std.proofs.Common.{◌≡◌, ℕ, ◌<◌, ◌^◌, false, true, List, [], ◌∷◌, ◌++◌, Option, Some}
use Rattle.std.proofs.Common.{None, length, map, get_or, append-nil, append_assoc, refl, sym, ap}
use Rattle.std.proofs.Common.{ap₂, subst, ◌∙◌, inl, inr, arith}
use Rattle.std.specs.Prelude.{IsSome, slice_get}
use Rattle.std.specs.List.{All, AllZip, Contains, cons_option, filter_map, flat_map, list_all}
use Rattle.std.specs.List.{range_with_len}
use Rattle.std.specs.Option.{option_map}
use Rattle.std.proofs.Math.Seq.{get_or-append_seam}
use Rattle.std.proofs.lemmas.List.{get_or_append_left, length-append, length_push}
use Rattle.std.proofs.lemmas.List.Elements.{All-contains, All-contains_itself, All-weaker}
use Rattle.std.proofs.lemmas.List.Elements.{Contains-append_left, Contains-append_right}
use Rattle.std.proofs.lemmas.List.Elements.{filter_map-append}
use Rattle.std.proofs.lemmas.Option.{slice_get_cases}
use Rattle.esc_term.specs.declared.term.Term.{Term}
use Rattle.esc_term.specs.declared.formula.Formula.{Formula}
use Rattle.esc_term.specs.Formula.{terms_of}
use Rattle.esc_term.specs.Refuted.{Refuted}
use Rattle.esc_term.proofs.Members.{Contains-here}
use Rattle.esc_cover.specs.Laws.{is_free_of_arithmetic}
use Rattle.esc_cover.proofs.TestLemmas.{all_at, all_from}
use Rattle.esc_fact.specs.Base.{Quantified, formulas_in, quantified_in}
use Rattle.esc_fact.specs.Fact.{IsFact, formula_of, formulas_of, instance_of, skolem_of, store}
use Rattle.esc_fact.specs.Legal.{IsDrawnFrom, IsLegal, IsLegalFront, first_facts}
use Rattle.esc_fact.specs.declared.base.Base.{Base}
use Rattle.esc_fact.specs.declared.fact.Fact.{Fact}
use Rattle.esc_fact.specs.declared.fact.Fact.TheVariants as fact
use Rattle.esc_outcome.specs.Causes.{IsStuck}
use Rattle.esc_outcome.specs.PlainLaws.{IsPlain, IsPlainAndFree, PlainHasFirstFacts}
use Rattle.esc_outcome.specs.PlainLaws.{PlainIsNotStuck, PlainRunsOutOfSplits}
use Rattle.esc_outcome.specs.PlainLaws.{PlainValidIsRefuted}
use Rattle.esc_outcome.specs.TreeLaws.{occurrences_in}
use Rattle.esc_outcome.specs.declared.branch.Branch.{Branch}
use Rattle.esc_options.specs.declared.options.Limits.{Limits}
use Rattle.esc_outcome.specs.declared.stuck.Stuck.{Stuck}
use Rattle.esc_outcome.proofs.Branches.{splits_run_out_early}
use Rattle.esc_outcome.proofs.Decided.{not_none}
use Rattle.esc_outcome.proofs.FirstFacts.{given_at, givens, many}
use Rattle.esc_outcome.proofs.NoJam.{free_has_no_jam}
use Rattle.esc_outcome.proofs.Numbers.{active-among}
use Rattle.esc_outcome.proofs.Paths.{slice_get_append_left, slice_get_push}

-- ---- the formulas of the first facts

module _ (base : Base) where
  given_formulas : (xs ys : List Formula) → base.background ≡ xs ++ ys
      → filter_map (formula_of base) (map fact.Given (range_with_len (length xs) (length ys))) ≡ ys
  given_formulas xs [] e = refl
  given_formulas xs (y ∷ ys) e =
      let whole : base.background ≡ (xs ++ (y ∷ [])) ++ ys =
      e ∙ sym (append_assoc xs (y ∷ []) ys) in
      let here : slice_get base.background (length xs) ≡ Some y =
      ap (λ list. slice_get list (length xs)) whole
      ∙ (slice_get_append_left (xs ++ (y ∷ [])) ys (length xs) (omega (arith, length_push xs y))
      ∙ slice_get_push xs y) in
      ap₂ cons_option here
      (ap (λ n. filter_map (formula_of base) (map fact.Given (range_with_len n (length ys))))
      (sym (length_push xs y))
      ∙ given_formulas (xs ++ (y ∷ [])) ys whole)

  pub formulas_first : formulas_of base (first_facts base) ≡ formulas_in base
  formulas_first =
      filter_map-append (formula_of base) (givens base)
      (cons_option (option_map (λ f. fact.NegGoal) base.negated) [])
      ∙ ap₂ (λ xs ys. xs ++ ys) (given_formulas [] base.background refl) (goal base.negated refl)
    where
      goal : (o : Option Formula) → base.negated ≡ o
          → filter_map (formula_of base) (cons_option (option_map (λ f. fact.NegGoal) o) [])
          ≡ cons_option o []
      goal None e = refl
      goal (Some f) e = ap (λ o. cons_option o []) e

  -- ---- nothing is drawn

  module _ (plain : IsPlain base) (facts : List Fact) (legal : IsLegal base facts) where
    abbrev first : List Fact
    first = first_facts base

    none_named : {X : Type 0} (h : Quantified → X) (number : ℕ)
        → IsSome (option_map h (slice_get (quantified_in base) number)) → ⊥
    none_named h number some =
        no_value (subst (λ qs. IsSome (option_map h (slice_get qs number))) plain.unquantified some)
      where
        no_value : false ≡ true → ⊥
        no_value e = cc

    no_store : (m i x : Term) → Contains (flat_map terms_of (formulas_of base first)) (store m i x)
        → ⊥
    no_store m i x h =
        plain.no_stores m i x
        (subst (λ fs. Contains (flat_map terms_of fs) (store m i x)) formulas_first h)

    -- a first fact does not come again
    not_again : (f : Fact) (rest : List Fact) → facts ≡ first ++ (f ∷ rest) → Contains first f → ⊥
    not_again f rest e there =
        let long : length first < length facts =
        omega (arith, ap length e, length-append first (f ∷ rest)) in
        legal.differ there.0 (length first) f there.1 long
        (subst (λ list. get_or list there.0 f ≡ get_or list (length first) f) (sym e)
        (get_or_append_left first (f ∷ rest) f there.0 there.1
        ∙ (there.2 ∙ sym (get_or-append_seam first f rest f))))

    not_behind : (f : Fact) → IsFact base f → IsDrawnFrom base first f → (Contains first f → ⊥) → ⊥
    not_behind (fact.Given k) is drawn new =
        elim (slice_get_cases base.background k).1 [
          | inl found ↦
              let below : k < length (givens base) = omega (arith, found.1, many base) in
              new (Contains-append_left (givens base)
              (cons_option (option_map (λ f. fact.NegGoal) base.negated) []) (fact.Given k)
              (k, below, given_at base k (fact.Given k) below))
          | inr past ↦ not_none (slice_get base.background k) past.1 is.named
        ]
    not_behind fact.NegGoal is drawn new = go base.negated refl
      where
        go : (o : Option Formula) → base.negated ≡ o → ⊥
        go None e = not_none base.negated e is.named
        go (Some f) e =
            new (Contains-append_right (givens base)
            (cons_option (option_map (λ g. fact.NegGoal) base.negated) []) fact.NegGoal
            (subst (λ o. Contains (cons_option (option_map (λ g. fact.NegGoal) o) []) fact.NegGoal)
            (sym e) (Contains-here fact.NegGoal [])))
    not_behind (fact.Inst number outer terms) is drawn new =
        none_named (λ q. instance_of q outer terms) number is.named
    not_behind (fact.Skolem number outer) is drawn new =
        none_named (λ q. skolem_of number q outer) number is.named
    not_behind (fact.Map1 m i x) is drawn new = no_store m i x drawn
    not_behind (fact.Map2 m i x j) is drawn new = no_store m i x drawn.0

    no_more : (f : Fact) (rest : List Fact) → facts ≡ first ++ (f ∷ rest) → ⊥
    no_more f rest e =
        not_behind f
        (All-contains (IsFact base) facts f legal.are_facts
        (subst (λ list. Contains list f) (sym e)
        (Contains-append_right first (f ∷ rest) f (Contains-here f rest))))
        (legal.drawn first rest f e) (not_again f rest e)

pub plain_has_first_facts : PlainHasFirstFacts
plain_has_first_facts base facts plain legal = go legal.more legal.begins
  where
    go : (more : List Fact) → facts ≡ first_facts base ++ more → facts ≡ first_facts base
    go [] e = e ∙ append-nil (first_facts base)
    go (f ∷ rest) e = absurd (no_more base plain facts legal f rest e)

-- ---- what is told of plain bases

formulas_listed : (base : Base) (log : List Fact) (formulas : List Formula)
    → AllZip (λ fact f. formula_of base fact ≡ Some f) log formulas
    → formulas_of base log ≡ formulas
formulas_listed base [] [] zip = refl
formulas_listed base [] (f ∷ fs) zip = absurd zip
formulas_listed base (x ∷ log) [] zip = absurd zip
formulas_listed base (x ∷ log) (f ∷ fs) zip =
    ap₂ cons_option zip.0 (formulas_listed base log fs zip.1)

pub plain_valid_is_refuted : PlainValidIsRefuted
plain_valid_is_refuted base log formulas plain valid =
    subst Refuted
    (sym (formulas_listed base log formulas valid.formulas_are)
    ∙ (ap (formulas_of base) (plain_has_first_facts base log plain valid.legal)
    ∙ formulas_first base)) valid.refuted

module _ (base : Base) (limits : Limits) (branch : Branch) where
  log_among : IsPlain base → IsLegalFront base branch.log
      → All (Contains (formulas_in base)) (formulas_of base branch.log)
  log_among plain front =
      let fs = formulas_of base branch.log in
      let whole : fs ++ formulas_of base front.more ≡ formulas_in base =
      sym (filter_map-append (formula_of base) branch.log front.more)
      ∙ ap (formulas_of base)
      (plain_has_first_facts base (branch.log ++ front.more) plain front.legal)
      ∙ formulas_first base in
      subst (λ gs. All (Contains gs) fs) whole
      (All-weaker (Contains fs) (Contains (fs ++ formulas_of base front.more))
      (Contains-append_left fs (formulas_of base front.more)) fs (All-contains_itself fs))

  not_stuck : (stuck : Stuck) → IsPlainAndFree base → IsStuck base limits branch stuck → ⊥
  not_stuck stuck is stops =
      let fs = formulas_of base branch.log in
      let among = log_among is.plain stops.grown.log in
      free_has_no_jam fs limits.pivots stuck
      (all_from is_free_of_arithmetic fs (λ f h.
      all_at is_free_of_arithmetic (formulas_in base) f is.free
      (All-contains (Contains (formulas_in base)) fs f among h)))
      (λ n h. is.numerals n (active-among fs (formulas_in base) among _ h)) stops.jam

pub plain_is_not_stuck : PlainIsNotStuck
plain_is_not_stuck = not_stuck

pub plain_runs_out_of_splits : PlainRunsOutOfSplits
plain_runs_out_of_splits base limits branch next plain h =
    subst (λ fs. limits.splits < 2 ^ occurrences_in fs)
    (ap (formulas_of base) (plain_has_first_facts base branch.log plain h.legal)
    ∙ formulas_first base) (splits_run_out_early base limits branch next h)
