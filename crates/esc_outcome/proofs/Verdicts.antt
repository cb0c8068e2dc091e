-- What shows a goal valid, and what shows that its base is not refuted.
use Rattle.std.proofs.Common.{◌≡◌, ◌<◌, List, [], ◌∷◌, ◌++◌, Option, Some, None, length, get_or}
use Rattle.std.proofs.Common.{refl, sym, ap, subst, ◌∙◌, inl, inr, arith}
use Rattle.std.specs.Prelude.{IsSome}
use Rattle.std.specs.List.{All, AllZip, Contains, cons_option, filter_map}
use Rattle.std.specs.Option.{option_map}
use Rattle.std.proofs.lemmas.List.Elements.{All-append, All-cons, All-head, All-nil}
use Rattle.std.proofs.lemmas.List.Elements.{All-tail, All-weaker}
use Rattle.std.proofs.lemmas.List.Elements.{Contains-append_left, Contains-append_right}
use Rattle.std.proofs.lemmas.List.Elements.{filter_map-append}
use Rattle.std.proofs.lemmas.Option.{slice_get-get_or}
use Rattle.esc_term.specs.declared.formula.Formula.{Formula}
use Rattle.esc_term.proofs.Members.{Contains-cases, Contains-here, Contains-later, Contains-none}
use Rattle.esc_term.proofs.Refutations.{among_more}
use Rattle.esc_cover.proofs.NotRefuted.{not_refuted}
use Rattle.esc_fact.specs.Base.{formulas_in}
use Rattle.esc_fact.specs.Fact.{IsFact, formula_of, formulas_of}
use Rattle.esc_fact.specs.Legal.{IsLegal, first_facts}
use Rattle.esc_fact.specs.declared.base.Base.{Base}
use Rattle.esc_fact.specs.declared.fact.Fact.{Fact}
use Rattle.esc_fact.specs.declared.fact.Fact.TheVariants as fact
use Rattle.esc_outcome.specs.Found.{members_of, values_of}
use Rattle.esc_outcome.specs.FoundLaws.{CounterexampleIsNotRefuted, RefutedIsValid}
use Rattle.esc_outcome.proofs.Decided.{not_none}
use Rattle.esc_outcome.proofs.FirstFacts.{given_at, givens, many}

Contains-filter_map : {X Y : Type 0} (h : X → Option Y) (xs : List X) (x : X) (y : Y)
    → Contains xs x → h x ≡ Some y → Contains (filter_map h xs) y
Contains-filter_map {X} {Y} h [] x y there is = absurd (Contains-none x there)
Contains-filter_map {X} {Y} h (w ∷ ws) x y there is =
    elim (Contains-cases w ws x there) [
      | inl same ↦
          subst (λ o. Contains (cons_option o (filter_map h ws)) y) (sym (ap h same ∙ is))
          (Contains-here y (filter_map h ws))
      | inr later ↦ kept_behind (h w) (Contains-filter_map h ws x y later is)
    ]
  where
    kept_behind : (o : Option Y) → Contains (filter_map h ws) y
        → Contains (cons_option o (filter_map h ws)) y
    kept_behind None inside = inside
    kept_behind (Some z) inside = Contains-later z (filter_map h ws) y inside

in_first : (base : Base) → All (Contains (formulas_of base (first_facts base))) (formulas_in base)
in_first base =
    All-append (Contains (formulas_of base (first_facts base))) base.background
    (cons_option base.negated []) background (goal base.negated refl)
  where
    named : (from : Fact) (f : Formula) → Contains (first_facts base) from
        → formula_of base from ≡ Some f → Contains (formulas_of base (first_facts base)) f
    named from f = Contains-filter_map (formula_of base) (first_facts base) from f

    background : All (Contains (formulas_of base (first_facts base))) base.background
    background k d below =
        let inside : k < length (givens base) = omega (arith, below, many base) in
        named (fact.Given k) (get_or base.background k d)
        (Contains-append_left (givens base) (cons_option (option_map (λ f. fact.NegGoal)
        base.negated) []) (fact.Given k) (k, inside, given_at base k (fact.Given k) inside))
        (slice_get-get_or base.background k d below)

    goal : (o : Option Formula) → base.negated ≡ o
        → All (Contains (formulas_of base (first_facts base))) (cons_option o [])
    goal None e = All-nil (Contains (formulas_of base (first_facts base)))
    goal (Some f) e =
        All-cons (Contains (formulas_of base (first_facts base))) f []
        (named fact.NegGoal f (Contains-append_right (givens base)
        (cons_option (option_map (λ g. fact.NegGoal) base.negated) []) fact.NegGoal
        (subst (λ o. Contains (cons_option (option_map (λ g. fact.NegGoal) o) []) fact.NegGoal)
        (sym e) (Contains-here fact.NegGoal []))) e)
        (All-nil (Contains (formulas_of base (first_facts base))))

pub base_in_facts : (base : Base) (facts : List Fact) → IsLegal base facts
    → All (Contains (formulas_of base facts)) (formulas_in base)
base_in_facts base facts legal =
    let first = formulas_of base (first_facts base) in
    let more = formulas_of base legal.more in
    subst (λ gs. All (Contains gs) (formulas_in base))
    (sym (ap (formulas_of base) legal.begins
    ∙ filter_map-append (formula_of base) (first_facts base) legal.more))
    (All-weaker (Contains first) (Contains (first ++ more)) (Contains-append_left first more)
    (formulas_in base) (in_first base))

pub counterexample_is_not_refuted : CounterexampleIsNotRefuted
counterexample_is_not_refuted base found legal is free refuted =
    not_refuted found.literals (members_of found.classes) (values_of found.classes)
    (formulas_of base found.facts) free is
    (among_more (formulas_in base) (formulas_of base found.facts)
    (base_in_facts base found.facts legal) refuted)

-- ---- valid goals

-- facts that name formulas stand beside them
listed : (base : Base) (log : List Fact) → All (IsFact base) log
    → AllZip (λ fact f. formula_of base fact ≡ Some f) log (formulas_of base log)
listed base [] all = tt
listed base (x ∷ log) all =
    go (formula_of base x) refl (All-head (IsFact base) x log all).named
    (listed base log (All-tail (IsFact base) x log all))
  where
    go : (o : Option Formula) → formula_of base x ≡ o → IsSome (formula_of base x)
        → AllZip (λ fact f. formula_of base fact ≡ Some f) log (formulas_of base log)
        → AllZip (λ fact f. formula_of base fact ≡ Some f) (x ∷ log)
        (cons_option (formula_of base x) (formulas_of base log))
    go None e some rest = absurd (not_none (formula_of base x) e some)
    go (Some f) e some rest =
        subst (λ o. AllZip (λ fact g. formula_of base fact ≡ Some g) (x ∷ log)
        (cons_option o (formulas_of base log))) (sym e) (e, rest)

pub refuted_is_valid : RefutedIsValid
refuted_is_valid base log legal refuted = record {
  legal = legal;
  formulas_are = listed base log legal.are_facts;
  refuted = refuted;
}
