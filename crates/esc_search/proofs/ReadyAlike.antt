-- What is ready for one base is ready for another whose background has the same front.
use Rattle.std.proofs.Common.{◌≡◌, ℕ, ◌<◌, ◌≤◌, ◌+◌, suc, zero, List, [], ◌∷◌, ◌++◌, length, map}
use Rattle.std.proofs.Common.{take}
use Rattle.std.proofs.Common.{refl, sym, ap, ap₂, ◌∙◌, arith}
use Rattle.std.specs.List.{cons_option, range_with_len}
use Rattle.std.proofs.lemmas.List.{map_push, take_more}
use Rattle.std.proofs.lemmas.List.Elements.{filter_map-append}
use Rattle.std.proofs.lemmas.Option.{get_or_from_slice_get, slice_get-get_or, slice_get_within}
use Rattle.esc_term.specs.declared.formula.Formula.{Formula}
use Rattle.esc_term.specs.declared.formula.Formula.TheVariants as formula
use Rattle.esc_fact.specs.Fact.{formula_of, formulas_of}
use Rattle.esc_fact.specs.Legal.{first_facts}
use Rattle.esc_fact.specs.declared.base.Base.{Base}
use Rattle.esc_fact.specs.declared.fact.Fact.{Fact}
use Rattle.esc_fact.specs.declared.fact.Fact.TheVariants as fact
use Rattle.esc_search.specs.Proving.{ReadyIsAlike}
use Rattle.esc_search.proofs.FrontFacts.{given_next, range_push}

-- the facts that name the first formulas of a background
abbrev names : ℕ → List Fact
names n = map fact.Given (range_with_len 0 n)

names_push : (n : ℕ) → names (suc n) ≡ names n ++ fact.Given n ∷ []
names_push n =
    let last : 0 + n ≡ n = omega arith in
    ap (map fact.Given) (range_push 0 n) ∙ (map_push fact.Given (range_with_len 0 n) (0 + n)
    ∙ ap (λ k. names n ++ fact.Given k ∷ []) last)

module _ (base : Base) where
  front_names : (n : ℕ) → n ≤ length base.background → take n (first_facts base) ≡ names n
  front_names zero few = refl
  front_names (suc n) few =
      let next = given_next base n (omega (arith, few)) in
      let one : suc n ≡ n + 1 = omega arith in
      ap (λ k. take k (first_facts base)) one
      ∙ (take_more (first_facts base) n fact.NegGoal
      (slice_get_within (first_facts base) n (fact.Given n) next)
      ∙ (ap₂ (λ (fs : List Fact) (f : Fact). fs ++ f ∷ []) (front_names n (omega (arith, few)))
      (get_or_from_slice_get (first_facts base) n (fact.Given n) fact.NegGoal next)
      ∙ sym (names_push n)))

  front_formulas : (n : ℕ) → n ≤ length base.background
      → formulas_of base (names n) ≡ take n base.background
  front_formulas zero few = refl
  front_formulas (suc n) few =
      let within : n < length base.background = omega (arith, few) in
      let one : suc n ≡ n + 1 = omega arith in
      ap (formulas_of base) (names_push n)
      ∙ (filter_map-append (formula_of base) (names n) (fact.Given n ∷ [])
      ∙ (ap₂ (λ (fs : List Formula) o. fs ++ cons_option o [])
      (front_formulas n (omega (arith, few)))
      (slice_get-get_or base.background n formula.True within)
      ∙ (sym (take_more base.background n formula.True within)
      ∙ ap (λ k. take k base.background) (sym one))))

pub ready_is_alike : ReadyIsAlike
ready_is_alike base other s same few ready =
    let n = length s.log in
    let named : s.log ≡ names n = ready.log ∙ front_names base n ready.without_goal in
    record {
      log = named ∙ sym (front_names other n few);
      without_goal = few;
      formulas = ready.formulas ∙ (ap (formulas_of base) named
          ∙ (front_formulas base n ready.without_goal ∙ (sym same
          ∙ (sym (front_formulas other n few) ∙ ap (formulas_of other) (sym named)))));
      live = ready.live;
      sides = ready.sides;
      splits = ready.splits;
      under = ready.under;
      branch = ready.branch;
      given = ready.given;
      sound = ready.sound;
      limit = ready.limit;
    }
