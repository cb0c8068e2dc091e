-- What asserting the rest of a background comes to.
use Rattle.std.proofs.Common.{◌≡◌, ℕ, ◌≤◌, List, [], ◌∷◌, ◌++◌, length, map, take}
use Rattle.std.proofs.Common.{Option, Some, None}
use Rattle.std.proofs.Common.{refl, sym, subst, arith}
use Rattle.std.specs.Prelude.{slice_get}
use Rattle.std.specs.List.{All, Contains, cons_option, range_with_len}
use Rattle.std.specs.Option.{option_map}
use Rattle.std.proofs.lemmas.List.{take-append-le}
use Rattle.std.proofs.lemmas.List.Elements.{All-cons, All-head, All-map, All-nil, All-push}
use Rattle.std.proofs.lemmas.List.Elements.{All-tail, All-take}
use Rattle.std.proofs.lemmas.List.FromFn.{length-map-range_with_len}
use Rattle.std.proofs.lemmas.Option.{get_or_from_slice_get, slice_get_within}
use Rattle.esc_term.specs.declared.formula.Formula.{Formula}
use Rattle.esc_fact.specs.Fact.{formula_of, formulas_of}
use Rattle.esc_fact.specs.Legal.{first_facts}
use Rattle.esc_fact.specs.declared.base.Base.{Base}
use Rattle.esc_fact.specs.declared.fact.Fact.{Fact}
use Rattle.esc_fact.specs.declared.fact.Fact.TheVariants as fact
use Rattle.esc_search.specs.Proving.{GivenEnds, IsReady, LogsGiven}
use Rattle.esc_search.specs.declared.outcome.Outcome.{Outcome}
use Rattle.esc_search.specs.declared.outcome.Outcome.TheVariants as outcome
use Rattle.esc_search.specs.declared.search.Search.{Search}
use Rattle.esc_session.specs.PushingInside.{IsLoggedOf, RestEnds}

-- the fact names a formula of the background
abbrev IsNamed : Fact → Type 0
IsNamed one = (k : ℕ) × (one ≡ fact.Given k)

module _ (base : Base) where
  abbrev named : List Fact
  named = map fact.Given (range_with_len 0 (length base.background))

  front_named : (n : ℕ) → n ≤ length base.background → All IsNamed (take n (first_facts base))
  front_named n few =
      let many = length-map-range_with_len fact.Given 0 (length base.background) in
      subst (All IsNamed)
      (sym (take-append-le n named
      (cons_option (option_map (λ f. fact.NegGoal) base.negated) [])
      (omega (arith, few, many))))
      (All-take IsNamed n named
      (All-map IsNamed fact.Given (range_with_len 0 (length base.background))
      (λ k d below. (_, refl))))

  given_within : (k : ℕ) (f : Formula) → slice_get base.background k ≡ Some f
      → Contains base.background f
  given_within k f is =
      (k, slice_get_within base.background k f is, get_or_from_slice_get base.background k f f is)

  one_more : (o : Option Formula) (fs : List Formula)
      → ((f : Formula) → o ≡ Some f → Contains base.background f)
      → All (Contains base.background) fs → All (Contains base.background) (cons_option o fs)
  one_more None fs within all = all
  one_more (Some f) fs within all =
      All-cons (Contains base.background) f fs (within f refl) all

  named_within : (fs : List Fact) → All IsNamed fs
      → All (Contains base.background) (formulas_of base fs)
  named_within [] are = All-nil (Contains base.background)
  named_within (x ∷ fs) are =
      let is = All-head IsNamed x fs are in
      one_more (formula_of base x) (formulas_of base fs)
      (λ f same. given_within is.0 f
      (subst (λ (y : Fact). formula_of base y ≡ Some f) is.1 same))
      (named_within fs (All-tail IsNamed x fs are))

  logged_next : (s t : Search) → IsReady base s
      → t.log ≡ s.log ++ fact.Given (length s.log) ∷ [] → IsLoggedOf base t
  logged_next s t ready next =
      named_within t.log
      (subst (All IsNamed) (sym next)
      (All-push IsNamed s.log (fact.Given (length s.log))
      (subst (All IsNamed) (sym ready.log)
      (front_named (length s.log) ready.without_goal))
      (length s.log, refl)))

  pub rest_ends : (s t : Search) (came : Outcome) → (came ≡ outcome.Open → ⊥) → IsReady base s
      → GivenEnds base t came → LogsGiven s.log t.log came → RestEnds base t came
  rest_ends s t outcome.Open other ready ends logs = absurd (other refl)
  rest_ends s t outcome.Closed other ready ends logs = (ends, logged_next s t ready logs)
  rest_ends s t (outcome.Stopped why) other ready ends logs = (ends.0.cause_is, ends.1)
  rest_ends s t outcome.Memory other ready ends logs = tt
