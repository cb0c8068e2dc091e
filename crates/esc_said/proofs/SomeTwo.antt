-- Tests of the terms at two places of a list.
use Rattle.std.proofs.Common.{◌≡◌, ◌≢◌, ℕ, zero, suc, ◌<◌, Bool, true, inl, inr, List, [], ◌∷◌}
use Rattle.std.proofs.Common.{length, get_or, refl, ap, ◌∙◌, arith}
use Rattle.std.specs.List.{list_any}
use Rattle.std.proofs.lemmas.List.{get_or_default}
use Rattle.std.proofs.lemmas.List.Elements.{Contains-get_or}
use Rattle.esc_term.specs.declared.term.Term.{Term}
use Rattle.esc_cover.specs.Cover.{some_two}
use Rattle.esc_cover.proofs.TestLemmas.{any_at, any_found, or_cases, or_left, or_right}

module _ (test : Term → Term → Bool) (d : Term) where
  -- two different places, in one order or the other
  pub record TwoPlaces (ts : List Term) : Type 0 where
    pub i : ℕ
    pub j : ℕ
    pub i_there : i < length ts
    pub j_there : j < length ts
    pub differ : i ≢ j
    pub passes : test (get_or ts i d) (get_or ts j d) ≡ true

  pub some_two_found : (ts : List Term) → some_two test ts ≡ true → TwoPlaces ts
  some_two_found [] e = cc
  some_two_found (t ∷ ts) e =
      elim (or_cases (list_any (test t) ts) (some_two test ts) e) [
        | inl here ↦
            let found = any_found (test t) ts here in
            let at : get_or ts found.1.0 d ≡ found.0 =
            get_or_default ts found.1.0 d found.0 found.1.1 ∙ found.1.2 in
            record {
              i = zero;
              j = suc found.1.0;
              i_there = omega arith;
              j_there = omega (arith, found.1.1);
              differ = λ e. omega (arith, e);
              passes = ap (test t) at ∙ found.2;
            }
        | inr later ↦
            let found = some_two_found ts later in
            record {
              i = suc found.i;
              j = suc found.j;
              i_there = omega (arith, found.i_there);
              j_there = omega (arith, found.j_there);
              differ = λ e. found.differ (omega (arith, e));
              passes = found.passes;
            }
      ]

  pub some_two_at : ((s t : Term) → test s t ≡ true → test t s ≡ true) →
      (ts : List Term) (i j : ℕ) → i ≢ j → i < length ts → j < length ts
      → test (get_or ts i d) (get_or ts j d) ≡ true → some_two test ts ≡ true
  some_two_at turned [] i j differ il jl e = absurd (omega (arith, il))
  some_two_at turned (t ∷ ts) zero zero differ il jl e = absurd (differ refl)
  some_two_at turned (t ∷ ts) zero (suc j) differ il jl e =
      or_left (list_any (test t) ts) (some_two test ts)
      (any_at (test t) ts (get_or ts j d) (Contains-get_or ts j d (omega (arith, jl))) e)
  some_two_at turned (t ∷ ts) (suc i) zero differ il jl e =
      or_left (list_any (test t) ts) (some_two test ts)
      (any_at (test t) ts (get_or ts i d) (Contains-get_or ts i d (omega (arith, il)))
      (turned (get_or ts i d) t e))
  some_two_at turned (t ∷ ts) (suc i) (suc j) differ il jl e =
      or_right (list_any (test t) ts) (some_two test ts)
      (some_two_at turned ts i j (λ same. differ (ap suc same)) (omega (arith, il))
      (omega (arith, jl)) e)
