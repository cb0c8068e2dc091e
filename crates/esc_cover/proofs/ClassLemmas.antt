-- Classes by a test of which terms belong together: two terms stand in one class exactly where they
-- are among the terms and pass the test.
use Rattle.std.proofs.Common.{◌≡◌, ℕ, suc, ◌<◌, ◌≤◌, Bool, true, false, ◌&&◌, if◌then◌else◌, cond, ◌⊎◌, inl, inr, List, [], ◌∷◌, ◌++◌, length, refl, ap, sym, subst, ◌∙◌, arith}
use Rattle.std.specs.Cmp.{IsEquivalence}
use Rattle.std.specs.List.{Contains, filter, fold, list_any}
use Rattle.std.proofs.lemmas.List.Elements.{Contains-append_left, Contains-push}
use Rattle.esc_term.proofs.Members.{Contains-none, Contains-cases}
use Rattle.esc_term.proofs.Pairs.{list_any-map}
use Rattle.esc_term.specs.declared.term.Term.{Term}
use Rattle.esc_term.specs.declared.formula.Item.{Item}
use Rattle.esc_cover.specs.Arithmetic.{InPlay}
use Rattle.esc_cover.specs.Least.{IsLeast}
use Rattle.esc_cover.specs.Classes.{classes_by, has, leaders, together, with_new_class}
use Rattle.esc_cover.proofs.TestLemmas.{and_both, and_left, and_right, any_at, any_found, has-at, has-found, kept, not_both, of_kept}

module _ (same : Term → Term → Bool) (eq : IsEquivalence same) where
  pub together_turned : (s t : Term) → same s t ≡ true → same t s ≡ true
  together_turned s t e = sym (eq.symm s t) ∙ e

  pub together_through : (s t u : Term) → same s t ≡ true → same t u ≡ true → same s u ≡ true
  together_through s t u e f = eq.congr s t u e ∙ f

  -- ---- the first terms of the classes

  led_kept : (seen : List Term) (u t : Term) → list_any (same t) seen ≡ true
      → list_any (same t) (with_new_class same seen u) ≡ true
  led_kept seen u t e = go (list_any (same u) seen) refl
    where
      go : (b : Bool) → list_any (same u) seen ≡ b
          → list_any (same t) (if list_any (same u) seen then seen else seen ++ u ∷ []) ≡ true
      go true is = ap (λ c. list_any (same t) (if c then seen else seen ++ u ∷ [])) is ∙ e
      go false is =
          let found = any_found (same t) seen e in
          ap (λ c. list_any (same t) (if c then seen else seen ++ u ∷ [])) is
          ∙ any_at (same t) (seen ++ u ∷ []) found.0
          (Contains-append_left seen (u ∷ []) found.0 found.1) found.2

  led_new : (seen : List Term) (t : Term) → list_any (same t) (with_new_class same seen t) ≡ true
  led_new seen t = go (list_any (same t) seen) refl
    where
      go : (b : Bool) → list_any (same t) seen ≡ b
          → list_any (same t) (if list_any (same t) seen then seen else seen ++ t ∷ []) ≡ true
      go true is = ap (λ c. list_any (same t) (if c then seen else seen ++ t ∷ [])) is ∙ is
      go false is =
          ap (λ c. list_any (same t) (if c then seen else seen ++ t ∷ [])) is
          ∙ any_at (same t) (seen ++ t ∷ []) t (Contains-push seen t) (eq.refl t)

  led_on : (ts seen : List Term) (t : Term) → list_any (same t) seen ≡ true
      → list_any (same t) (fold (with_new_class same) seen ts) ≡ true
  led_on [] seen t e = e
  led_on (u ∷ us) seen t e = led_on us (with_new_class same seen u) t (led_kept seen u t e)

  led_from : (ts seen : List Term) (t : Term) → Contains ts t
      → list_any (same t) (fold (with_new_class same) seen ts) ≡ true
  led_from [] seen t h = absurd (Contains-none t h)
  led_from (u ∷ us) seen t h =
      elim (Contains-cases u us t h) [
        | inl is ↦ led_on us (with_new_class same seen u) t
            (subst (λ v. list_any (same v) (with_new_class same seen u) ≡ true) is (led_new seen u))
        | inr later ↦ led_from us (with_new_class same seen u) t later
      ]

  -- ---- classes

  pub together_by : (terms : List Term) (s t : Term) → Contains terms s → Contains terms t
      → same s t ≡ true → together (classes_by same terms) s t ≡ true
  together_by terms s t hs ht e =
      let led = any_found (same s) (leaders same terms) (led_from terms [] s hs) in
      let first : same led.0 s ≡ true = together_turned s led.0 led.2 in
      let second : same led.0 t ≡ true = together_through led.0 s t first e in
      list_any-map (λ members. has members s && has members t)
      (λ leader. filter (same leader) terms) (leaders same terms)
      ∙ any_at (λ leader. has (filter (same leader) terms) s && has (filter (same leader) terms) t)
      (leaders same terms) led.0 led.1
      (and_both (has (filter (same led.0) terms) s) (has (filter (same led.0) terms) t)
      (has-at (filter (same led.0) terms) s (kept (same led.0) terms s hs first))
      (has-at (filter (same led.0) terms) t (kept (same led.0) terms t ht second)))

  pub of_together : (terms : List Term) (s t : Term) → together (classes_by same terms) s t ≡ true
      → Contains terms s × Contains terms t × (same s t ≡ true)
  of_together terms s t e =
      let found = any_found (λ leader. has (filter (same leader) terms) s
      && has (filter (same leader) terms) t) (leaders same terms)
      (sym (list_any-map (λ members. has members s && has members t)
      (λ leader. filter (same leader) terms) (leaders same terms)) ∙ e) in
      let left = of_kept (same found.0) terms s (has-found (filter (same found.0) terms) s
      (and_left _ _ found.2)) in
      let right = of_kept (same found.0) terms t (has-found (filter (same found.0) terms) t
      (and_right _ _ found.2)) in
      (left.0, right.0, together_through s found.0 t (together_turned found.0 s left.1) right.1)

  -- ---- a number for each class

  abbrev pub number : List Term → Term → ℕ
  number [] t = 0
  number (u ∷ us) t = cond (same u t) (suc (length us)) (number us t)

  pub number_same : (us : List Term) (s t : Term) → same s t ≡ true → number us s ≡ number us t
  number_same [] s t e = refl
  number_same (u ∷ us) s t e =
      let agree : same u s ≡ same u t = eq.symm u s ∙ eq.congr s t u e ∙ eq.symm t u in
      ap (λ b. cond b (suc (length us)) (number us s)) agree
      ∙ ap (λ n. cond (same u t) (suc (length us)) n) (number_same us s t e)

  number_within : (us : List Term) (t : Term) → number us t ≤ length us
  number_within [] t = omega arith
  number_within (u ∷ us) t = go (same u t) (number_within us t)
    where
      go : (b : Bool) → number us t ≤ length us → cond b (suc (length us)) (number us t)
          ≤ suc (length us)
      go true h = omega arith
      go false h = omega (arith, h)

  pub number_found : (us : List Term) (t : Term) → Contains us t → 0 < number us t
  number_found [] t h = absurd (Contains-none t h)
  number_found (u ∷ us) t h = go (number_found us t) (same u t) refl (Contains-cases u us t h)
    where
      go : (Contains us t → 0 < number us t) → (b : Bool) → same u t ≡ b → (u ≡ t) ⊎ Contains us t
          → 0 < cond (same u t) (suc (length us)) (number us t)
      go on true is which = subst (λ c. 0 < cond c (suc (length us)) (number us t)) (sym is)
          (omega arith)
      go on false is (inl e) = absurd (not_both (same u t) (ap (same u) (sym e) ∙ eq.refl u) is)
      go on false is (inr later) = subst (λ c. 0 < cond c (suc (length us)) (number us t)) (sym is)
          (on later)

  pub number_apart : (us : List Term) (s t : Term) → 0 < number us s → number us s ≡ number us t
      → same s t ≡ true
  number_apart [] s t h e = absurd (omega (arith, h))
  number_apart (u ∷ us) s t h e = go (number_apart us s t) (same u s) (same u t) refl refl h e
    where
      go : (0 < number us s → number us s ≡ number us t → same s t ≡ true) → (b c : Bool) → same u s
          ≡ b → same u t ≡ c → 0 < cond (same u s) (suc (length us)) (number us s)
          → cond (same u s) (suc (length us)) (number us s)
          ≡ cond (same u t) (suc (length us)) (number us t) → same s t ≡ true
      go on true true is js h e = together_through s u t (together_turned u s is) js
      go on true false is js h e =
          let clash : suc (length us) ≡ number us t = ap
          (λ c. cond c (suc (length us)) (number us s)) (sym is) ∙ e
          ∙ ap (λ c. cond c (suc (length us)) (number us t)) js in
          absurd (omega (arith, clash, number_within us t))
      go on false true is js h e =
          let clash : number us s ≡ suc (length us) = ap
          (λ c. cond c (suc (length us)) (number us s)) (sym is) ∙ e
          ∙ ap (λ c. cond c (suc (length us)) (number us t)) js in
          absurd (omega (arith, clash, number_within us s))
      go on false false is js h e =
          on (subst (λ c. 0 < cond c (suc (length us)) (number us s)) is h)
          (ap (λ c. cond c (suc (length us)) (number us s)) (sym is) ∙ e
          ∙ ap (λ c. cond c (suc (length us)) (number us t)) js)

-- ---- least classes

module _ (literals : List Item) (play : InPlay) (classes : List (List Term))
    (least : IsLeast literals play classes) where
  abbrev same : Term → Term → Bool
  same = least.same

  pub of_least : (s t : Term) → together classes s t ≡ true → Contains play.terms s
      × Contains play.terms t × (least.same s t ≡ true)
  of_least s t e = of_together same least.congruent.equivalence play.terms s t
      (subst (λ cs. together cs s t ≡ true) least.shown e)

  by_least : (s t : Term) → Contains play.terms s → Contains play.terms t → same s t ≡ true
      → together classes s t ≡ true
  by_least s t hs ht e = subst (λ cs. together cs s t ≡ true) (sym least.shown)
      (together_by same least.congruent.equivalence play.terms s t hs ht e)

  pub least_turned : (s t : Term) → together classes s t ≡ true → together classes t s ≡ true
  least_turned s t e = let found = of_least s t e in by_least t s found.1 found.0
      (together_turned same least.congruent.equivalence s t found.2)

  pub least_through : (s t u : Term) → together classes s t ≡ true → together classes t u ≡ true
      → together classes s u ≡ true
  least_through s t u e f =
      let first = of_least s t e in
      let second = of_least t u f in
      by_least s u first.0 second.1 (together_through same least.congruent.equivalence s t u first.2
      second.2)
