-- Each class of terms has a value of its own: its numeral, or else a number above all numerals.
use Rattle.std.proofs.Common.{◌≡◌, ℕ, suc, ◌+◌, ◌≤◌, ℤ, pos, Bool, true, false, cond, ◌⊎◌, inl, inr, List, [], ◌∷◌, Option, Some, None, refl, ap, sym, subst, ◌∙◌, arith}
use Rattle.std.specs.Prelude.{nat_abs}
use Rattle.std.specs.Cmp.{IsEquivalence}
use Rattle.std.specs.List.{Contains}
use Rattle.esc_term.specs.declared.term.Term.{Term, out-Term}
use Rattle.esc_term.specs.declared.term.Term.TheVariants.{Num, rolls-Num}
use Rattle.esc_term.specs.declared.term.Term.TheOpen.{Term-F}
use Rattle.esc_term.specs.declared.term.Term.TheViews.{out-roll-Term, roll-Term, roll-out-Term}
use Rattle.esc_term.proofs.Members.{Contains-none, Contains-here, Contains-later, Contains-cases}
use Rattle.esc_cover.specs.Classes.{classes_by, has, together}
use Rattle.esc_cover.proofs.ClassLemmas.{number, number_apart, number_found, number_same, together_by, together_through, together_turned}
use Rattle.esc_cover.proofs.TestLemmas.{has-at, has-found, has_none, not_both}

-- ---- numerals

abbrev numeral_form : Term-F Term → Option ℤ
numeral_form (Term-F.Num n) = Some n
numeral_form form = None

abbrev numeral_of : Term → Option ℤ
numeral_of t = numeral_form (out-Term t)

numeral_of-Num : (n : ℤ) → numeral_of (Num n) ≡ Some n
numeral_of-Num n = ap numeral_form (ap out-Term (sym (rolls-Num n)) ∙ out-roll-Term (Term-F.Num n))

form_is : (form : Term-F Term) (n : ℤ) → numeral_form form ≡ Some n → form ≡ Term-F.Num n
form_is (Term-F.Num m) n e = cc
form_is (Term-F.Var k) n e = absurd (cc)
form_is (Term-F.App head ts) n e = absurd (cc)

numeral_is : (t : Term) (n : ℤ) → numeral_of t ≡ Some n → t ≡ Num n
numeral_is t n e = sym (roll-out-Term t) ∙ ap roll-Term (form_is (out-Term t) n e) ∙ rolls-Num n

abbrev size : Option ℤ → ℕ
size (Some n) = nat_abs n
size None = 0

-- no numeral among the terms is greater
abbrev above : List Term → ℕ
above [] = 0
above (u ∷ us) = size (numeral_of u) + above us

within_above : (us : List Term) (n : ℤ) → Contains us (Num n) → nat_abs n ≤ above us
within_above [] n h = absurd (Contains-none (Num n) h)
within_above (u ∷ us) n h =
    elim (Contains-cases u us (Num n) h) [
      | inl is ↦ omega (arith, ap size (ap numeral_of is ∙ numeral_of-Num n))
      | inr later ↦ omega (arith, within_above us n later)
    ]

-- ---- the numeral of a class

-- the first numeral, where its term belongs there
abbrev pick : Bool → Option ℤ → Option ℤ → Option ℤ
pick true (Some n) later = Some n
pick true None later = later
pick false here later = later

module _ (same : Term → Term → Bool) (eq : IsEquivalence same) where
  abbrev class_numeral : List Term → Term → Option ℤ
  class_numeral [] t = None
  class_numeral (u ∷ us) t = pick (same u t) (numeral_of u) (class_numeral us t)

  class_numeral_same : (us : List Term) (s t : Term) → same s t ≡ true → class_numeral us s
      ≡ class_numeral us t
  class_numeral_same [] s t e = refl
  class_numeral_same (u ∷ us) s t e =
      let agree : same u s ≡ same u t = eq.symm u s ∙ eq.congr s t u e ∙ eq.symm t u in
      ap (λ b. pick b (numeral_of u) (class_numeral us s)) agree
      ∙ ap (pick (same u t) (numeral_of u)) (class_numeral_same us s t e)

  abbrev IsFound : List Term → Term → ℤ → Type 0
  IsFound us t n = Contains us (Num n) × (same (Num n) t ≡ true)

  class_numeral_found : (us : List Term) (t : Term) (n : ℤ) → class_numeral us t ≡ Some n
      → IsFound us t n
  class_numeral_found [] t n e = absurd (cc)
  class_numeral_found (u ∷ us) t n e = go (λ k. later (class_numeral_found us t n k)) (same u t)
      (numeral_of u) refl refl e
    where
      later : IsFound us t n → IsFound (u ∷ us) t n
      later found = (Contains-later u us (Num n) found.0, found.1)

      go : (class_numeral us t ≡ Some n → IsFound (u ∷ us) t n)
          → (b : Bool) (here : Option ℤ) → same u t ≡ b → numeral_of u ≡ here
          → pick (same u t) (numeral_of u) (class_numeral us t) ≡ Some n → IsFound (u ∷ us) t n
      go on true (Some m) is what e =
          let first : Some m ≡ Some n =
          sym (ap (λ b. pick b (numeral_of u) (class_numeral us t)) is
          ∙ ap (λ h. pick true h (class_numeral us t)) what) ∙ e in
          let is_n : u ≡ Num n = numeral_is u n (what ∙ first) in
          (subst (Contains (u ∷ us)) is_n (Contains-here u us), ap (λ s. same s t) (sym is_n) ∙ is)
      go on true None is what e =
          on (sym (ap (λ b. pick b (numeral_of u) (class_numeral us t)) is
          ∙ ap (λ h. pick true h (class_numeral us t)) what) ∙ e)
      go on false here is what e = on (sym (ap (λ b. pick b (numeral_of u) (class_numeral us t)) is)
          ∙ e)

  class_numeral_there : (us : List Term) (t : Term) (n : ℤ) → IsFound us t n → (m : ℤ)
      × (class_numeral us t ≡ Some m)
  class_numeral_there [] t n h = absurd (Contains-none (Num n) h.0)
  class_numeral_there (u ∷ us) t n h =
      go (λ later. class_numeral_there us t n (later, h.1)) (same u t) (numeral_of u) refl refl
      (Contains-cases u us (Num n) h.0)
    where
      passed : (b : Bool) (here : Option ℤ) → same u t ≡ b → numeral_of u ≡ here → (m : ℤ)
          × (pick b here (class_numeral us t) ≡ Some m)
          → (m : ℤ) × (class_numeral (u ∷ us) t ≡ Some m)
      passed b here is what found = (
        found.0,
        ap (λ c. pick c (numeral_of u) (class_numeral us t)) is
            ∙ ap (λ k. pick b k (class_numeral us t)) what ∙ found.1,
      )

      go : (Contains us (Num n) → (m : ℤ) × (class_numeral us t ≡ Some m))
          → (b : Bool) (here : Option ℤ) → same u t ≡ b → numeral_of u ≡ here → (u ≡ Num n)
          ⊎ Contains us (Num n)
          → (m : ℤ) × (class_numeral (u ∷ us) t ≡ Some m)
      go on true (Some m) is what which = passed true (Some m) is what (m, refl)
      go on true None is what (inl e) = absurd (let clash : Some n ≡ None = sym (numeral_of-Num n)
          ∙ ap numeral_of (sym e) ∙ what in cc)
      go on true None is what (inr later) = passed true None is what (on later)
      go on false here is what (inl e) = absurd (not_both (same u t) (ap (λ s. same s t) e
          ∙ h.1) is)
      go on false here is what (inr later) = passed false here is what (on later)

  -- ---- values

  module _ (terms : List Term) where
    -- the numeral, or the number that is fresh by so much
    abbrev valued : Option ℤ → ℕ → ℤ
    valued (Some n) fresh = n
    valued None fresh = pos (suc (above terms + fresh))

    abbrev pub class_value : Term → ℤ
    class_value t = cond (has terms t) (valued (class_numeral terms t) (number same eq terms t))
        (valued None 0)

    active_value : (t : Term) → Contains terms t → class_value t
        ≡ valued (class_numeral terms t) (number same eq terms t)
    active_value t h = ap (λ b. cond b (valued (class_numeral terms t) (number same eq terms t))
        (valued None 0)) (has-at terms t h)

    pub other_value : (t : Term) → (Contains terms t → ⊥) → class_value t
        ≡ pos (suc (above terms + 0))
    other_value t absent = ap (λ b. cond b (valued (class_numeral terms t) (number same eq terms t))
        (valued None 0)) (has_none terms t absent)

    pub value_same : (s t : Term) → Contains terms s → Contains terms t → same s t ≡ true
        → class_value s ≡ class_value t
    value_same s t hs ht e =
        active_value s hs ∙ ap (λ k. valued k (number same eq terms s))
        (class_numeral_same terms s t e)
        ∙ ap (valued (class_numeral terms t)) (number_same same eq terms s t e)
        ∙ sym (active_value t ht)

    -- a numeral among the terms is no fresh number
    no_fresh : (n : ℤ) (fresh : ℕ) → Contains terms (Num n) → n
        ≡ pos (suc (above terms + fresh)) → ⊥
    no_fresh n fresh h e = omega (arith, within_above terms n h, ap nat_abs e)

    apart : (s t : Term) (a b : Option ℤ) → Contains terms s → class_numeral terms s ≡ a
        → class_numeral terms t ≡ b
        → valued a (number same eq terms s) ≡ valued b (number same eq terms t) → same s t ≡ true
    apart s t (Some m) (Some n) hs is js e =
        let left = class_numeral_found terms s m is in
        let right = class_numeral_found terms t n js in
        together_through same eq s (Num m) t (together_turned same eq (Num m) s left.1)
        (subst (λ k. same (Num k) t ≡ true) (sym e) right.1)
    apart s t (Some m) None hs is js e = absurd (no_fresh m (number same eq terms t)
        (class_numeral_found terms s m is).0 e)
    apart s t None (Some n) hs is js e = absurd (no_fresh n (number same eq terms s)
        (class_numeral_found terms t n js).0 (sym e))
    apart s t None None hs is js e =
        number_apart same eq terms s t (number_found same eq terms s hs)
        (omega (arith, ap nat_abs e))

    not_other : (s : Term) (a : Option ℤ) → Contains terms s → class_numeral terms s ≡ a
        → valued a (number same eq terms s) ≡ valued None 0 → ⊥
    not_other s (Some m) hs is e = no_fresh m 0 (class_numeral_found terms s m is).0 e
    not_other s None hs is e = omega (arith, number_found same eq terms s hs, ap nat_abs e)

    -- a term with the value of one of the terms is one of them, and belongs to it
    pub same_value : (s t : Term) → Contains terms s → class_value s ≡ class_value t
        → Contains terms t × (same s t ≡ true)
    same_value s t hs e = go (has terms t) refl
      where
        go : (b : Bool) → has terms t ≡ b → Contains terms t × (same s t ≡ true)
        go true is =
            let ht : Contains terms t = has-found terms t is in (
              ht,
              apart s t (class_numeral terms s) (class_numeral terms t) hs refl refl
                  (sym (active_value s hs) ∙ e ∙ active_value t ht),
            )
        go false is =
            absurd (not_other s (class_numeral terms s) hs refl
            (sym (active_value s hs) ∙ e ∙ ap (λ b. cond b
            (valued (class_numeral terms t) (number same eq terms t)) (valued None 0)) is))

    -- a numeral has its own value where no class holds two
    pub numeral_value : ((m n : ℤ) → together (classes_by same terms) (Num m) (Num n) ≡ true → m
        ≡ n) → (n : ℤ) → Contains terms (Num n) → class_value (Num n) ≡ n
    numeral_value one n h =
        let there = class_numeral_there terms (Num n) n (h, eq.refl (Num n)) in
        let found = class_numeral_found terms (Num n) there.0 there.1 in
        active_value (Num n) h ∙ ap (λ k. valued k (number same eq terms (Num n))) there.1
        ∙ one there.0 n (together_by same eq terms (Num there.0) (Num n) found.0 h found.1)
