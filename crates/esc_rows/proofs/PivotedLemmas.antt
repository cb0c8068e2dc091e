-- The rows and the constants that a pivot leaves, from what is known of each.
use Rattle.std.proofs.Common.{◌≡◌, ◌≢◌, ℕ, ◌<◌, Bool, true, false, ◌==◌, List, [], map, length, set, get_or, refl, sym, ◌∙◌, subst, arith, eqb-true, length-set, get_or-set_other, get_or-set_same}
use Rattle.std.proofs.lemmas.Bool.{eqb-false}
use Rattle.std.proofs.lemmas.List.{ext_get_or, length-map, get_or-map}
use Rattle.esc_frac.specs.Rational.{ℚ, zero_ℚ, ◌+ℚ◌, ◌*ℚ◌}
use Rattle.esc_rows.specs.Rows.{eliminated_constants}
use Rattle.esc_rows.proofs.Constants.{length-eliminated_constants, get_or-eliminated_constants}

-- two lists that agree but at one place are one once it is set
set_of_same : {A : Type 0} (d : A) (xs ys : List A) (r : ℕ) (y : A) → length xs ≡ length ys → r
    < length xs → ((i : ℕ) → i < length xs → i ≢ r → get_or xs i d ≡ get_or ys i d) → set xs r y
    ≡ set ys r y
set_of_same d xs ys r y l h same =
    ext_get_or d (set xs r y) (set ys r y) (length-set xs r y ∙ l ∙ sym (length-set ys r y)) at
  where
    at : (i : ℕ) → i < length (set xs r y) → get_or (set xs r y) i d ≡ get_or (set ys r y) i d
    at i inside = go (i == r) refl
      where
        within : i < length xs
        within = omega (arith, length-set xs r y)

        go : (b : Bool) → i == r ≡ b → get_or (set xs r y) i d ≡ get_or (set ys r y) i d
        go true e =
            let also : r < length ys = omega arith in
            subst (λ (j : ℕ). get_or (set xs r y) j d ≡ get_or (set ys r y) j d)
            (sym (eqb-true i r e)) (get_or-set_same xs r y d h
            ∙ sym (get_or-set_same ys r y d also))
        go false e =
            let other : i ≢ r = eqb-false i r e in
            get_or-set_other xs r i y d other ∙ same i within other
            ∙ sym (get_or-set_other ys r i y d other)

pub rows_pivoted : (old after : List (List ℚ)) (f : List ℚ → List ℚ) (r : ℕ) (row : List ℚ)
    → length after ≡ length old → r < length old → ((i : ℕ) → i < length old → i ≢ r
    → get_or after i [] ≡ f (get_or old i [])) → set after r row ≡ set (map f old) r row
rows_pivoted old after f r row l h others =
    set_of_same [] after (map f old) r row (l ∙ sym (length-map old f)) (omega arith)
    (λ i inside other. let within : i < length old = omega arith in others i within other
    ∙ sym (get_or-map f old i [] [] within))

pub constants_pivoted : (ess : List (List ℚ)) (ks after : List ℚ) (c r : ℕ) (n : ℚ) → length ess
    ≡ length ks → length after ≡ length ks → r < length ks
    → ((i : ℕ) → i < length ess → i ≢ r → get_or after i zero_ℚ ≡ get_or ks i zero_ℚ
    +ℚ get_or (get_or ess i []) c zero_ℚ *ℚ n) → set after r n
    ≡ set (eliminated_constants ess ks c n) r n
constants_pivoted ess ks after c r n l m h others =
    set_of_same zero_ℚ after (eliminated_constants ess ks c n) r n (m
    ∙ sym (length-eliminated_constants ess ks c n l)) (omega arith)
    (λ i inside other. let within : i < length ess = omega arith in others i within other
    ∙ sym (get_or-eliminated_constants ess ks c n i within l))
