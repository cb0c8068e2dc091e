-- What the rule chooses.
use Rattle.std.proofs.Common.{◌≡◌, ◌⊎◌, inl, inr, ℕ, zero, suc, ◌<◌, ◌≤◌, Bool, true, false, ◌&&◌, Option, Some, None, length, get_or, nat_lt, refl, sym, ap, ◌∙◌, subst, arith}
use Rattle.std.specs.Ordering.{is_lt}
use Rattle.std.specs.declared.cmp.Ordering.{Ordering}
use Rattle.std.specs.declared.cmp.Ordering.TheVariants.{Less, Equal, Greater}
use Rattle.std.proofs.lemmas.Bool.{cases_lt, ltb-true, lt-ltb, and_parts, cond-true, cond-false}
use Rattle.esc_frac.specs.Rational.{ℚ, ◌≤ℚ◌, ◌<ℚ◌, cmp_ℚ}
use Rattle.esc_frac.specs.Sign.{sign_of}
use Rattle.esc_frac.specs.declared.frac.Sign.{Sign}
use Rattle.esc_frac.specs.declared.frac.Sign.TheVariants.{Negative, Zero, Positive as Above}
use Rattle.esc_frac.proofs.OrderLaws.{≤ℚ_refl, ≤ℚ_trans, ranked_ℚ}
use Rattle.esc_tableau.specs.Table.{Table, nobody, row_of, column_of, OwnsRow, OwnsColumn}
use Rattle.esc_tableau.specs.Rule.{slope, way, improving, or_next, first, falls, bounding, ratio, lesser, least}
use Rattle.esc_tableau.specs.declared.rule.Move.{Move}
use Rattle.esc_tableau.proofs.Orders.{le_from_lt, not_below}

-- ---- the first number that has an answer

pub first_none : {X : Type 0} (f : ℕ → Option X) (n : ℕ) → first f n ≡ None → (k : ℕ) → k < n
    → f k ≡ None
first_none f zero none k below = absurd (omega arith)
first_none {X = X} f (suc n) none k below = go (first f n) refl none (first_none f n) (cases_lt k n)
  where
    go : (o : Option X) → first f n ≡ o → or_next o (f n) ≡ None
        → (first f n ≡ None → (j : ℕ) → j < n → f j ≡ None) → (k < n) ⊎ (n ≤ k) → f k ≡ None
    go None e h ind (inl less) = ind e k less
    go None e h ind (inr more) = let here : k ≡ n = omega arith in ap f here ∙ h
    go (Some y) e h ind less = cc

pub first_some : {X : Type 0} (f : ℕ → Option X) (n : ℕ) (x : X) → first f n ≡ Some x → (i : ℕ)
    × (i < n) × (f i ≡ Some x) × ((k : ℕ) → k < i → f k ≡ None)
first_some f zero x e = cc
first_some {X = X} f (suc n) x e = go (first f n) refl e (first_some f n)
  where
    go : (o : Option X) → first f n ≡ o → or_next o (f n) ≡ Some x
        → ((y : X) → first f n ≡ Some y → (i : ℕ) × (i < n) × (f i ≡ Some y)
        × ((k : ℕ) → k < i → f k ≡ None)) → (i : ℕ) × (i < suc n) × (f i ≡ Some x)
        × ((k : ℕ) → k < i → f k ≡ None)
    go None d h ind = (n, omega arith, h, first_none f n d)
    go (Some y) d h ind = let r = ind x (d ∙ h) in (r.0, omega (arith, r.1), r.2, r.3)

first_stays : {X : Type 0} (f : ℕ → Option X) (m n : ℕ) (x : X) → first f m ≡ Some x → m ≤ n
    → first f n ≡ Some x
first_stays f m zero x e h = let here : m ≡ 0 = omega arith
    in subst (λ (k : ℕ). first f k ≡ Some x) here e
first_stays f m (suc n) x e h = go (cases_lt n m) (first_stays f m n x e)
  where
    go : (n < m) ⊎ (m ≤ n) → (m ≤ n → first f n ≡ Some x) → first f (suc n) ≡ Some x
    go (inl more) ind = let here : m ≡ suc n = omega arith
        in subst (λ (k : ℕ). first f k ≡ Some x) here e
    go (inr less) ind = ap (λ o. or_next o (f n)) (ind less)

pub first_found : {X : Type 0} (f : ℕ → Option X) (i n : ℕ) (x : X) → first f i ≡ None → f i
    ≡ Some x → i < n → first f n ≡ Some x
first_found f i n x none found below = first_stays f (suc i) n x (ap (λ o. or_next o (f i)) none
    ∙ found) (omega arith)

-- ---- the way of a column

pub record Directed (restricted : Bool) (s : Sign) (m : Move) (c : ℕ) : Type 0 where
  pub column : m.column ≡ c
  pub sign : ((s ≡ Above) × (m.up ≡ true)) ⊎ ((s ≡ Negative) × (restricted ≡ false)
      × (m.up ≡ false))

pub way_some : (c : ℕ) (restricted : Bool) (s : Sign) (m : Move) → way c restricted s ≡ Some m
    → Directed restricted s m c
way_some c restricted Zero m e = cc
way_some c restricted Above m e = record {
  column = sym (ap column_in e);
  sign = inl
      (refl, sym (ap up_in e));
}
  where
    column_in : Option Move → ℕ
    column_in None = 0
    column_in (Some n) = n.column

    up_in : Option Move → Bool
    up_in None = false
    up_in (Some n) = n.up
way_some c true Negative m e = cc
way_some c false Negative m e = record {
  column = sym (ap column_in e);
  sign = inr
      (refl, refl, sym (ap up_in e));
}
  where
    column_in : Option Move → ℕ
    column_in None = 0
    column_in (Some n) = n.column

    up_in : Option Move → Bool
    up_in None = true
    up_in (Some n) = n.up

pub way_none : (c : ℕ) (restricted : Bool) (s : Sign) → way c restricted s ≡ None → (s ≡ Zero)
    ⊎ ((s ≡ Negative) × (restricted ≡ true))
way_none c restricted Zero e = inl refl
way_none c restricted Above e = cc
way_none c true Negative e = inr (refl, refl)
way_none c false Negative e = cc

pub record Improves (t : Table) (u w : ℕ) (m : Move) : Type 0 where
  pub owns : OwnsColumn t w
  pub directed : Directed (get_or t.columns (column_of t w) nobody).restricted
      (sign_of (slope t u (column_of t w)).num) m (column_of t w)

pub improving_some : (t : Table) (u w : ℕ) (m : Move) → improving t u w ≡ Some m → Improves t u w m
improving_some t u w m e = go (nat_lt (column_of t w) (length t.columns)) refl e
  where
    go : (b : Bool) → nat_lt (column_of t w) (length t.columns) ≡ b → improving t u w ≡ Some m
        → Improves t u w m
    go true h f = record {
      owns = ltb-true _ _ h;
      directed = way_some _ _ _ m (sym (cond-true _ _ None h) ∙ f);
    }
    go false h f = let none = cond-false _ (way (column_of t w)
        (get_or t.columns (column_of t w) nobody).restricted
        (sign_of (slope t u (column_of t w)).num)) None h in cc

pub improving_none : (t : Table) (u w : ℕ) → OwnsColumn t w → improving t u w ≡ None
    → (sign_of (slope t u (column_of t w)).num ≡ Zero)
    ⊎ ((sign_of (slope t u (column_of t w)).num ≡ Negative)
    × ((get_or t.columns (column_of t w) nobody).restricted ≡ true))
improving_none t u w owns e = way_none (column_of t w) _ _
    (sym (cond-true _ _ None (lt-ltb _ _ owns)) ∙ e)

-- ---- the rows that bound a move

pub record Bounds (t : Table) (m : Move) (w r : ℕ) : Type 0 where
  pub row : r ≡ row_of t w
  pub owns : OwnsRow t w
  pub falls : falls t m r ≡ true

pub bounding_some : (t : Table) (m : Move) (w r : ℕ) → bounding t m w ≡ Some r → Bounds t m w r
bounding_some t m w r e = go (nat_lt (row_of t w) (length t.owners) && falls t m (row_of t w)) refl
  where
    row_in : Option ℕ → ℕ
    row_in None = 0
    row_in (Some n) = n

    go : (b : Bool) → (nat_lt (row_of t w) (length t.owners) && falls t m (row_of t w)) ≡ b
        → Bounds t m w r
    go true h =
        let parts = and_parts _ _ h in
        let here : r ≡ row_of t w = sym (ap row_in (sym (cond-true _ (Some (row_of t w)) None h)
        ∙ e)) in record {
          row = here;
          owns = ltb-true _ _ parts.0;
          falls = subst (λ (k : ℕ). falls t m k ≡ true) (sym here) parts.1;
        }
    go false h = let none = cond-false _ (Some (row_of t w)) None h in cc

pub bounding_row : (t : Table) (m : Move) (w : ℕ) → OwnsRow t w → falls t m (row_of t w) ≡ true
    → bounding t m w ≡ Some (row_of t w)
bounding_row t m w owns down = cond-true _ (Some (row_of t w)) None
    (ap (λ b. b && falls t m (row_of t w)) (lt-ltb _ _ owns) ∙ down)

-- ---- the row of least ratio

record Lesser (t : Table) (m : Move) (best new : Option ℕ) (r : ℕ) : Type 0 where
  pub from : (best ≡ Some r) ⊎ ((new ≡ Some r) × ((b : ℕ) → best ≡ Some b
      → ratio t m r <ℚ ratio t m b))
  pub below_best : (b : ℕ) → best ≡ Some b → ratio t m r ≤ℚ ratio t m b
  pub below_new : (n : ℕ) → new ≡ Some n → ratio t m r ≤ℚ ratio t m n

lesser_some : (t : Table) (m : Move) (best new : Option ℕ) (r : ℕ) → lesser t m best new ≡ Some r
    → Lesser t m best new r
lesser_some t m best new r e = go best new e
  where
    number_in : Option ℕ → ℕ
    number_in None = 0
    number_in (Some n) = n

    same : (x y : ℕ) → Some x ≡ Some y → x ≡ y
    same x y h = ap number_in h

    le_of_same : (x y : ℕ) → Some x ≡ Some y → ratio t m x ≤ℚ ratio t m y
    le_of_same x y h = subst (λ (k : ℕ). ratio t m x ≤ℚ ratio t m k) (same x y h)
        (≤ℚ_refl (ratio t m x))

    less_of : (x y : ℕ) → Some x ≡ Some y → ratio t m r <ℚ ratio t m x → ratio t m r <ℚ ratio t m y
    less_of x y h k = subst (λ (z : ℕ). ratio t m r <ℚ ratio t m z) (same x y h) k

    go : (best new : Option ℕ) → lesser t m best new ≡ Some r → Lesser t m best new r
    go None None h = cc
    go (Some b) None h = record {
      from = inl h;
      below_best = λ x k. le_of_same r x (sym h
          ∙ k);
      below_new = λ x k. cc;
    }
    go None (Some n) h = record {
      from = inr (h, λ b k. cc);
      below_best = λ x k. cc;
      below_new
          = λ x k. le_of_same r x (sym h ∙ k);
    }
    go (Some b) (Some n) h = by_order (cmp_ℚ (ratio t m n) (ratio t m b)) refl
      where
        by_order : (o : Ordering) → o ≡ cmp_ℚ (ratio t m n) (ratio t m b)
            → Lesser t m (Some b) (Some n) r
        by_order Less o =
            let here : Some n ≡ Some r = sym (cond-true (is_lt (cmp_ℚ (ratio t m n) (ratio t m b)))
            (Some n) (Some b) (ap is_lt (sym o))) ∙ h in record {
              from = inr (
                here,
                λ b' k. less_of b b' k
                    (subst (λ (x : ℕ). ratio t m x <ℚ ratio t m b) (same n r here)
                    (ranked_ℚ (ratio t m n) (ratio t m b) Less o)),
              );
              below_best = λ x k. ≤ℚ_trans (ratio t m r) (ratio t m n) (ratio t m x)
                  (le_of_same r n (sym here)) (≤ℚ_trans (ratio t m n) (ratio t m b) (ratio t m x)
                  (le_from_lt (ratio t m n) (ratio t m b)
                  (ranked_ℚ (ratio t m n) (ratio t m b) Less o)) (le_of_same b x k));
              below_new = λ x k. le_of_same r x (sym here ∙ k);
            }
        by_order Equal o =
            let here : Some b ≡ Some r = sym (cond-false (is_lt (cmp_ℚ (ratio t m n) (ratio t m b)))
            (Some n) (Some b) (ap is_lt (sym o))) ∙ h in
            let level : ratio t m n ≡ ratio t m b = ranked_ℚ (ratio t m n) (ratio t m b) Equal o
            in record {
              from = inl here;
              below_best = λ x k. le_of_same r x (sym here ∙ k);
              below_new = λ x k. ≤ℚ_trans (ratio t m r) (ratio t m b) (ratio t m x)
                  (le_of_same r b (sym here)) (subst (λ (q : ℚ). q ≤ℚ ratio t m x) level
                  (le_of_same n x k));
            }
        by_order Greater o =
            let here : Some b ≡ Some r = sym (cond-false (is_lt (cmp_ℚ (ratio t m n) (ratio t m b)))
            (Some n) (Some b) (ap is_lt (sym o))) ∙ h in record {
              from = inl here;
              below_best = λ x k. le_of_same r x (sym here ∙ k);
              below_new = λ x k. ≤ℚ_trans (ratio t m r) (ratio t m b) (ratio t m x)
                  (le_of_same r b (sym here)) (≤ℚ_trans (ratio t m b) (ratio t m n) (ratio t m x)
                  (le_from_lt (ratio t m b) (ratio t m n)
                  (ranked_ℚ (ratio t m n) (ratio t m b) Greater o)) (le_of_same n x k));
            }

lesser_none : (t : Table) (m : Move) (best new : Option ℕ) → lesser t m best new ≡ None
    → (best ≡ None) × (new ≡ None)
lesser_none t m None None e = (refl, refl)
lesser_none t m (Some b) None e = cc
lesser_none t m None (Some n) e = cc
lesser_none t m (Some b) (Some n) e = go (is_lt (cmp_ℚ (ratio t m n) (ratio t m b))) refl
  where
    go : (x : Bool) → is_lt (cmp_ℚ (ratio t m n) (ratio t m b)) ≡ x → (Some b ≡ None)
        × (Some n ≡ None)
    go true h = let some = cond-true (is_lt (cmp_ℚ (ratio t m n) (ratio t m b))) (Some n) (Some b) h
        in cc
    go false h = let some = cond-false (is_lt (cmp_ℚ (ratio t m n) (ratio t m b))) (Some n)
        (Some b) h in cc

pub least_none : (t : Table) (m : Move) (n : ℕ) → least t m n ≡ None → (w : ℕ) → w < n
    → bounding t m w ≡ None
least_none t m zero e w below = absurd (omega arith)
least_none t m (suc n) e w below = go (cases_lt w n)
    (lesser_none t m (least t m n) (bounding t m n) e) (least_none t m n)
  where
    go : (w < n) ⊎ (n ≤ w) → (least t m n ≡ None) × (bounding t m n ≡ None)
        → (least t m n ≡ None → (k : ℕ) → k < n → bounding t m k ≡ None) → bounding t m w ≡ None
    go (inl less) h ind = ind h.0 w less
    go (inr more) h ind = let here : w ≡ n = omega arith in ap (bounding t m) here ∙ h.1

pub record Leaves (t : Table) (m : Move) (n r : ℕ) : Type 0 where
  pub owner : ℕ
  pub below : owner < n
  pub bounds : bounding t m owner ≡ Some r
  pub least : (w x : ℕ) → w < n → bounding t m w ≡ Some x → ratio t m r ≤ℚ ratio t m x
  -- on ties it is the first
  pub first : (w x : ℕ) → w < n → bounding t m w ≡ Some x → ratio t m x ≡ ratio t m r → owner ≤ w

pub least_some : (t : Table) (m : Move) (n r : ℕ) → least t m n ≡ Some r → Leaves t m n r
least_some t m zero r e = cc
least_some t m (suc n) r e = go (least t m n) refl
    (lesser_some t m (least t m n) (bounding t m n) r e) (least_some t m n)
  where
    go : (o : Option ℕ) → least t m n ≡ o → Lesser t m (least t m n) (bounding t m n) r
        → ((b : ℕ) → least t m n ≡ Some b → Leaves t m n b) → Leaves t m (suc n) r
    go o d h ind = from h.from
      where
        every : (w x : ℕ) → w < suc n → bounding t m w ≡ Some x → ratio t m r ≤ℚ ratio t m x
        every w x below at = split (cases_lt w n) o d
          where
            split : (w < n) ⊎ (n ≤ w) → (o : Option ℕ) → least t m n ≡ o
                → ratio t m r ≤ℚ ratio t m x
            split (inl less) None d' = let none = least_none t m n d' w less in cc
            split (inl less) (Some b) d' = ≤ℚ_trans (ratio t m r) (ratio t m b) (ratio t m x)
                (h.below_best b d') ((ind b d').least w x less at)
            split (inr more) o d' = let here : n ≡ w = omega arith
                in h.below_new x (ap (bounding t m) here ∙ at)

        from : (least t m n ≡ Some r) ⊎ ((bounding t m n ≡ Some r)
            × ((b : ℕ) → least t m n ≡ Some b → ratio t m r <ℚ ratio t m b)) → Leaves t m (suc n) r
        from (inl k) =
            let old = ind r k in record {
              owner = old.owner;
              below = omega (arith, old.below);
              bounds = old.bounds;
              least = every;
              first = λ w x below at tie. earlier old w x at tie (cases_lt w n);
            }
          where
            earlier : (old : Leaves t m n r) (w x : ℕ) → bounding t m w ≡ Some x → ratio t m x
                ≡ ratio t m r → (w < n) ⊎ (n ≤ w) → old.owner ≤ w
            earlier old w x at tie (inl less) = old.first w x less at tie
            earlier old w x at tie (inr more) = omega (arith, old.below)
        from (inr k) = record {
          owner = n;
          below = omega arith;
          bounds = k.0;
          least = every;
          first
              = λ w x below at tie. none_before w x at tie o d (cases_lt w n);
        }
          where
            none_before : (w x : ℕ) → bounding t m w ≡ Some x → ratio t m x ≡ ratio t m r
                → (o : Option ℕ) → least t m n ≡ o → (w < n) ⊎ (n ≤ w) → n ≤ w
            none_before w x at tie o d' (inr more) = more
            none_before w x at tie None d' (inl less) = let none = least_none t m n d' w less in cc
            none_before w x at tie (Some b) d' (inl less) =
                absurd (not_below (ratio t m r) (ratio t m b) (k.1 b d')
                (subst (λ (q : ℚ). ratio t m b ≤ℚ q) tie ((ind b d').least w x less at)))
