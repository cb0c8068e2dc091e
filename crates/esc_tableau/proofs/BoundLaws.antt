-- The least ratio so far, and the loops that look for an answer.
use Rattle.std.proofs.Common.{◌≡◌, ℕ, ◌+◌, ◌<◌, Bool, true, false, Option, Some, None, refl, sym, ap, ◌∙◌, subst, arith, below_more, add-one}
use Rattle.std.specs.Option.{is_some, option_map}
use Rattle.std.specs.Ordering.{is_lt}
use Rattle.std.proofs.lemmas.Bool.{cond-true, cond-false}
use Rattle.esc_frac.specs.Fits.{QuotientFits, ComparisonFits}
use Rattle.esc_frac.specs.Rational.{cmp_ℚ}
use Rattle.esc_tableau.specs.Table.{Table, row_constant, entry}
use Rattle.esc_tableau.specs.Rule.{absolute, first, or_next, bounding, ratio, lesser, least}
use Rattle.esc_tableau.specs.Run.{RatioFits, RatiosFit}
use Rattle.esc_tableau.specs.BoundInside.{bound, bound_of, BoundFits, better, LeavingJams}
use Rattle.esc_tableau.specs.declared.rule.Bound.{Bound}
use Rattle.esc_tableau.specs.declared.rule.Move.{Move}
use Rattle.esc_tableau.proofs.RuleLaws.{first_found}

-- ---- the first number that has an answer

pub found_is_first : {X : Type 0} (f : ℕ → Option X) (i n : ℕ) (o : Option X) → first f i ≡ None → o
    ≡ f i → is_some o ≡ true → i < n → o ≡ first f n
found_is_first f i n None none here some below = cc
found_is_first f i n (Some x) none here some below = sym (first_found f i n x none (sym here) below)

pub first_more : {X : Type 0} (f : ℕ → Option X) (i : ℕ) (o : Option X) → first f i ≡ None → o ≡ f i
    → is_some o ≡ false → first f (i + 1) ≡ None
first_more f i None none here last = ap (first f) (add-one i) ∙ ap (λ x. or_next x (f i)) none
    ∙ sym here
first_more f i (Some x) none here last = cc

-- ---- the least ratio

module _ (t : Table) (m : Move) where
  pub bound_fits : (w r : ℕ) (o : Option ℕ) → least t m w ≡ o → RatioFits t m w r
      → BoundFits (bound_of t m o) (ratio t m r)
  bound_fits w r None e fits = tt
  bound_fits w r (Some b) e fits = fits.order b e

  pub fits_bound : (w r : ℕ) (o : Option ℕ) → least t m w ≡ o
      → BoundFits (bound_of t m o) (ratio t m r) → (b : ℕ) → least t m w ≡ Some b
      → ComparisonFits (ratio t m r) (ratio t m b)
  fits_bound w r None e fits b d = cc
  fits_bound w r (Some x) e fits b d = subst (λ (k : ℕ). ComparisonFits (ratio t m r) (ratio t m k))
      (ap number_in (sym e ∙ d)) fits
    where
      number_in : Option ℕ → ℕ
      number_in None = 0
      number_in (Some n) = n

  better_is : (o : Option ℕ) (r : ℕ) → Some (better (bound_of t m o) r (ratio t m r))
      ≡ bound_of t m (lesser t m o (Some r))
  better_is None r = refl
  better_is (Some b) r = go (is_lt (cmp_ℚ (ratio t m r) (ratio t m b))) refl
    where
      go : (x : Bool) → is_lt (cmp_ℚ (ratio t m r) (ratio t m b)) ≡ x
          → Some (better (bound_of t m (Some b)) r (ratio t m r))
          ≡ bound_of t m (lesser t m (Some b) (Some r))
      go true e =
          ap Some (cond-true _ (bound r (ratio t m r)) (bound b (ratio t m b)) e)
          ∙ ap (bound_of t m) (sym (cond-true _ (Some r) (Some b) e))
      go false e =
          ap Some (cond-false _ (bound r (ratio t m r)) (bound b (ratio t m b)) e)
          ∙ ap (bound_of t m) (sym (cond-false _ (Some r) (Some b) e))

  -- what the loop keeps
  pub record LeastSoFar (best : Option Bound) (n : ℕ) : Type 0 where
    pub is : best ≡ bound_of t m (least t m n)
    pub fits : RatiosFit t m n

  pub so_far_starts : LeastSoFar None 0
  so_far_starts = record { is = refl; fits = λ w r below. absurd (omega arith) }

  pub so_far_past : (best : Option Bound) (n : ℕ) → LeastSoFar best n → bounding t m n ≡ None
      → LeastSoFar best (n + 1)
  so_far_past best n h none = record {
    is = h.is ∙ ap (bound_of t m) (sym (ap (least t m) (add-one n)
        ∙ ap (lesser t m (least t m n)) none ∙ unchanged (least t m n)));
    fits = λ w r below. below_more (λ k. (x : ℕ) → bounding t m k ≡ Some x → RatioFits t m k x) n
        (λ k less x. h.fits k x less) (λ x e. cc) w below r;
  }
    where
      unchanged : (o : Option ℕ) → lesser t m o None ≡ o
      unchanged None = refl
      unchanged (Some b) = refl

  pub so_far_more : (best : Option Bound) (n r : ℕ) (x : Bound) → LeastSoFar best n → bounding t m n
      ≡ Some r → QuotientFits (row_constant t r) (absolute (entry t r m.column))
      × BoundFits best (ratio t m r) → x ≡ better best r (ratio t m r) → LeastSoFar (Some x) (n + 1)
  so_far_more best n r x h some fits is = record {
    is = ap Some (is ∙ ap (λ b. better b r (ratio t m r)) h.is) ∙ better_is (least t m n) r
        ∙ ap (bound_of t m) (sym (ap (least t m) (add-one n) ∙ ap (lesser t m (least t m n)) some));
    fits = λ w k below. below_more (λ j. (x : ℕ) → bounding t m j ≡ Some x → RatioFits t m j x) n
        (λ j less x. h.fits j x less) (λ x e. subst (RatioFits t m n) (ap number_in (sym some ∙ e))
        own) w below k;
  }
    where
      number_in : Option ℕ → ℕ
      number_in None = 0
      number_in (Some k) = k

      own : RatioFits t m n r
      own = record {
        division = fits.0;
        order = fits_bound n r (least t m n) refl
            (subst (λ b. BoundFits b (ratio t m r)) h.is fits.1);
      }

  pub so_far_jams : (best : Option Bound) (n r : ℕ) → LeastSoFar best n → bounding t m n ≡ Some r
      → ¬ (QuotientFits (row_constant t r) (absolute (entry t r m.column))
      × BoundFits best (ratio t m r)) → LeavingJams t m n
  so_far_jams best n r h some not_fits = record {
    row = r;
    bounds = some;
    before = h.fits;
    jams = λ fits. not_fits (
      fits.division,
      subst (λ b. BoundFits b (ratio t m r)) (sym h.is)
          (bound_fits n r (least t m n) refl fits),
    );
  }

  pub row_of_best : (o : Option ℕ) → option_map (λ (b : Bound). b.row) (bound_of t m o) ≡ o
  row_of_best None = refl
  row_of_best (Some r) = refl
