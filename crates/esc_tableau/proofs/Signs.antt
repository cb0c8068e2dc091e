-- How far a row's owner moves with a column's unknown, by signs.
use Rattle.std.proofs.Common.{◌≡◌, ◌≢◌, Bool, true, false, pos, refl, sym, ap, ◌∙◌, subst, arith}
use Rattle.std.proofs.lemmas.Int.{ints}
use Rattle.esc_frac.specs.Rational.{ℚ, zero_ℚ, one_ℚ, ◌+ℚ◌, neg_ℚ, ◌*ℚ◌, inverse_ℚ, ◌/ℚ◌, ◌≤ℚ◌}
use Rattle.esc_frac.specs.RationalLaws.{zero_from_num}
use Rattle.esc_frac.specs.Sign.{sign_of}
use Rattle.esc_frac.specs.declared.frac.Sign.{Sign}
use Rattle.esc_frac.specs.declared.frac.Sign.TheVariants.{Negative, Zero, Positive as Above}
use Rattle.esc_frac.proofs.FieldLaws.{+ℚ_comm, +ℚ-zero, +ℚ-neg_ℚ, neg_ℚ_unique, *ℚ_comm, *ℚ_assoc, *ℚ-one, *ℚ-+ℚ, neg_ℚ-*ℚ, *ℚ-inverse_ℚ}
use Rattle.esc_frac.proofs.OrderLaws.{≤ℚ-+ℚ, zero-≤ℚ}
use Rattle.esc_rows.proofs.SolvedLaws.{*ℚ-neg_ℚ}
use Rattle.esc_tableau.specs.Rule.{absolute, with_sign, is_against}
use Rattle.esc_tableau.proofs.Orders.{sign_above, sign_negative, sign_zero, negative_nonnegative, product_nonnegative}

pub neg_neg : (p : ℚ) → neg_ℚ (neg_ℚ p) ≡ p
neg_neg p = sym (neg_ℚ_unique (neg_ℚ p) p (+ℚ_comm (neg_ℚ p) p ∙ +ℚ-neg_ℚ p))

-- the number, or its negative where the move is down
abbrev pub push : Bool → ℚ → ℚ
push true e = e
push false e = neg_ℚ e

pub push-*ℚ : (up : Bool) (e d : ℚ) → e *ℚ push up d ≡ push up e *ℚ d
push-*ℚ true e d = refl
push-*ℚ false e d = *ℚ-neg_ℚ e d ∙ sym (neg_ℚ-*ℚ e d)

-- which does not fall is not pushed down
pub push_nonnegative : (up : Bool) (e : ℚ) → is_against up (sign_of e.num) ≡ false
    → zero_ℚ ≤ℚ push up e
push_nonnegative up e h = go up (sign_of e.num) refl h
  where
    go : (up : Bool) (s : Sign) → sign_of e.num ≡ s → is_against up s ≡ false → zero_ℚ ≤ℚ push up e
    go true Negative k h = cc
    go true Zero k h = zero-≤ℚ e (let n = sign_zero e.num k in omega (arith, ints))
    go true Above k h = zero-≤ℚ e (let n = sign_above e.num k in omega (arith, ints))
    go false Negative k h = negative_nonnegative e (let n = sign_negative e.num k
        in omega (arith, ints))
    go false Zero k h = negative_nonnegative e (let n = sign_zero e.num k in omega (arith, ints))
    go false Above k h = cc

pub record Falls (up : Bool) (e : ℚ) : Type 0 where
  pub some : e.num ≢ pos 0
  pub whole : (absolute e).num ≢ pos 0
  pub size : zero_ℚ ≤ℚ absolute e
  pub pushed : push up e ≡ neg_ℚ (absolute e)
  pub inverse : (k : ℚ) → neg_ℚ (k /ℚ e) ≡ push up (k /ℚ absolute e)

-- y is the inverse of x
inverse_unique : (x y : ℚ) → x.num ≢ pos 0 → x *ℚ y ≡ one_ℚ → y ≡ inverse_ℚ x
inverse_unique x y some h =
    sym (*ℚ-one y)
    ∙ ap (λ z. y *ℚ z) (sym (*ℚ-inverse_ℚ x some))
    ∙ sym (*ℚ_assoc y x (inverse_ℚ x))
    ∙ ap (λ z. z *ℚ inverse_ℚ x) (*ℚ_comm y x ∙ h)
    ∙ *ℚ_comm one_ℚ (inverse_ℚ x) ∙ *ℚ-one (inverse_ℚ x)

negative_some : (e : ℚ) → e.num ≢ pos 0 → (neg_ℚ e).num ≢ pos 0
negative_some e some h = some (ap (λ (x : ℚ). x.num) (sym (+ℚ-zero e)
    ∙ ap (λ x. e +ℚ x) (sym (zero_from_num (neg_ℚ e) h)) ∙ +ℚ-neg_ℚ e))

pub falls_signs : (up : Bool) (e : ℚ) → is_against up (sign_of e.num) ≡ true → Falls up e
falls_signs up e h = go up (sign_of e.num) refl h
  where
    go : (up : Bool) (s : Sign) → sign_of e.num ≡ s → is_against up s ≡ true → Falls up e
    go true Negative k h =
        let some : e.num ≢ pos 0 = λ z. let n = sign_negative e.num k in omega (arith, ints) in
        let size : absolute e ≡ neg_ℚ e = ap (with_sign e) k in record {
          some = some;
          whole = subst (λ (x : ℚ). x.num ≢ pos 0) (sym size) (negative_some e some);
          size = subst (λ (x : ℚ). zero_ℚ ≤ℚ x) (sym size)
              (negative_nonnegative e (let n = sign_negative e.num k in omega (arith, ints)));
          pushed = sym (ap neg_ℚ size ∙ neg_neg e);
          inverse = λ n. sym (*ℚ-neg_ℚ n (inverse_ℚ e))
              ∙ ap (λ x. n *ℚ x) (inverse_unique (neg_ℚ e) (neg_ℚ (inverse_ℚ e))
              (negative_some e some) (neg_ℚ-*ℚ e (neg_ℚ (inverse_ℚ e))
              ∙ ap neg_ℚ (*ℚ-neg_ℚ e (inverse_ℚ e)) ∙ neg_neg (e *ℚ inverse_ℚ e)
              ∙ *ℚ-inverse_ℚ e some))
              ∙ ap (λ x. n *ℚ inverse_ℚ x) (sym size);
        }
    go true Zero k h = cc
    go true Above k h = cc
    go false Negative k h = cc
    go false Zero k h = cc
    go false Above k h =
        let some : e.num ≢ pos 0 = λ z. let n = sign_above e.num k in omega (arith, ints) in
        let size : absolute e ≡ e = ap (with_sign e) k in record {
          some = some;
          whole = subst (λ (x : ℚ). x.num ≢ pos 0) (sym size) some;
          size = subst (λ (x : ℚ). zero_ℚ ≤ℚ x) (sym size)
              (zero-≤ℚ e (let n = sign_above e.num k in omega (arith, ints)));
          pushed = ap neg_ℚ (sym size);
          inverse = λ n. ap (λ x. neg_ℚ (n *ℚ inverse_ℚ x)) (sym size);
        }

-- a row with the constant k goes down with d to 0 at most, where d is at most its ratio
pub stays_above : (a k d : ℚ) → a.num ≢ pos 0 → zero_ℚ ≤ℚ a → d ≤ℚ (k /ℚ a) → zero_ℚ ≤ℚ k
    +ℚ neg_ℚ a *ℚ d
stays_above a k d some above least =
    subst (λ (x : ℚ). zero_ℚ ≤ℚ x) same (product_nonnegative a ((k /ℚ a) +ℚ neg_ℚ d) above left)
  where
    left : zero_ℚ ≤ℚ (k /ℚ a) +ℚ neg_ℚ d
    left = subst (λ (x : ℚ). x ≤ℚ (k /ℚ a) +ℚ neg_ℚ d) (+ℚ-neg_ℚ d)
        (≤ℚ-+ℚ d (k /ℚ a) (neg_ℚ d) least)

    whole : a *ℚ (k /ℚ a) ≡ k
    whole =
        ap (λ x. a *ℚ x) (*ℚ_comm k (inverse_ℚ a)) ∙ sym (*ℚ_assoc a (inverse_ℚ a) k)
        ∙ ap (λ x. x *ℚ k) (*ℚ-inverse_ℚ a some) ∙ *ℚ_comm one_ℚ k ∙ *ℚ-one k

    same : a *ℚ ((k /ℚ a) +ℚ neg_ℚ d) ≡ k +ℚ neg_ℚ a *ℚ d
    same = *ℚ-+ℚ a (k /ℚ a) (neg_ℚ d) ∙ ap (λ x. x +ℚ a *ℚ neg_ℚ d) whole
        ∙ ap (λ x. k +ℚ x) (*ℚ-neg_ℚ a d ∙ sym (neg_ℚ-*ℚ a d))
