-- What orders and equalities ask of terms that come to numbers.
use Rattle.std.proofs.Common.{◌≡◌, ◌≢◌, ℕ, ℤ, pos, ◌+ℤ◌, ◌-ℤ◌, ◌*ℤ◌, ◌≤ℤ◌, Bool, true, false}
use Rattle.std.proofs.Common.{if◌then◌else◌, [], ◌∷◌, refl, sym, ap, ◌∙◌, subst, arith}
use Rattle.std.specs.Prelude.{◌↔◌, Ok}
use Rattle.std.proofs.lemmas.Int.{ints}
use Rattle.std.proofs.lemmas.List.Elements.{All-nil, All-cons, All-head, All-tail}
use Rattle.esc_term.specs.declared.term.Term.{Term}
use Rattle.esc_frac.specs.Integers.{*ℤ_cancel, *ℤ-≤ℤ, *ℤ-≤ℤ_cancel, +ℤ-*ℤ}
use Rattle.esc_cover.specs.Assignment.{Assignment, Gap, NoneNegative, gap, gap_value, value}
use Rattle.esc_egraph.specs.declared.state.State.{State}
use Rattle.esc_egraph.specs.declared.state.State.TheVariants.{Open, Closed}
use Rattle.esc_sharing.specs.Admitted.{RestrictEnds, both_gaps}
use Rattle.sharing_cases.specs.ConstantTerms.{IsWorth}

-- each assignment is admitted
abbrev pub Every : Assignment → Type 0
Every x = Unit {0}

zero_assignment : Assignment
zero_assignment = record { denominator = 1; positive = omega arith; numerator = λ t. pos 0 }

abbrev IsNotNegative : Assignment → Gap → Type 0
IsNotNegative x g = pos 0 ≤ℤ gap_value x g

-- ---- one gap

above : (a b c : ℤ) → (b +ℤ c) ≤ℤ a → pos 0 ≤ℤ (a -ℤ b -ℤ c)
above a b c h = omega (arith, ints, h)

from_above : (a b c : ℤ) → pos 0 ≤ℤ (a -ℤ b -ℤ c) → (b +ℤ c) ≤ℤ a
from_above a b c h = omega (arith, ints, h)

itself : (a b : ℤ) → a ≡ b → pos 0 ≤ℤ (a -ℤ b -ℤ pos 0)
itself a b e = omega (arith, ints, e)

both : (a b : ℤ) → pos 0 ≤ℤ (a -ℤ b -ℤ pos 0) → pos 0 ≤ℤ (b -ℤ a -ℤ pos 0) → a ≡ b
both a b h k = omega (arith, ints, h, k)

abbrev pub unit_of : Bool → ℤ
unit_of strict = if strict then pos 1 else pos 0

unit_times : (d : ℕ) (strict : Bool)
    → unit_of strict *ℤ pos d ≡ (if strict then pos d else pos 0)
unit_times d true = omega (arith, ints)
unit_times d false = omega (arith, ints)

module _ (s t : Term) (n m : ℤ) (first : IsWorth s n) (second : IsWorth t m) where
  module _ (x : Assignment) (strict : Bool) where
    abbrev d : ℕ
    d = x.denominator

    lower_is : (m +ℤ unit_of strict) *ℤ pos d
        ≡ value x t +ℤ (if strict then pos d else pos 0)
    lower_is = +ℤ-*ℤ m (unit_of strict) (pos d)
        ∙ (ap (λ z. m *ℤ pos d +ℤ z) (unit_times d strict)
        ∙ ap (λ z. z +ℤ (if strict then pos d else pos 0)) (sym (second x)))

    not_negative : (m +ℤ unit_of strict) ≤ℤ n → IsNotNegative x (gap s t strict)
    not_negative h = above (value x s) (value x t) (if strict then pos d else pos 0)
        (subst (λ z. z ≤ℤ value x s) lower_is
        (subst (λ z. ((m +ℤ unit_of strict) *ℤ pos d) ≤ℤ z) (sym (first x))
        (*ℤ-≤ℤ (m +ℤ unit_of strict) n d h)))

    from_not_negative : IsNotNegative x (gap s t strict) → (m +ℤ unit_of strict) ≤ℤ n
    from_not_negative h = *ℤ-≤ℤ_cancel (m +ℤ unit_of strict) n d x.positive
        (subst (λ z. ((m +ℤ unit_of strict) *ℤ pos d) ≤ℤ z) (first x)
        (subst (λ z. z ≤ℤ value x s) (sym lower_is)
        (from_above (value x s) (value x t) (if strict then pos d else pos 0) h)))

  pub restricts : (strict : Bool) (state : State)
      → (state ≡ Open) ↔ ((m +ℤ unit_of strict) ≤ℤ n)
      → RestrictEnds Every Every (gap s t strict ∷ []) (Ok state)
  restricts strict Open decides = (
    λ x. ((λ u. (tt, none x)), (λ h. tt)),
    (zero_assignment, tt, none zero_assignment),
  )
    where
      none : (x : Assignment) → NoneNegative x (gap s t strict ∷ [])
      none x = All-cons (IsNotNegative x) (gap s t strict) []
          (not_negative x strict (decides.0 refl)) (All-nil (IsNotNegative x))
  restricts strict Closed decides = (
    (0, λ x. ((λ u. (tt, All-nil (IsNotNegative x))), (λ h. tt))),
    λ x old none. closed (decides.1 (from_not_negative x strict
        (All-head (IsNotNegative x) (gap s t strict) [] none))),
  )
    where
      closed : Closed ≡ Open → ⊥
      closed e = absurd (cc)

  -- ---- both gaps

  pub same_value : n ≡ m → (x : Assignment) → value x s ≡ value x t
  same_value e x = first x ∙ (ap (λ z. z *ℤ pos x.denominator) e ∙ sym (second x))

  pub from_same_value : (x : Assignment) → value x s ≡ value x t → n ≡ m
  from_same_value x e = *ℤ_cancel n m x.denominator x.positive (sym (first x) ∙ (e ∙ second x))

  pub told_open : n ≡ m → RestrictEnds Every Every (both_gaps (s, t)) (Ok Open)
  told_open e = (λ x. ((λ u. (tt, none x)), (λ h. tt)), (zero_assignment, tt, none zero_assignment))
    where
      forth : (x : Assignment) → IsNotNegative x (gap s t false)
      forth x = itself (value x s) (value x t) (same_value e x)

      none : (x : Assignment) → NoneNegative x (both_gaps (s, t))
      none x = All-cons (IsNotNegative x) (gap s t false) (gap t s false ∷ []) (forth x)
          (All-cons (IsNotNegative x) (gap t s false) []
          (itself (value x t) (value x s) (sym (same_value e x))) (All-nil (IsNotNegative x)))

  pub told_closed : n ≢ m → RestrictEnds Every Every (both_gaps (s, t)) (Ok Closed)
  told_closed apart = (
    (0, λ x. ((λ u. (tt, All-nil (IsNotNegative x))), (λ h. tt))),
    λ x old none. apart (from_same_value x (both (value x s) (value x t)
        (All-head (IsNotNegative x) (gap s t false) (gap t s false ∷ []) none)
        (All-head (IsNotNegative x) (gap t s false) []
        (All-tail (IsNotNegative x) (gap s t false) (gap t s false ∷ []) none)))),
  )

-- ---- nothing is asked

pub unrestricted : RestrictEnds Every Every [] (Ok Open)
unrestricted = (
  λ x. ((λ u. (tt, All-nil (IsNotNegative x))), (λ h. tt)),
  (zero_assignment, tt, All-nil (IsNotNegative zero_assignment)),
)
