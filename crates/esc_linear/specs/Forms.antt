-- Linear forms in numbers of any size: sums, differences and products of forms, and the form of a
-- term. The terms of a form stand in the order of their first occurrence, and those with
-- coefficient 0 are dropped.
use Rattle.std.specs.Prelude.{Bool, true, false, not, nat_lt, if◌then◌else◌, List, [], ◌∷◌, map, length}
use Rattle.std.specs.List.{filter, fold}
use Rattle.esc_term.specs.declared.term.Head.{Head}
use Rattle.esc_term.specs.declared.term.Head.TheVariants.{Add, Sub, Mul}
use Rattle.esc_term.specs.declared.term.Term.{Term}
use Rattle.esc_term.specs.declared.term.Term.TheVariants as term
use Rattle.esc_term.specs.declared.term.Term.TheOpen.{Term-F}
use Rattle.esc_term.specs.declared.term.Term.TheFolds.{para-Term}
use Rattle.esc_term.specs.Equal.{same_term}
use Rattle.esc_frac.specs.Rational.{ℚ, whole, zero_ℚ, one_ℚ, is_zero, ◌+ℚ◌, neg_ℚ, ◌*ℚ◌}
use Rattle.esc_linear.specs.declared.form.Form.{Form}
use Rattle.esc_linear.specs.declared.form.Part.{Part}

abbrev pub part : Term → ℚ → Part
part t q = record { term = t; factor = q }

-- the form of a number
abbrev pub constant_form : ℚ → Form
constant_form q = record { parts = []; constant = q }

-- the form of a term that arithmetic does not look into
abbrev pub opaque_form : Term → Form
opaque_form t = record { parts = part t one_ℚ ∷ []; constant = zero_ℚ }

-- ---- sums and differences

-- a part before others, unless its coefficient is 0
abbrev pub with_factor : Term → ℚ → List Part → List Part
with_factor t q ps = if is_zero q then ps else part t q ∷ ps

-- parts with q times the term more: added to its coefficient, or at the end where it is not there
unfoldable pub with_part : List Part → Term → ℚ → List Part
with_part [] t q = with_factor t q []
with_part (p ∷ ps) t q = if same_term p.term t then with_factor t (p.factor +ℚ q) ps else p
    ∷ with_part ps t q

abbrev pub with_one : List Part → Part → List Part
with_one ps q = with_part ps q.term q.factor

-- with each of the others, in their order
abbrev pub with_parts : List Part → List Part → List Part
with_parts = fold with_one

abbrev pub plus : Form → Form → Form
plus a b = record { parts = with_parts a.parts b.parts; constant = a.constant +ℚ b.constant }

abbrev pub negative : Form → Form
negative a = record {
  parts = map (λ (p : Part). part p.term (neg_ℚ p.factor)) a.parts;
  constant
      = neg_ℚ a.constant;
}

abbrev pub less : Form → Form → Form
less a b = plus a (negative b)

-- the sum of forms, from the left
abbrev pub total : List Form → Form
total = fold plus (constant_form zero_ℚ)

-- ---- products

-- whether no term stands in it
unfoldable pub is_constant : List Part → Bool
is_constant [] = true
is_constant (p ∷ ps) = false

abbrev pub varying : List Form → List Form
varying = filter (λ (f : Form). not (is_constant f.parts))

abbrev pub with_constant : ℚ → Form → ℚ
with_constant q f = if is_constant f.parts then q *ℚ f.constant else q

-- the product of the constants among the forms, from the left
abbrev pub factor_of : List Form → ℚ
factor_of = fold with_constant one_ℚ

unfoldable pub scaled_parts : List Part → ℚ → List Part
scaled_parts [] q = []
scaled_parts (p ∷ ps) q = with_factor p.term (p.factor *ℚ q) (scaled_parts ps q)

-- each coefficient and the constant times q
abbrev pub scaled : Form → ℚ → Form
scaled f q = record { parts = scaled_parts f.parts q; constant = f.constant *ℚ q }

-- the first of the forms times q, or q alone
unfoldable pub scaled_first : List Form → ℚ → Form
scaled_first [] q = constant_form q
scaled_first (f ∷ fs) q = scaled f q

-- the product of the forms, or the other form where more than one of them is no constant
abbrev pub times : Form → List Form → Form
times other fs = if nat_lt (length (varying fs)) 2 then scaled_first (varying fs) (factor_of fs)
    else other

-- ---- the form of a term

-- that of an application, by the forms of its arguments; the other form is the one where it is
-- opaque
abbrev pub applied : Head → Form → List Form → Form
applied Add other fs = total fs
applied Sub other (f ∷ []) = less (constant_form zero_ℚ) f
applied Sub other (f ∷ g ∷ []) = less f g
applied Mul other fs = times other fs
applied head other fs = other

abbrev pub form_step : Term-F (Term × Form) → Form
form_step (Term-F.Num n) = constant_form (whole n)
form_step (Term-F.Var k) = opaque_form (term.Var k)
form_step (Term-F.App head args) = applied head (opaque_form
    (term.App head (map (λ arg. arg.0) args))) (map (λ arg. arg.1) args)

unfoldable pub form : Term → Form
form = para-Term Form form_step
