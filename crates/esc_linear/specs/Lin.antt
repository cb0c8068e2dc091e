-- The linear meaning of a term in whole numbers: a constant, and a coefficient for each term that
-- arithmetic does not look into.
use Rattle.std.specs.Prelude.{Bool, not, nat_lt, if◌then◌else◌, ℤ, pos, ◌+ℤ◌, ◌-ℤ◌, ◌*ℤ◌, neg_ℤ, List, [], ◌∷◌, map, length}
use Rattle.std.specs.List.{filter, list_any}
use Rattle.std.specs.Ordering.{int_eq}
use Rattle.esc_term.specs.declared.term.Head.{Head}
use Rattle.esc_term.specs.declared.term.Head.TheVariants.{Add, Sub, Mul}
use Rattle.esc_term.specs.declared.term.Term.{Term}
use Rattle.esc_term.specs.declared.term.Term.TheVariants as term
use Rattle.esc_term.specs.declared.term.Term.TheOpen.{Term-F}
use Rattle.esc_term.specs.declared.term.Term.TheFolds.{para-Term}
use Rattle.esc_term.specs.Equal.{same_term}
use Rattle.esc_term.specs.Interpretation.{sum_of, product_of}
use Rattle.esc_term.specs.Term.{subterms}

-- a constant, and the coefficient of each term, 0 for all but some subterms
pub record Lin : Type 0 where
  pub constant : ℤ
  pub coefficient : Term → ℤ

abbrev pub number : ℤ → Lin
number n = record { constant = n; coefficient = λ o. pos 0 }

abbrev pub unknown : Term → Lin
unknown t = record { constant = pos 0; coefficient = λ o. if same_term o t then pos 1 else pos 0 }

-- the terms with their meanings of which some coefficient is not 0
abbrev pub varies : Term × Lin → Bool
varies arg = list_any (λ o. not (int_eq (arg.1.coefficient o) (pos 0))) (subterms arg.0)

-- of a product of constants and at most one other: the coefficient of that, times the constants
abbrev pub product_coefficient : List Lin → Term → ℤ
product_coefficient [] o = pos 0
product_coefficient (L ∷ Ls) o = L.coefficient o *ℤ product_of (map (λ (M : Lin). M.constant) Ls) +ℤ
    L.constant *ℤ product_coefficient Ls o

abbrev pub applied_lin : Head → List (Term × Lin) → Lin
applied_lin Add args = record {
  constant = sum_of (map (λ (arg : Term × Lin). arg.1.constant) args);
  coefficient = λ o. sum_of (map (λ (arg : Term × Lin). arg.1.coefficient o) args);
}
applied_lin Sub (s ∷ []) = record {
  constant = neg_ℤ s.1.constant;
  coefficient = λ o. neg_ℤ
      (s.1.coefficient o);
}
applied_lin Sub (s ∷ t ∷ []) = record {
  constant = s.1.constant -ℤ t.1.constant;
  coefficient = λ o.
      s.1.coefficient o -ℤ t.1.coefficient o;
}
applied_lin Mul args = if nat_lt (length (filter varies args)) 2 then record {
  constant = product_of (map (λ (arg : Term × Lin). arg.1.constant) args);
  coefficient = product_coefficient (map (λ (arg : Term × Lin). arg.1) args);
} else unknown (term.App Mul (map (λ (arg : Term × Lin). arg.0) args))
applied_lin head args = unknown (term.App head (map (λ (arg : Term × Lin). arg.0) args))

abbrev pub lin_step : Term-F (Term × Lin) → Lin
lin_step (Term-F.Num n) = number n
lin_step (Term-F.Var k) = unknown (term.Var k)
lin_step (Term-F.App head args) = applied_lin head args

unfoldable pub lin : Term → Lin
lin = para-Term Lin lin_step
