-- The variables in terms.
use Rattle.std.specs.Prelude.{ℕ, zero, suc, ◌-◌, ◌==◌, Bool, true, false, ◌&&◌, ◌||◌, nat_le, List}
use Rattle.std.specs.Prelude.{[], ◌∷◌}
use Rattle.std.specs.List.{flat_map, list_all, list_any}
use Rattle.esc_term.specs.declared.term.Head.{Head}
use Rattle.esc_term.specs.declared.term.Head.TheVariants.{Name, Skolem, Add, Sub, Mul}
use Rattle.esc_term.specs.declared.term.Term.{Term}
use Rattle.esc_term.specs.declared.term.Term.TheVariants as term
use Rattle.esc_term.specs.declared.term.Term.TheOpen.{Term-F}
use Rattle.esc_term.specs.declared.term.Term.TheFolds.{fold-Term}

abbrev pub variables_step : Term-F (List ℕ) → List ℕ
variables_step (Term-F.Num n) = []
variables_step (Term-F.Var k) = k ∷ []
variables_step (Term-F.App head args) = flat_map (λ variables. variables) args

-- the variables of a term, from the front
unfoldable pub variables_of : Term → List ℕ
variables_of = fold-Term (List ℕ) variables_step

abbrev pub has_number : List ℕ → ℕ → Bool
has_number ns n = list_any (λ m. m == n) ns

-- each number below this one stands in the list
unfoldable pub has_all_below : ℕ → List ℕ → Bool
has_all_below zero ns = true
has_all_below (suc n) ns = has_number ns n && has_all_below n ns

-- the terms hold all variables of a quantifier with so many
abbrev pub holds_all : ℕ → List Term → Bool
holds_all count terms = has_all_below count (flat_map variables_of terms)

-- ---- seen from outside

-- the term holds none of the first variables, which are bound inside
abbrev pub is_clear : ℕ → Term → Bool
is_clear depth t = list_all (nat_le depth) (variables_of t)

abbrev pub lowered_step : ℕ → Term-F Term → Term
lowered_step depth (Term-F.Num n) = term.Num n
lowered_step depth (Term-F.Var k) = term.Var (k - depth)
lowered_step depth (Term-F.App head args) = term.App head args

-- a term that is clear of the first variables, as it reads outside their quantifiers
unfoldable pub lowered : ℕ → Term → Term
lowered depth = fold-Term Term (lowered_step depth)

-- ---- sums, differences, products

abbrev pub is_sum_head : Head → Bool
is_sum_head (Name f) = false
is_sum_head (Skolem n i) = false
is_sum_head Add = true
is_sum_head Sub = true
is_sum_head Mul = true

abbrev pub calculates_step : Term-F Bool → Bool
calculates_step (Term-F.Num n) = false
calculates_step (Term-F.Var k) = false
calculates_step (Term-F.App head args) =
    is_sum_head head || list_any (λ calculates. calculates) args

-- a sum, difference or product stands in the term
unfoldable pub calculates : Term → Bool
calculates = fold-Term Bool calculates_step
