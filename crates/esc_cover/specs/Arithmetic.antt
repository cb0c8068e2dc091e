-- Which of the terms in play are arithmetic.
use Rattle.std.specs.Prelude.{Bool, true, false, ◌||◌, List, [], ◌∷◌}
use Rattle.std.specs.List.{filter, flat_map}
use Rattle.esc_term.specs.declared.term.Head.TheVariants.{Add, Sub, Mul}
use Rattle.esc_term.specs.declared.term.Term.{Term}
use Rattle.esc_term.specs.declared.term.Term.TheOpen.{Term-F}
use Rattle.esc_term.specs.declared.term.Term.TheViews.{out-Term}
use Rattle.esc_term.specs.declared.formula.Formula.{Formula}
use Rattle.esc_term.specs.declared.formula.Formula.TheOpen.{Formula-F}
use Rattle.esc_term.specs.declared.formula.Formula.TheViews.{out-Formula}
use Rattle.esc_term.specs.declared.formula.Quant.{Quant}
use Rattle.esc_cover.specs.Atoms.{atoms_of}
use Rattle.esc_cover.specs.Classes.{active_terms, has}

-- ---- in a list of terms that has each subterm of its terms

-- a numeral, a sum, a difference or a product
abbrev pub is_number_form : Term-F Term → Bool
is_number_form (Term-F.Num n) = true
is_number_form (Term-F.Var k) = false
is_number_form (Term-F.App Add args) = true
is_number_form (Term-F.App Sub args) = true
is_number_form (Term-F.App Mul args) = true
is_number_form (Term-F.App head args) = false

abbrev pub is_number : Term → Bool
is_number t = is_number_form (out-Term t)

-- what a sum, a difference or a product is made of
abbrev pub operands_form : Term-F Term → List Term
operands_form (Term-F.App Add args) = args
operands_form (Term-F.App Sub args) = args
operands_form (Term-F.App Mul args) = args
operands_form form = []

-- the arguments of the sums, differences and products among the terms
abbrev pub operands : List Term → List Term
operands terms = flat_map (λ t. operands_form (out-Term t)) terms

-- a number form, or an argument of one among the terms
abbrev pub is_arithmetic_in : List Term → Term → Bool
is_arithmetic_in terms t = is_number t || has (operands terms) t

-- ---- in formulas

abbrev pub order_sides_form : Formula-F Formula Quant → List Term
order_sides_form (Formula-F.Less s t) = s ∷ t ∷ []
order_sides_form form = []

-- the sides of the orders in the formulas, outside quantified ones
abbrev pub order_sides : List Formula → List Term
order_sides fs = flat_map (λ atom. order_sides_form (out-Formula atom)) (flat_map atoms_of fs)

-- a number form, an argument of one in play, or a side of an order
abbrev pub is_arithmetic : List Formula → Term → Bool
is_arithmetic fs t = is_arithmetic_in (active_terms fs) t || has (order_sides fs) t

-- ---- terms in play, and which of them are arithmetic

pub record InPlay : Type 0 where
  pub terms : List Term
  pub numbers : List Term

abbrev pub play_of : List Formula → InPlay
play_of fs = record {
  terms = active_terms fs;
  numbers = filter (is_arithmetic fs) (active_terms fs);
}

-- where arithmetic plays no role
abbrev pub without_numbers : List Term → InPlay
without_numbers terms = record { terms = terms; numbers = [] }
