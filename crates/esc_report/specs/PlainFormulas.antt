-- Formulas from which nothing is drawn.
use Rattle.std.specs.Prelude.{ℕ, Bool, true, false, not, ◌&&◌, ◌==◌, length}
use Rattle.std.specs.List.{list_all}
use Rattle.esc_term.specs.declared.term.Head.{Head}
use Rattle.esc_term.specs.declared.term.Head.TheVariants.{Name}
use Rattle.esc_term.specs.declared.term.Term.{Term}
use Rattle.esc_term.specs.declared.term.Term.TheOpen.{Term-F}
use Rattle.esc_term.specs.declared.term.Term.TheFolds.{fold-Term}
use Rattle.esc_term.specs.declared.formula.Formula.{Formula}
use Rattle.esc_term.specs.declared.formula.Formula.TheOpen.{Formula-F}
use Rattle.esc_term.specs.declared.formula.Formula.TheFolds.{fold-Formula}

-- no map operation that writes, which is the name 2 with three arguments
abbrev pub is_plain_head : Head → ℕ → Bool
is_plain_head (Name f) count = not ((f.0 == 2) && (count == 3))
is_plain_head _ count = true

abbrev pub plain_term_step : Term-F Bool → Bool
plain_term_step (Term-F.Num n) = true
plain_term_step (Term-F.Var k) = true
plain_term_step (Term-F.App head args) = is_plain_head head (length args)
    && list_all (λ arg. arg) args

-- a term without writes
unfoldable pub is_plain_term : Term → Bool
is_plain_term = fold-Term Bool plain_term_step

abbrev pub plain_formula_step : Formula-F Bool Unit → Bool
plain_formula_step Formula-F.True = true
plain_formula_step Formula-F.False = true
plain_formula_step (Formula-F.And parts) = list_all (λ part. part) parts
plain_formula_step (Formula-F.Or parts) = list_all (λ part. part) parts
plain_formula_step (Formula-F.Not part) = part
plain_formula_step (Formula-F.Implies left right) = left && right
plain_formula_step (Formula-F.Iff left right) = left && right
plain_formula_step (Formula-F.Forall quant) = false
plain_formula_step (Formula-F.Exists quant) = false
plain_formula_step (Formula-F.Eq left right) = is_plain_term left && is_plain_term right
plain_formula_step (Formula-F.Less left right) = is_plain_term left && is_plain_term right
plain_formula_step (Formula-F.Distinct terms) = list_all is_plain_term terms
plain_formula_step (Formula-F.LabelPos name part) = part
plain_formula_step (Formula-F.LabelNeg name part) = part

-- a formula without quantifiers and writes, which is plain
unfoldable pub is_plain_formula : Formula → Bool
is_plain_formula = fold-Formula Bool Unit plain_formula_step (λ quant. tt)
