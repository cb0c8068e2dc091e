-- What expands to a literal.
use Rattle.std.proofs.Common.{◌≡◌, Bool, true, false, List, [], Some, None, Option, refl}
use Rattle.std.specs.Option.{IsSomeAnd, option_map_or}
use Rattle.esc_term.specs.declared.formula.Formula.{Formula}
use Rattle.esc_term.specs.declared.formula.Formula.TheOpen.{Formula-F}
use Rattle.esc_term.specs.declared.formula.Formula.TheViews.{out-Formula}
use Rattle.esc_term.specs.declared.formula.Quant.{Quant}
use Rattle.esc_clause.specs.Expansion.{AllOf, Literal, expanded, expanded_form}
use Rattle.esc_clause.specs.Occurrences.{formula_at}
use Rattle.esc_clause.specs.declared.occurrence.Occurrence.{Occurrence}
use Rattle.esc_book.specs.Atom.{IsAtomAt, is_atom_form}

literal_form : (at : Occurrence) (form : Formula-F Formula Quant) (positive : Bool)
    → expanded_form at form positive ≡ Literal → is_atom_form form ≡ true
literal_form at Formula-F.True true e = cc
literal_form at Formula-F.True false e = cc
literal_form at Formula-F.False true e = cc
literal_form at Formula-F.False false e = cc
literal_form at (Formula-F.And parts) true e = cc
literal_form at (Formula-F.And parts) false e = cc
literal_form at (Formula-F.Or parts) true e = cc
literal_form at (Formula-F.Or parts) false e = cc
literal_form at (Formula-F.Not part) positive e = cc
literal_form at (Formula-F.Implies left right) true e = cc
literal_form at (Formula-F.Implies left right) false e = cc
literal_form at (Formula-F.Iff left right) true e = cc
literal_form at (Formula-F.Iff left right) false e = cc
literal_form at (Formula-F.Distinct ts) positive e = refl
literal_form at (Formula-F.LabelPos name part) positive e = cc
literal_form at (Formula-F.LabelNeg name part) positive e = cc
literal_form at (Formula-F.Forall quant) positive e = refl
literal_form at (Formula-F.Exists quant) positive e = refl
literal_form at (Formula-F.Eq s t) positive e = refl
literal_form at (Formula-F.Less s t) positive e = refl

pub literal-atom : (fs : List Formula) (at : Occurrence) → expanded fs at ≡ Literal → IsAtomAt fs at
literal-atom fs at e = found (formula_at fs at) e
  where
    found : (o : Option Formula)
        → option_map_or (λ f. expanded_form at (out-Formula f) at.positive) o (AllOf []) ≡ Literal
        → IsSomeAnd o (λ f. is_atom_form (out-Formula f) ≡ true)
    found None e = cc
    found (Some f) e = literal_form at (out-Formula f) at.positive e
