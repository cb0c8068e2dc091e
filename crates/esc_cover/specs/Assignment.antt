-- Assignments: a fraction for each term that arithmetic does not look into, and what orders and
-- classes ask of it.
use Rattle.std.specs.Prelude.{◌≡◌, ℕ, ◌<◌, ℤ, pos, ◌+ℤ◌, ◌-ℤ◌, ◌*ℤ◌, ◌≤ℤ◌, Bool, true, false, IsTrue, if◌then◌else◌, List, [], ◌∷◌, map}
use Rattle.std.specs.List.{All, Contains}
use Rattle.esc_term.specs.declared.term.Term.{Term}
use Rattle.esc_term.specs.declared.formula.Formula.{Formula}
use Rattle.esc_term.specs.declared.formula.Formula.TheOpen.{Formula-F}
use Rattle.esc_term.specs.declared.formula.Formula.TheViews.{out-Formula}
use Rattle.esc_term.specs.declared.formula.Quant.{Quant}
use Rattle.esc_term.specs.declared.formula.Item.{Item}
use Rattle.esc_term.specs.Interpretation.{sum_of}
use Rattle.esc_term.specs.Term.{firsts, subterms}
use Rattle.esc_linear.specs.Lin.{Lin, lin}

-- One denominator, and a whole number for each term: the term stands for this over the denominator.
-- Only what it gives to terms that arithmetic does not look into plays a role.
pub record Assignment : Type 0 where
  pub denominator : ℕ
  pub positive : 0 < denominator
  pub numerator : Term → ℤ

-- ---- values, which are to be read over the denominator

-- that of a linear meaning in which no other terms stand than these, each once
abbrev pub lin_value : Assignment → List Term → Lin → ℤ
lin_value v terms L = pos v.denominator *ℤ L.constant
    +ℤ sum_of (map (λ o. L.coefficient o *ℤ v.numerator o) terms)

unfoldable pub value : Assignment → Term → ℤ
value v t = lin_value v (firsts (subterms t)) (lin t)

-- ---- gaps, which are asked not to be negative

-- one term less another, and less 1 where it is strict
pub record Gap : Type 0 where
  pub upper : Term
  pub lower : Term
  pub strict : Bool

abbrev pub gap : Term → Term → Bool → Gap
gap s t strict = record { upper = s; lower = t; strict = strict }

abbrev pub gap_value : Assignment → Gap → ℤ
gap_value v g = value v g.upper -ℤ value v g.lower
    -ℤ (if g.strict then pos v.denominator else pos 0)

-- none of the gaps is negative
abbrev pub NoneNegative : Assignment → List Gap → Type 0
NoneNegative v gaps = All (λ g. pos 0 ≤ℤ gap_value v g) gaps

-- ---- what literals and classes ask

-- s is less than t where t - s - 1 is not negative, and it is not less where s - t is not negative
abbrev pub asked_form : Formula-F Formula Quant → Bool → List Gap
asked_form (Formula-F.Less s t) true = gap t s true ∷ []
asked_form (Formula-F.Less s t) false = gap s t false ∷ []
asked_form form positive = []

-- the gaps of which a literal asks it
abbrev pub asked : Item → List Gap
asked item = asked_form (out-Formula item.formula) item.positive

-- each order among the literals holds or fails, as its sign says
abbrev pub Satisfies : Assignment → List Item → Type 0
Satisfies v literals = All (λ item. NoneNegative v (asked item)) literals

-- arithmetic terms that belong together have one value
abbrev pub Agrees : Assignment → List Term → (Term → Term → Bool) → Type 0
Agrees v numbers same = (s t : Term) → Contains numbers s → Contains numbers t → IsTrue (same s t)
    → value v s ≡ value v t

-- the assignment does what the literals and the classes ask
pub record Suits (literals : List Item) (numbers : List Term) (same : Term → Term → Bool)
    (v : Assignment) : Type 0 where
  pub satisfies : Satisfies v literals
  pub agrees : Agrees v numbers same
