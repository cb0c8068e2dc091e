-- Lists of literals that are the same but for quantified formulas, and terms in play with the same
-- ones among them arithmetic: classes and assignments see no difference.
use Rattle.std.specs.Prelude.{◌≡◌, ◌↔◌, Bool, true, false, List}
use Rattle.std.specs.List.{Contains}
use Rattle.esc_term.specs.declared.term.Term.{Term}
use Rattle.esc_term.specs.declared.formula.Formula.{Formula}
use Rattle.esc_term.specs.declared.formula.Formula.TheOpen.{Formula-F}
use Rattle.esc_term.specs.declared.formula.Formula.TheViews.{out-Formula}
use Rattle.esc_term.specs.declared.formula.Quant.{Quant}
use Rattle.esc_term.specs.declared.formula.Item.{Item}
use Rattle.esc_cover.specs.Arithmetic.{InPlay}

abbrev pub is_quantified_form : Formula-F Formula Quant → Bool
is_quantified_form (Formula-F.Forall quant) = true
is_quantified_form (Formula-F.Exists quant) = true
is_quantified_form form = false

abbrev pub is_quantified : Item → Bool
is_quantified item = is_quantified_form (out-Formula item.formula)

-- each literal that is not quantified stands in both lists or in neither
abbrev pub HaveSameUnquantified : List Item → List Item → Type 0
HaveSameUnquantified literals more = (item : Item) → is_quantified item ≡ false
    → Contains literals item ↔ Contains more item

-- the same terms, in order, and the same ones among them arithmetic, in any order
pub record IsSamePlay (play other : InPlay) : Type 0 where
  pub terms : play.terms ≡ other.terms
  pub numbers : (t : Term) → Contains play.numbers t ↔ Contains other.numbers t
