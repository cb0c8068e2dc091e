-- The literals of quantified items.
use Rattle.std.specs.Prelude.{◌≡◌, ◌<◌, Some, List, length, slice_get}
use Rattle.std.specs.Option.{option_and_then}
use Rattle.esc_term.specs.declared.formula.Item.{Item}
use Rattle.esc_fact.specs.declared.base.Base.{Base}
use Rattle.esc_rounds.specs.Branch.{formula_kept}
use Rattle.esc_rounds.specs.declared.kept.Kept.{Kept}
use Rattle.esc_rounds.specs.declared.kept.Literal.{Literal}

-- the literal has the sign of the item, and its formula is kept at the place
abbrev pub IsKeptLiteral : Base → List Kept → Item → Literal → Type 0
IsKeptLiteral base kept item literal =
    (option_and_then (formula_kept base) (slice_get kept literal.formula) ≡ Some item.formula)
    × (literal.holds ≡ item.positive) × (literal.formula < length kept)
