use Rattle.std.proofs.Common.{take}
use Rattle.std.specs.List.{AllZip, filter}
use Rattle.esc_rounds.specs.Branch.{is_quantified}
use Rattle.esc_standing.specs.Literals.{IsKeptLiteral}
use Rattle.esc_standing.proofs.literals.literals_of.Given as goal

abbrev pub invariant-items : goal.invariant-items
invariant-items l =
    AllZip (IsKeptLiteral l.base l.formulas.kept)
    (filter is_quantified (take l.item-index l.items)) l.literals
