use Rattle.std.proofs.Common.{◌+◌, ◌*◌, map, sum, take}
use Rattle.std.specs.List.{flat_map}
use Rattle.esc_term.specs.Formula.{terms_of}
use Rattle.esc_node_terms.proofs.FormulaSize.{formula_size}
use Rattle.esc_sharing.specs.SharingUndo.{part_carried}
use Rattle.esc_outcome.specs.JamLaws.{shared_in}
use Rattle.esc_play.specs.WalkingInside.{Brings, Walks, sides_in}
use Rattle.esc_play.proofs.walk.+add_formula.Given as goal

abbrev pub decreases-add_formula : goal.decreases-add_formula
decreases-add_formula g l = 2 * formula_size l.formula.now

abbrev pub decreases-add_formulas : goal.decreases-add_formulas
decreases-add_formulas g l = 1 + 2 * sum (map formula_size l.formulas.now)

abbrev pub invariant-add_formulas-formulas : goal.invariant-add_formulas-formulas
invariant-add_formulas-formulas g l = record {
  brings : Brings (shared_in l.fn.sharing) (shared_in l.sharing) l.fn.numbers.items l.numbers.items
      (flat_map terms_of (take l.formula-index l.formulas))
      (flat_map sides_in (take l.formula-index l.formulas));
  walks : Walks (part_carried g.R.CarriesNodes.carried_node g.R.CarriesGroups.carried_group
      g.R.CarriesShare.carried_share g.R.Carries.carried) l.fn.trail.records l.trail.records
      l.fn.sharing l.sharing;
}
