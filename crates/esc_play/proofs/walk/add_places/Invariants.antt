use Rattle.std.proofs.Common.{[], take}
use Rattle.std.specs.List.{flat_map}
use Rattle.esc_term.specs.Term.{subterms}
use Rattle.esc_sharing.specs.SharingUndo.{part_carried}
use Rattle.esc_outcome.specs.JamLaws.{shared_in}
use Rattle.esc_play.specs.WalkingInside.{Brings, Walks}
use Rattle.esc_play.proofs.walk.add_places.Given as goal

abbrev pub invariant-terms : goal.invariant-terms
invariant-terms g l = record {
  brings : Brings (shared_in l.fn.sharing) (shared_in l.sharing) l.fn.numbers.items l.numbers.items
      (flat_map subterms (take l.term-index l.terms)) [];
  walks : Walks (part_carried g.R.CarriesNodes.carried_node g.R.CarriesGroups.carried_group
      g.R.CarriesShare.carried_share g.R.Carries.carried) l.fn.trail.records l.trail.records
      l.fn.sharing l.sharing;
}
