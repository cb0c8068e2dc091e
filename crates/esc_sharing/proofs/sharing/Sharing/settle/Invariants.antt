use Rattle.std.proofs.Common.{◌-◌, [], length}
use Rattle.esc_sharing.specs.KnownInside.{AreKnownBy, AreLabeled}
use Rattle.esc_sharing.specs.SettlingInside.{IsUnsettled, Keeps}
use Rattle.esc_sharing.specs.Shared.{seen}
use Rattle.esc_sharing.specs.SharingUndo.{part_carried}
use Rattle.esc_sharing.proofs.sharing.Sharing.settle.Given as goal

abbrev pub invariant-rounds : goal.invariant-rounds
invariant-rounds g l = record {
  unsettled : IsUnsettled (seen g.T.Theory.sound g.T.Theory.admits g.T.Theory.numbers l.self)
      (AreKnownBy l.known);
  labeled : AreLabeled (g.T.Theory.numbers l.self.theory) l.known;
  keeps : Keeps g.T.Undoable.undo (part_carried g.R.CarriesNodes.carried_node
      g.R.CarriesGroups.carried_group g.R.CarriesShare.carried_share g.R.Carries.carried)
      g.T.Theory.sound g.T.Theory.numbers g.T.Theory.made [] [] l.fn.trail.records
      l.trail.records l.fn.self l.self;
}

abbrev pub decreases-rounds : goal.decreases-rounds
decreases-rounds g l = length l.self.graph.nodes - length l.self.graph.merges
