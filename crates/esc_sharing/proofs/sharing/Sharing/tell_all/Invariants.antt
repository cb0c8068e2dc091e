use Rattle.std.proofs.Common.{◌≡◌, []}
use Rattle.esc_sharing.specs.KnownInside.{AreKnownBy, KnowsMore}
use Rattle.esc_sharing.specs.SettlingInside.{IsUnsettled, Keeps}
use Rattle.esc_sharing.specs.Shared.{seen}
use Rattle.esc_sharing.specs.SharingUndo.{part_carried}
use Rattle.esc_sharing.proofs.ToldInOrder.{AreTold}
use Rattle.esc_sharing.proofs.sharing.Sharing.tell_all.Given as goal

abbrev pub invariant-pairs : goal.invariant-pairs
invariant-pairs g l = record {
  unsettled : IsUnsettled (seen g.T.Theory.sound g.T.Theory.admits g.T.Theory.numbers l.self)
      (AreKnownBy l.known);
  told : AreTold l.order.items l.known l.place;
  more : KnowsMore l.fn.known l.known;
  graph : l.self.graph ≡ l.fn.self.graph;
  keeps : Keeps g.T.Undoable.undo (part_carried g.R.CarriesNodes.carried_node
      g.R.CarriesGroups.carried_group g.R.CarriesShare.carried_share g.R.Carries.carried)
      g.T.Theory.sound g.T.Theory.numbers g.T.Theory.made [] [] l.fn.trail.records
      l.trail.records l.fn.self l.self;
}
