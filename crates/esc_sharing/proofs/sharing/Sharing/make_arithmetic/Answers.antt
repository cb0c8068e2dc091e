use Rattle.std.proofs.Common.{[], ◌++◌, refl, sym, subst, ◌∙◌, arith}
use Rattle.std.specs.List.{All, Contains}
use Rattle.std.proofs.lemmas.List.{append-nil}
use Rattle.std.proofs.lemmas.List.Elements.{All-nil}
use Rattle.esc_trail.proofs.Noting.{notes_both}
use Rattle.esc_egraph.specs.Graph.{number_of}
use Rattle.esc_sharing.specs.AddingInside.{WereKnown}
use Rattle.esc_sharing.specs.Calls.{terms_at}
use Rattle.esc_sharing.specs.KnownInside.{AreKnownBy}
use Rattle.esc_sharing.specs.Numbers.{IsNumber, number_terms}
use Rattle.esc_sharing.specs.Shared.{seen}
use Rattle.esc_sharing.specs.SharingUndo.{part_carried, sharing_lawful, sharing_undo}
use Rattle.esc_sharing.proofs.AddedNumbers.{holds_ok, made_wider, stop_wider, terms_then}
use Rattle.esc_sharing.proofs.GrownNumbers.{known_before, numbers_shared, numbers_unsettled}
use Rattle.esc_sharing.proofs.SharingNotes.{made_both, tells_nothing, theory_notes}
use Rattle.esc_sharing.proofs.ToldPairs.{all_underway}
use Rattle.esc_sharing.proofs.ToldSharing.{ends_err}
use Rattle.esc_sharing.proofs.Whole.{unsettled_fewer}
use Rattle.esc_sharing.proofs.sharing.Sharing.make_arithmetic.Goals as goal

-- ---- a node stops it

pub returns-in_err-add_numbers-clause-ends : goal.returns-in_err-add_numbers-clause-ends
returns-in_err-add_numbers-clause-ends g c =
    ends_err _ _ c.from_residual.result c.from_residual.ensures.0
    (all_underway _ (WereKnown (g.T.Theory.numbers c.args.self.now.theory)
    (number_of c.args.self.now.graph)) (numbers_unsettled (seen g.T.Theory.sound g.T.Theory.admits g.T.Theory.numbers c.args.self.now)
    c.requires.shared (g.T.Theory.numbers c.add_numbers.new.theory)
    (terms_at c.args.self.now.graph c.args.nodes.now)
    (g.T.Theory.admits c.add_numbers.new.theory) (g.T.Theory.sound c.add_numbers.new.theory)
    c.add_numbers.ensures.sound c.add_numbers.ensures.of c.add_numbers.ensures.numbers
    c.add_numbers.ensures.admits))

pub returns-in_err-add_numbers-clause-keeps : goal.returns-in_err-add_numbers-clause-keeps
returns-in_err-add_numbers-clause-keeps g c = record {
  sound = c.add_numbers.ensures.sound;
  made = c.add_numbers.ensures.made;
  asserted = refl;
  groups = refl;
  told = tells_nothing c.args.self.now.told;
  nodes = refl;
}

pub returns-in_err-add_numbers-clause-undo : goal.returns-in_err-add_numbers-clause-undo
returns-in_err-add_numbers-clause-undo g c =
    theory_notes g.T.Undoable.undo g.met.T.Undoable.lawful
    g.R.CarriesNodes.carried_node g.R.CarriesGroups.carried_group g.R.CarriesShare.carried_share
    g.R.Carries.carried
    c.args.self.now c.args.trail.now.records c.add_numbers.new.trail.records
    c.args.self.now.theory c.add_numbers.new.theory c.add_numbers.ensures.undo

-- ---- nothing became arithmetic

pub returns-then-number_count-before-clause-ends : goal.returns-then-number_count-before-clause-ends
returns-then-number_count-before-clause-ends g c =
    numbers_shared (seen g.T.Theory.sound g.T.Theory.admits g.T.Theory.numbers c.args.self.now)
    c.requires.shared (g.T.Theory.numbers c.add_numbers.new.theory)
    (terms_at c.args.self.now.graph c.args.nodes.now)
    (g.T.Theory.admits c.add_numbers.new.theory) (g.T.Theory.sound c.add_numbers.new.theory)
    c.add_numbers.ensures.sound c.add_numbers.ensures.of c.add_numbers.ensures.numbers
    c.add_numbers.ensures.admits (omega arith)

pub returns-then-number_count-before-clause-keeps : goal.returns-then-number_count-before-clause-keeps
returns-then-number_count-before-clause-keeps g c = record {
  sound = c.add_numbers.ensures.sound;
  made = c.add_numbers.ensures.made;
  asserted = refl;
  groups = refl;
  told = tells_nothing c.args.self.now.told;
  nodes = refl;
}

pub returns-then-number_count-before-clause-undo : goal.returns-then-number_count-before-clause-undo
returns-then-number_count-before-clause-undo g c =
    theory_notes g.T.Undoable.undo g.met.T.Undoable.lawful
    g.R.CarriesNodes.carried_node g.R.CarriesGroups.carried_group g.R.CarriesShare.carried_share
    g.R.Carries.carried
    c.args.self.now c.args.trail.now.records c.add_numbers.new.trail.records
    c.args.self.now.theory c.add_numbers.new.theory c.add_numbers.ensures.undo

-- ---- all is told

pub settle-requires-clause-unsettled : goal.settle-requires-clause-unsettled
settle-requires-clause-unsettled g c =
    unsettled_fewer _ (WereKnown (g.T.Theory.numbers c.args.self.now.theory)
    (number_of c.args.self.now.graph)) _
    (known_before (g.T.Theory.numbers c.args.self.now.theory)
    (g.T.Theory.numbers c.add_numbers.new.theory)
    (terms_at c.args.self.now.graph c.args.nodes.now) (number_of c.args.self.now.graph)
    c.add_numbers.ensures.numbers c.number_count-before.result c.number_count-before.ensures _
    (λ a b h. c.in-Ok.ensures.known a b
    (subst (λ known. AreKnownBy known a b) c.deref_mut.ensures.value h)))
    (numbers_unsettled (seen g.T.Theory.sound g.T.Theory.admits g.T.Theory.numbers c.args.self.now)
    c.requires.shared (g.T.Theory.numbers c.add_numbers.new.theory)
    (terms_at c.args.self.now.graph c.args.nodes.now)
    (g.T.Theory.admits c.add_numbers.new.theory) (g.T.Theory.sound c.add_numbers.new.theory)
    c.add_numbers.ensures.sound c.add_numbers.ensures.of c.add_numbers.ensures.numbers
    c.add_numbers.ensures.admits)

pub returns-clause-all : goal.returns-clause-all
returns-clause-all g c =
    holds_ok c.settle.result
    (subst (λ ns. All (IsNumber ns) c.args.nodes.now) (sym c.settle.ensures.keeps.numbers)
    c.in_ok-add_numbers.ensures.all)

pub returns-clause-keeps : goal.returns-clause-keeps
returns-clause-keeps g c = record {
  sound = c.settle.ensures.keeps.sound;
  made = made_both (g.T.Theory.made c.args.self.now.theory)
      (g.T.Theory.made c.add_numbers.new.theory) (g.T.Theory.made c.settle.new.self.theory)
      (number_terms (g.T.Theory.numbers c.args.self.now.theory)
      ++ terms_at c.args.self.now.graph c.args.nodes.now) c.add_numbers.ensures.made
      (made_wider (g.T.Theory.made c.add_numbers.new.theory)
      (g.T.Theory.made c.settle.new.self.theory)
      (number_terms (g.T.Theory.numbers c.add_numbers.new.theory))
      (number_terms (g.T.Theory.numbers c.args.self.now.theory)
      ++ terms_at c.args.self.now.graph c.args.nodes.now)
      (terms_then (g.T.Theory.numbers c.args.self.now.theory)
      (g.T.Theory.numbers c.add_numbers.new.theory)
      (terms_at c.args.self.now.graph c.args.nodes.now) c.add_numbers.ensures.numbers) c.settle.ensures.keeps.made);
  asserted = c.settle.ensures.keeps.asserted ∙ append-nil c.args.self.now.asserted;
  groups = c.settle.ensures.keeps.groups ∙ append-nil c.args.self.now.groups;
  told = c.settle.ensures.keeps.told;
  nodes = c.settle.ensures.keeps.nodes;
}

pub returns-clause-stop : goal.returns-clause-stop
returns-clause-stop g c =
    stop_wider g.T.Theory.barred g.met.T.Theory.barred_by_more c.settle.new.self.theory []
    (terms_at c.args.self.now.graph c.args.nodes.now)
    (number_terms (g.T.Theory.numbers c.add_numbers.new.theory))
    (number_terms (g.T.Theory.numbers c.args.self.now.theory)
    ++ terms_at c.args.self.now.graph c.args.nodes.now) (All-nil (Contains (terms_at c.args.self.now.graph c.args.nodes.now)))
    (terms_then (g.T.Theory.numbers c.args.self.now.theory)
    (g.T.Theory.numbers c.add_numbers.new.theory)
    (terms_at c.args.self.now.graph c.args.nodes.now) c.add_numbers.ensures.numbers) c.settle.result c.settle.ensures.stop

pub returns-clause-undo : goal.returns-clause-undo
returns-clause-undo g c =
    notes_both (sharing_undo g.T.Undoable.undo)
    (sharing_lawful g.T.Undoable.undo g.met.T.Undoable.lawful)
    (part_carried g.R.CarriesNodes.carried_node g.R.CarriesGroups.carried_group
    g.R.CarriesShare.carried_share g.R.Carries.carried) c.args.trail.now.records
    c.add_numbers.new.trail.records c.settle.new.trail.records c.args.self.now
    (record c.args.self.now { theory = c.add_numbers.new.theory }) c.settle.new.self
    (theory_notes g.T.Undoable.undo g.met.T.Undoable.lawful
    g.R.CarriesNodes.carried_node g.R.CarriesGroups.carried_group g.R.CarriesShare.carried_share
    g.R.Carries.carried
    c.args.self.now c.args.trail.now.records c.add_numbers.new.trail.records
    c.args.self.now.theory c.add_numbers.new.theory c.add_numbers.ensures.undo) c.settle.ensures.keeps.undo

-- ---- memory is wanting

pub returns-in_default-clause-keeps : goal.returns-in_default-clause-keeps
returns-in_default-clause-keeps g c = record {
  sound = c.add_numbers.ensures.sound;
  made = c.add_numbers.ensures.made;
  asserted = refl;
  groups = refl;
  told = tells_nothing c.args.self.now.told;
  nodes = refl;
}

pub returns-in_default-clause-undo : goal.returns-in_default-clause-undo
returns-in_default-clause-undo g c =
    theory_notes g.T.Undoable.undo g.met.T.Undoable.lawful
    g.R.CarriesNodes.carried_node g.R.CarriesGroups.carried_group g.R.CarriesShare.carried_share
    g.R.Carries.carried
    c.args.self.now c.args.trail.now.records c.add_numbers.new.trail.records
    c.args.self.now.theory c.add_numbers.new.theory c.add_numbers.ensures.undo
