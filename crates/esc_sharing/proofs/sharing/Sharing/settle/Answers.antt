use Rattle.std.proofs.Common.{length, [], ap, subst, sym, ◌∙◌, arith}
use Rattle.std.specs.Prelude.{Ok}
use Rattle.esc_egraph.specs.Graph.{Graph}
use Rattle.esc_egraph.proofs.Counting.{fewer_merges}
use Rattle.esc_sharing.specs.Admitted.{NextEnds}
use Rattle.esc_sharing.specs.KnownInside.{AreKnownBy, AreLabeled}
use Rattle.esc_sharing.specs.SettlingInside.{IsUnsettled}
use Rattle.esc_sharing.specs.Calls.{StepEnds}
use Rattle.esc_sharing.specs.Shared.{seen}
use Rattle.esc_sharing.proofs.Labels.{labeled_still}
use Rattle.esc_sharing.proofs.Settling.{asked_keeps, asked_shared, asked_two, asked_unsettled}
use Rattle.esc_sharing.proofs.SharingNotes.{keeps_nothing, keeps_then}
use Rattle.esc_sharing.proofs.ToldPairs.{all_underway}
use Rattle.esc_sharing.proofs.ToldSharing.{ends_err}
use Rattle.esc_sharing.proofs.sharing.Sharing.settle.Goals as goal

pub rounds-init : goal.rounds-init
rounds-init g c = record {
  unsettled = c.requires.unsettled;
  labeled = c.requires.labeled;
  keeps = keeps_nothing g.T.Undoable.undo g.met.T.Undoable.lawful
      g.R.CarriesNodes.carried_node g.R.CarriesGroups.carried_group
      g.R.CarriesShare.carried_share g.R.Carries.carried g.T.Theory.sound
      g.T.Theory.numbers g.T.Theory.made c.args.trail.now.records c.args.self.now
      c.requires.unsettled.parts.sound;
}

pub returns-in_err-tell_all-clause-keeps : goal.returns-in_err-tell_all-clause-keeps
returns-in_err-tell_all-clause-keeps g c =
    keeps_then g.T.Undoable.undo g.met.T.Undoable.lawful g.R.CarriesNodes.carried_node
    g.R.CarriesGroups.carried_group g.R.CarriesShare.carried_share g.R.Carries.carried
    g.T.Theory.sound g.T.Theory.numbers g.T.Theory.made [] [] c.args.trail.now.records
    c.rounds.trail.records c.tell_all.new.trail.records c.args.self.now c.rounds.self
    c.tell_all.new.self c.rounds.invariant.keeps c.tell_all.ensures.keeps

pub returns-in-Closed-clause-keeps : goal.returns-in-Closed-clause-keeps
returns-in-Closed-clause-keeps g c =
    keeps_then g.T.Undoable.undo g.met.T.Undoable.lawful g.R.CarriesNodes.carried_node
    g.R.CarriesGroups.carried_group g.R.CarriesShare.carried_share g.R.Carries.carried
    g.T.Theory.sound g.T.Theory.numbers g.T.Theory.made [] [] c.args.trail.now.records
    c.rounds.trail.records c.tell_all.new.trail.records c.args.self.now c.rounds.self
    c.tell_all.new.self c.rounds.invariant.keeps c.tell_all.ensures.keeps

pub returns-in_err-found-clause-ends : goal.returns-in_err-found-clause-ends
returns-in_err-found-clause-ends g c =
    ends_err _ _ c.from_residual-in_err-found.result c.from_residual-in_err-found.ensures.0
    (all_underway _ (AreKnownBy c.tell_all.new.known)
    (asked_unsettled g.T.Undoable.undo g.met.T.Undoable.lawful g.T.Theory.sound
    g.T.Theory.admits g.T.Theory.numbers g.met.T.Theory.same_admits
    g.met.T.Theory.same_numbers c.tell_all.new.self c.next_equal.new.self
    c.next_equal.ensures.same (AreKnownBy c.tell_all.new.known)
    (subst (StepEnds _ _) (c.in_ok-tell_all.was ∙ ap Ok c.in-Open.is) c.tell_all.ensures.ends)
    c.next_equal.ensures.sound))

pub returns-in_err-found-clause-keeps : goal.returns-in_err-found-clause-keeps
returns-in_err-found-clause-keeps g c =
    keeps_then g.T.Undoable.undo g.met.T.Undoable.lawful g.R.CarriesNodes.carried_node
    g.R.CarriesGroups.carried_group g.R.CarriesShare.carried_share g.R.Carries.carried
    g.T.Theory.sound g.T.Theory.numbers g.T.Theory.made [] [] c.args.trail.now.records
    c.tell_all.new.trail.records c.tell_all.new.trail.records c.args.self.now
    c.tell_all.new.self (record c.tell_all.new.self { theory = c.next_equal.new.self })
    (keeps_then g.T.Undoable.undo g.met.T.Undoable.lawful g.R.CarriesNodes.carried_node
    g.R.CarriesGroups.carried_group g.R.CarriesShare.carried_share g.R.Carries.carried
    g.T.Theory.sound g.T.Theory.numbers g.T.Theory.made [] [] c.args.trail.now.records
    c.rounds.trail.records c.tell_all.new.trail.records c.args.self.now c.rounds.self
    c.tell_all.new.self c.rounds.invariant.keeps c.tell_all.ensures.keeps)
    (asked_keeps g.T.Undoable.undo g.met.T.Undoable.lawful g.T.Theory.sound g.T.Theory.admits
    g.T.Theory.numbers g.met.T.Theory.same_admits g.met.T.Theory.same_numbers
    c.tell_all.new.self c.next_equal.new.self c.next_equal.ensures.same
    g.R.CarriesNodes.carried_node g.R.CarriesGroups.carried_group
    g.R.CarriesShare.carried_share g.R.Carries.carried g.T.Theory.made
    c.tell_all.new.trail.records c.next_equal.ensures.sound c.next_equal.ensures.made)

pub returns-in_default-clause-ends : goal.returns-in_default-clause-ends
returns-in_default-clause-ends g c =
    let answer = c.in_ok-tell_all.was ∙ ap Ok c.in-Open.is in
    asked_shared g.T.Undoable.undo g.met.T.Undoable.lawful g.T.Theory.sound
    g.T.Theory.admits g.T.Theory.numbers g.met.T.Theory.same_admits
    g.met.T.Theory.same_numbers c.tell_all.new.self c.next_equal.new.self
    c.next_equal.ensures.same (AreKnownBy c.tell_all.new.known)
    (subst (StepEnds _ _) answer c.tell_all.ensures.ends) c.next_equal.ensures.sound
    (c.tell_all.ensures.agree answer)
    (subst (NextEnds c.tell_all.new.self.graph (g.T.Theory.numbers c.tell_all.new.self.theory)
    (g.T.Theory.admits c.tell_all.new.self.theory))
    (c.in_ok-found.was ∙ ap Ok c.in_default.is) c.next_equal.ensures.ends)

pub returns-in_default-clause-keeps : goal.returns-in_default-clause-keeps
returns-in_default-clause-keeps g c =
    keeps_then g.T.Undoable.undo g.met.T.Undoable.lawful g.R.CarriesNodes.carried_node
    g.R.CarriesGroups.carried_group g.R.CarriesShare.carried_share g.R.Carries.carried
    g.T.Theory.sound g.T.Theory.numbers g.T.Theory.made [] [] c.args.trail.now.records
    c.tell_all.new.trail.records c.tell_all.new.trail.records c.args.self.now
    c.tell_all.new.self (record c.tell_all.new.self { theory = c.next_equal.new.self })
    (keeps_then g.T.Undoable.undo g.met.T.Undoable.lawful g.R.CarriesNodes.carried_node
    g.R.CarriesGroups.carried_group g.R.CarriesShare.carried_share g.R.Carries.carried
    g.T.Theory.sound g.T.Theory.numbers g.T.Theory.made [] [] c.args.trail.now.records
    c.rounds.trail.records c.tell_all.new.trail.records c.args.self.now c.rounds.self
    c.tell_all.new.self c.rounds.invariant.keeps c.tell_all.ensures.keeps)
    (asked_keeps g.T.Undoable.undo g.met.T.Undoable.lawful g.T.Theory.sound g.T.Theory.admits
    g.T.Theory.numbers g.met.T.Theory.same_admits g.met.T.Theory.same_numbers
    c.tell_all.new.self c.next_equal.new.self c.next_equal.ensures.same
    g.R.CarriesNodes.carried_node g.R.CarriesGroups.carried_group
    g.R.CarriesShare.carried_share g.R.Carries.carried g.T.Theory.made
    c.tell_all.new.trail.records c.next_equal.ensures.sound c.next_equal.ensures.made)

pub join-requires-clause-unsettled : goal.join-requires-clause-unsettled
join-requires-clause-unsettled g c =
    asked_unsettled g.T.Undoable.undo g.met.T.Undoable.lawful g.T.Theory.sound
    g.T.Theory.admits g.T.Theory.numbers g.met.T.Theory.same_admits
    g.met.T.Theory.same_numbers c.tell_all.new.self c.next_equal.new.self
    c.next_equal.ensures.same (AreKnownBy c.tell_all.new.known)
    (subst (StepEnds _ _) (c.in_ok-tell_all.was ∙ ap Ok c.in-Open.is) c.tell_all.ensures.ends)
    c.next_equal.ensures.sound

pub join-requires-clause-two : goal.join-requires-clause-two
join-requires-clause-two g c =
    asked_two g.T.Undoable.undo g.met.T.Undoable.lawful g.T.Theory.sound
    g.T.Theory.admits g.T.Theory.numbers g.met.T.Theory.same_admits
    g.met.T.Theory.same_numbers c.tell_all.new.self c.next_equal.new.self
    c.next_equal.ensures.same c.in-Some.pair.0 c.in-Some.pair.1
    (subst (NextEnds c.tell_all.new.self.graph (g.T.Theory.numbers c.tell_all.new.self.theory)
    (g.T.Theory.admits c.tell_all.new.self.theory))
    (c.in_ok-found.was ∙ ap Ok c.in-Some.is) c.next_equal.ensures.ends).0

pub returns-in_err-join-clause-keeps : goal.returns-in_err-join-clause-keeps
returns-in_err-join-clause-keeps g c =
    keeps_then g.T.Undoable.undo g.met.T.Undoable.lawful g.R.CarriesNodes.carried_node
    g.R.CarriesGroups.carried_group g.R.CarriesShare.carried_share g.R.Carries.carried
    g.T.Theory.sound g.T.Theory.numbers g.T.Theory.made [] [] c.args.trail.now.records
    c.tell_all.new.trail.records c.join.new.trail.records c.args.self.now
    (record c.tell_all.new.self { theory = c.next_equal.new.self }) c.join.new.self
    (keeps_then g.T.Undoable.undo g.met.T.Undoable.lawful g.R.CarriesNodes.carried_node
    g.R.CarriesGroups.carried_group g.R.CarriesShare.carried_share g.R.Carries.carried
    g.T.Theory.sound g.T.Theory.numbers g.T.Theory.made [] [] c.args.trail.now.records
    c.tell_all.new.trail.records c.tell_all.new.trail.records c.args.self.now
    c.tell_all.new.self (record c.tell_all.new.self { theory = c.next_equal.new.self })
    (keeps_then g.T.Undoable.undo g.met.T.Undoable.lawful g.R.CarriesNodes.carried_node
    g.R.CarriesGroups.carried_group g.R.CarriesShare.carried_share g.R.Carries.carried
    g.T.Theory.sound g.T.Theory.numbers g.T.Theory.made [] [] c.args.trail.now.records
    c.rounds.trail.records c.tell_all.new.trail.records c.args.self.now c.rounds.self
    c.tell_all.new.self c.rounds.invariant.keeps c.tell_all.ensures.keeps)
    (asked_keeps g.T.Undoable.undo g.met.T.Undoable.lawful g.T.Theory.sound g.T.Theory.admits
    g.T.Theory.numbers g.met.T.Theory.same_admits g.met.T.Theory.same_numbers
    c.tell_all.new.self c.next_equal.new.self c.next_equal.ensures.same
    g.R.CarriesNodes.carried_node g.R.CarriesGroups.carried_group
    g.R.CarriesShare.carried_share g.R.Carries.carried g.T.Theory.made
    c.tell_all.new.trail.records c.next_equal.ensures.sound c.next_equal.ensures.made))
    c.join.ensures.keeps

pub rounds-smaller : goal.rounds-smaller
rounds-smaller g c =
    let answer = c.in_ok-join.was ∙ ap Ok c.in-Open-2.is in
    let now : IsUnsettled (seen g.T.Theory.sound g.T.Theory.admits g.T.Theory.numbers
    c.join.new.self) (AreKnownBy c.join.new.known) =
    subst (StepEnds _ _) answer c.join.ensures.ends in
    let bound = fewer_merges (length c.join.new.self.graph.nodes) c.join.new.self.graph.merges
    now.parts.graph.merged in
    let fewer = c.join.ensures.fewer answer in
    let same = c.join.ensures.keeps.nodes in
    let nodes = ap (λ (h : Graph). length h.nodes) c.tell_all.ensures.graph in
    let merges = ap (λ (h : Graph). length h.merges) c.tell_all.ensures.graph in
    omega (arith, bound, fewer, ap length same, nodes, merges)

pub rounds-preserved : goal.rounds-preserved
rounds-preserved g c =
    let answer = c.in_ok-join.was ∙ ap Ok c.in-Open-2.is in
    record {
      unsettled = subst (StepEnds _ _) answer c.join.ensures.ends;
      labeled = subst (λ ns. AreLabeled ns c.join.new.known)
          (sym (c.join.ensures.keeps.numbers
          ∙ (sym (g.met.T.Theory.same_numbers c.tell_all.new.self.theory c.next_equal.new.self
          c.next_equal.ensures.same) ∙ c.tell_all.ensures.keeps.numbers)))
          (labeled_still (g.T.Theory.numbers c.rounds.self.theory) c.rounds.known
          c.join.new.known (c.join.ensures.nodes ∙ c.tell_all.ensures.more.nodes)
          c.rounds.invariant.labeled);
      keeps = keeps_then g.T.Undoable.undo g.met.T.Undoable.lawful g.R.CarriesNodes.carried_node
          g.R.CarriesGroups.carried_group g.R.CarriesShare.carried_share g.R.Carries.carried
          g.T.Theory.sound g.T.Theory.numbers g.T.Theory.made [] [] c.args.trail.now.records
          c.tell_all.new.trail.records c.join.new.trail.records c.args.self.now
          (record c.tell_all.new.self { theory = c.next_equal.new.self }) c.join.new.self
          (keeps_then g.T.Undoable.undo g.met.T.Undoable.lawful g.R.CarriesNodes.carried_node
          g.R.CarriesGroups.carried_group g.R.CarriesShare.carried_share g.R.Carries.carried
          g.T.Theory.sound g.T.Theory.numbers g.T.Theory.made [] [] c.args.trail.now.records
          c.tell_all.new.trail.records c.tell_all.new.trail.records c.args.self.now
          c.tell_all.new.self (record c.tell_all.new.self { theory = c.next_equal.new.self })
          (keeps_then g.T.Undoable.undo g.met.T.Undoable.lawful g.R.CarriesNodes.carried_node
          g.R.CarriesGroups.carried_group g.R.CarriesShare.carried_share g.R.Carries.carried
          g.T.Theory.sound g.T.Theory.numbers g.T.Theory.made [] [] c.args.trail.now.records
          c.rounds.trail.records c.tell_all.new.trail.records c.args.self.now c.rounds.self
          c.tell_all.new.self c.rounds.invariant.keeps c.tell_all.ensures.keeps)
          (asked_keeps g.T.Undoable.undo g.met.T.Undoable.lawful g.T.Theory.sound g.T.Theory.admits
          g.T.Theory.numbers g.met.T.Theory.same_admits g.met.T.Theory.same_numbers
          c.tell_all.new.self c.next_equal.new.self c.next_equal.ensures.same
          g.R.CarriesNodes.carried_node g.R.CarriesGroups.carried_group
          g.R.CarriesShare.carried_share g.R.Carries.carried g.T.Theory.made
          c.tell_all.new.trail.records c.next_equal.ensures.sound c.next_equal.ensures.made))
          c.join.ensures.keeps;
    }

pub returns-in-Closed-2-clause-keeps : goal.returns-in-Closed-2-clause-keeps
returns-in-Closed-2-clause-keeps g c =
    keeps_then g.T.Undoable.undo g.met.T.Undoable.lawful g.R.CarriesNodes.carried_node
    g.R.CarriesGroups.carried_group g.R.CarriesShare.carried_share g.R.Carries.carried
    g.T.Theory.sound g.T.Theory.numbers g.T.Theory.made [] [] c.args.trail.now.records
    c.tell_all.new.trail.records c.join.new.trail.records c.args.self.now
    (record c.tell_all.new.self { theory = c.next_equal.new.self }) c.join.new.self
    (keeps_then g.T.Undoable.undo g.met.T.Undoable.lawful g.R.CarriesNodes.carried_node
    g.R.CarriesGroups.carried_group g.R.CarriesShare.carried_share g.R.Carries.carried
    g.T.Theory.sound g.T.Theory.numbers g.T.Theory.made [] [] c.args.trail.now.records
    c.tell_all.new.trail.records c.tell_all.new.trail.records c.args.self.now
    c.tell_all.new.self (record c.tell_all.new.self { theory = c.next_equal.new.self })
    (keeps_then g.T.Undoable.undo g.met.T.Undoable.lawful g.R.CarriesNodes.carried_node
    g.R.CarriesGroups.carried_group g.R.CarriesShare.carried_share g.R.Carries.carried
    g.T.Theory.sound g.T.Theory.numbers g.T.Theory.made [] [] c.args.trail.now.records
    c.rounds.trail.records c.tell_all.new.trail.records c.args.self.now c.rounds.self
    c.tell_all.new.self c.rounds.invariant.keeps c.tell_all.ensures.keeps)
    (asked_keeps g.T.Undoable.undo g.met.T.Undoable.lawful g.T.Theory.sound g.T.Theory.admits
    g.T.Theory.numbers g.met.T.Theory.same_admits g.met.T.Theory.same_numbers
    c.tell_all.new.self c.next_equal.new.self c.next_equal.ensures.same
    g.R.CarriesNodes.carried_node g.R.CarriesGroups.carried_group
    g.R.CarriesShare.carried_share g.R.Carries.carried g.T.Theory.made
    c.tell_all.new.trail.records c.next_equal.ensures.sound c.next_equal.ensures.made))
    c.join.ensures.keeps
