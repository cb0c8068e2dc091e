use Rattle.std.proofs.Common.{◌≡◌, [], refl, ap, subst, sym, ◌∙◌, arith}
use Rattle.std.specs.Prelude.{Ok}
use Rattle.esc_egraph.specs.Graph.{Graph}
use Rattle.esc_egraph.specs.declared.state.State.TheVariants.{Open}
use Rattle.esc_sharing.specs.KnownInside.{AreLabeled, node_at}
use Rattle.esc_sharing.specs.Calls.{StepEnds}
use Rattle.esc_sharing.specs.Shared.{AreToldIn, seen}
use Rattle.esc_sharing.proofs.SharingNotes.{keeps_nothing, keeps_then}
use Rattle.esc_sharing.proofs.ToldInOrder.{known_there, knows_both, knows_same, telling-done}
use Rattle.esc_sharing.proofs.ToldInOrder.{telling_first, telling_later, telling_pair, told-step}
use Rattle.esc_sharing.proofs.sharing.Sharing.tell_all.Goals as goal

pub telling_order-requires : goal.telling_order-requires
telling_order-requires g c = record {
  nodes = known_there c.args.known.now
      (seen g.T.Theory.sound g.T.Theory.admits g.T.Theory.numbers c.args.self.now)
      c.requires.unsettled.parts.numbers c.requires.labeled;
}

pub pairs-init : goal.pairs-init
pairs-init g c = record {
  unsettled = c.requires.unsettled;
  told = λ k l. absurd (omega (arith, l));
  more = knows_same c.args.known.now;
  graph = refl;
  keeps = keeps_nothing g.T.Undoable.undo g.met.T.Undoable.lawful
      g.R.CarriesNodes.carried_node g.R.CarriesGroups.carried_group
      g.R.CarriesShare.carried_share g.R.Carries.carried g.T.Theory.sound
      g.T.Theory.numbers g.T.Theory.made c.args.trail.now.records c.args.self.now
      c.requires.unsettled.parts.sound;
}

pub tell-requires-clause-first : goal.tell-requires-clause-first
tell-requires-clause-first g c = telling_first c.args.self.now.graph c.args.known.now c.in-Ok.order.items c.in-Ok.ensures
    (g.T.Theory.numbers c.args.self.now.theory) c.requires.labeled c.pairs.known
    c.pairs.invariant.more c.pairs.place c.index-telling.result.now (omega arith)
    c.index-telling.ensures

pub tell-requires-clause-later : goal.tell-requires-clause-later
tell-requires-clause-later g c = telling_later c.args.self.now.graph c.args.known.now c.in-Ok.order.items c.in-Ok.ensures
    (g.T.Theory.numbers c.args.self.now.theory) c.requires.labeled c.pairs.known
    c.pairs.invariant.more c.pairs.place c.index-telling.result.now (omega arith)
    c.index-telling.ensures

pub tell-requires-clause-pair : goal.tell-requires-clause-pair
tell-requires-clause-pair g c =
    let t = c.index-telling.result.now in
    subst (λ (h : Graph). AreToldIn h (g.T.Theory.numbers c.pairs.self.theory)
    (node_at c.pairs.known t.first, node_at c.pairs.known t.later)) (sym c.pairs.invariant.graph)
    (subst (λ ns. AreToldIn c.args.self.now.graph ns
    (node_at c.pairs.known t.first, node_at c.pairs.known t.later))
    (sym c.pairs.invariant.keeps.numbers) (telling_pair c.args.self.now.graph c.args.known.now c.in-Ok.order.items c.in-Ok.ensures
    (g.T.Theory.numbers c.args.self.now.theory) c.requires.labeled c.pairs.known
    c.pairs.invariant.more c.pairs.place c.index-telling.result.now (omega arith)
    c.index-telling.ensures))

pub returns-in_err-tell-clause-keeps : goal.returns-in_err-tell-clause-keeps
returns-in_err-tell-clause-keeps g c =
    keeps_then g.T.Undoable.undo g.met.T.Undoable.lawful g.R.CarriesNodes.carried_node
    g.R.CarriesGroups.carried_group g.R.CarriesShare.carried_share g.R.Carries.carried
    g.T.Theory.sound g.T.Theory.numbers g.T.Theory.made [] [] c.args.trail.now.records
    c.pairs.trail.records c.tell.new.trail.records c.args.self.now c.pairs.self c.tell.new.self
    c.pairs.invariant.keeps c.tell.ensures.keeps

pub returns-in-Closed-clause-keeps : goal.returns-in-Closed-clause-keeps
returns-in-Closed-clause-keeps g c =
    keeps_then g.T.Undoable.undo g.met.T.Undoable.lawful g.R.CarriesNodes.carried_node
    g.R.CarriesGroups.carried_group g.R.CarriesShare.carried_share g.R.Carries.carried
    g.T.Theory.sound g.T.Theory.numbers g.T.Theory.made [] [] c.args.trail.now.records
    c.pairs.trail.records c.tell.new.trail.records c.args.self.now c.pairs.self c.tell.new.self
    c.pairs.invariant.keeps c.tell.ensures.keeps

pub returns-in_err-tell-clause-more : goal.returns-in_err-tell-clause-more
returns-in_err-tell-clause-more g c =
    knows_both c.args.known.now c.pairs.known c.tell.new.known c.pairs.invariant.more
    c.tell.ensures.more

pub returns-in-Closed-clause-more : goal.returns-in-Closed-clause-more
returns-in-Closed-clause-more g c =
    knows_both c.args.known.now c.pairs.known c.tell.new.known c.pairs.invariant.more
    c.tell.ensures.more

pub pairs-preserved : goal.pairs-preserved
pairs-preserved g c =
    let answer : c.tell.result ≡ Ok Open = c.in_ok-tell.was ∙ ap Ok c.in-Open.is in
    record {
      unsettled = subst (StepEnds _ _) answer c.tell.ensures.ends;
      told = told-step c.args.self.now.graph c.args.known.now c.in-Ok.order.items c.in-Ok.ensures
          (g.T.Theory.numbers c.args.self.now.theory) c.requires.labeled c.pairs.known
          c.pairs.invariant.more c.pairs.place c.index-telling.result.now (omega arith)
          c.index-telling.ensures c.tell.new.known
          c.tell.ensures.more (c.tell.ensures.told answer) c.pairs.invariant.told;
      more = knows_both c.args.known.now c.pairs.known c.tell.new.known
          c.pairs.invariant.more c.tell.ensures.more;
      graph = c.tell.ensures.graph ∙ c.pairs.invariant.graph;
      keeps = keeps_then g.T.Undoable.undo g.met.T.Undoable.lawful g.R.CarriesNodes.carried_node
          g.R.CarriesGroups.carried_group g.R.CarriesShare.carried_share g.R.Carries.carried
          g.T.Theory.sound g.T.Theory.numbers g.T.Theory.made [] [] c.args.trail.now.records
          c.pairs.trail.records c.tell.new.trail.records c.args.self.now c.pairs.self c.tell.new.self
          c.pairs.invariant.keeps c.tell.ensures.keeps;
    }

pub returns-clause-agree : goal.returns-clause-agree
returns-clause-agree g c e =
    telling-done c.args.self.now.graph c.args.known.now c.in-Ok.order.items c.in-Ok.ensures
    (seen g.T.Theory.sound g.T.Theory.admits g.T.Theory.numbers c.pairs.self) c.pairs.known
    c.pairs.invariant.more
    (subst (λ ns. AreLabeled ns c.args.known.now) (sym c.pairs.invariant.keeps.numbers)
    c.requires.labeled) c.pairs.invariant.graph c.pairs.invariant.unsettled
    (λ k l. c.pairs.invariant.told k (omega (arith, l)))

pub returns-in_default-clause-more : goal.returns-in_default-clause-more
returns-in_default-clause-more g c = knows_same c.args.known.now

pub returns-in_default-clause-keeps : goal.returns-in_default-clause-keeps
returns-in_default-clause-keeps g c = keeps_nothing g.T.Undoable.undo g.met.T.Undoable.lawful
    g.R.CarriesNodes.carried_node g.R.CarriesGroups.carried_group
    g.R.CarriesShare.carried_share g.R.Carries.carried g.T.Theory.sound
    g.T.Theory.numbers g.T.Theory.made c.args.trail.now.records c.args.self.now
    c.requires.unsettled.parts.sound
