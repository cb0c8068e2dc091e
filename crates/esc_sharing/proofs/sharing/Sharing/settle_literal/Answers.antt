use Rattle.std.proofs.Common.{[], ap, length, sym, subst, ◌∙◌}
use Rattle.std.specs.Prelude.{Ok}
use Rattle.esc_union.specs.Merges.{SameClass}
use Rattle.esc_egraph.specs.Graph.{number_of}
use Rattle.esc_sharing.specs.KnownInside.{AreKnownBy, AreLabeled}
use Rattle.esc_sharing.specs.Literals.{sides}
use Rattle.esc_sharing.specs.Numbers.{arithmetic_among, number_terms, pair_terms}
use Rattle.esc_sharing.specs.Calls.{StepEnds}
use Rattle.esc_sharing.specs.Shared.{seen}
use Rattle.esc_sharing.proofs.LiteralSteps.{stop_by_more}
use Rattle.esc_sharing.proofs.SharingNotes.{keeps_then}
use Rattle.esc_sharing.proofs.Whole.{no_more, quiet_shared, unsettled_fewer}
use Rattle.esc_sharing.proofs.sharing.Sharing.settle_literal.Goals as goal

pub settle-requires-clause-unsettled : goal.settle-requires-clause-unsettled
settle-requires-clause-unsettled g c =
    unsettled_fewer (seen g.T.Theory.sound g.T.Theory.admits g.T.Theory.numbers
    c.take_literal.new.self) (SameClass (number_of c.args.self.now.graph))
    (AreKnownBy c.args.known.now) c.requires.known
    (subst (StepEnds _ _) (c.in_ok-take_literal.was ∙ ap Ok c.in-Open.is)
    c.take_literal.ensures.ends)

pub settle-requires-clause-labeled : goal.settle-requires-clause-labeled
settle-requires-clause-labeled g c =
    subst (λ ns. AreLabeled ns c.args.known.now) (sym c.take_literal.ensures.keeps.numbers)
    c.requires.labeled

pub returns-else-is_quiet-clause-keeps : goal.returns-else-is_quiet-clause-keeps
returns-else-is_quiet-clause-keeps g c =
    keeps_then g.T.Undoable.undo g.met.T.Undoable.lawful g.R.CarriesNodes.carried_node
    g.R.CarriesGroups.carried_group g.R.CarriesShare.carried_share g.R.Carries.carried
    g.T.Theory.sound g.T.Theory.numbers g.T.Theory.made [] []
    c.args.trail.now.records c.take_literal.new.trail.records c.settle.new.trail.records
    c.args.self.now c.take_literal.new.self c.settle.new.self c.take_literal.ensures.keeps
    c.settle.ensures.keeps

pub returns-else-is_quiet-clause-stop : goal.returns-else-is_quiet-clause-stop
returns-else-is_quiet-clause-stop g c =
    stop_by_more g.T.Theory.barred g.met.T.Theory.barred_by_more c.settle.new.self.theory
    (arithmetic_among (g.T.Theory.numbers c.args.self.now.theory)
    (pair_terms c.args.self.now.graph (sides c.args.lit)))
    (number_terms (g.T.Theory.numbers c.take_literal.new.self.theory))
    (number_terms (g.T.Theory.numbers c.args.self.now.theory))
    (ap number_terms c.take_literal.ensures.keeps.numbers) c.settle.result c.settle.ensures.stop

pub returns-then-is_quiet-clause-ends : goal.returns-then-is_quiet-clause-ends
returns-then-is_quiet-clause-ends g c =
    let same = c.take_literal.ensures.theory (c.is_order-order.ensures
    (c.is_quiet.ensures.order c.if-is_quiet.true)) in
    quiet_shared (seen g.T.Theory.sound g.T.Theory.admits g.T.Theory.numbers c.args.self.now)
    (seen g.T.Theory.sound g.T.Theory.admits g.T.Theory.numbers c.take_literal.new.self)
    (record {
      one_value = c.requires.asserting.shared.agree.one_value;
      parted = c.requires.asserting.shared.agree.parted;
    }) c.take_literal.ensures.keeps.numbers c.take_literal.ensures.keeps.nodes
    (no_more c.args.self.now.graph.merges c.take_literal.new.self.graph.merges
    c.take_literal.ensures.merges
    (c.is_quiet.ensures.merges c.if-is_quiet.true ∙ ap length c.merges-before.ensures.is))
    (λ x h. subst (λ theory. g.T.Theory.admits theory x) same h)
    (λ x h. subst (λ theory. g.T.Theory.admits theory x) (sym same) h)
    (SameClass (number_of c.args.self.now.graph))
    (subst (StepEnds _ _) (c.in_ok-take_literal.was ∙ ap Ok c.in-Open.is)
    c.take_literal.ensures.ends)
