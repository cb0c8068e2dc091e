use Rattle.std.proofs.Common.{[], ◌∷◌, sym}
use Rattle.std.specs.Prelude.{IfErr}
use Rattle.std.proofs.Common.{subst}
use Rattle.esc_union.specs.Merges.{SameClass}
use Rattle.esc_egraph.specs.Graph.{number_of}
use Rattle.esc_sharing.specs.KnownInside.{AreKnownBy, AreLabeled}
use Rattle.esc_sharing.specs.AssertingInside.{IsAsserting}
use Rattle.esc_sharing.specs.Literals.{sides}
use Rattle.esc_sharing.specs.Shared.{seen}
use Rattle.esc_sharing.specs.Numbers.{AddsMade, arithmetic_among, number_terms, pair_terms}
use Rattle.esc_sharing.specs.SharingUndo.{part_carried, sharing_undo}
use Rattle.esc_trail.specs.Undo.{Notes}
use Rattle.esc_sharing.specs.Stops.{UnlessMemory}
use Rattle.esc_sharing.specs.declared.sharing.Sharing.{Sharing}
use Rattle.esc_sharing.proofs.Grouping.{step_asserts}
use Rattle.esc_sharing.proofs.GrownNumbers.{known_same}
use Rattle.esc_sharing.proofs.LiteralSteps.{push_keeps, pushed_asserting}
use Rattle.esc_sharing.proofs.SharingNotes.{keeps_nothing, keeps_then, made_nothing}
use Rattle.esc_sharing.proofs.sharing.Sharing.assert_literal.Goals as goal

pub settle_literal-requires-clause-asserting : goal.settle_literal-requires-clause-asserting
settle_literal-requires-clause-asserting g c =
    subst (IsAsserting (seen g.T.Theory.sound g.T.Theory.admits g.T.Theory.numbers
    c.push_asserted.new.self)) (sym c.copied-again.ensures)
    (pushed_asserting g.T.Theory.sound g.T.Theory.admits g.T.Theory.numbers c.args.self.now
    c.push_asserted.new.self c.args.lit c.in-Ok-push_asserted.ensures.ok c.requires.shared
    c.requires.sides)

pub known_numbers-requires : goal.known_numbers-requires
known_numbers-requires g c = record { numbers = c.requires.shared.parts.numbers }

pub settle_literal-requires-clause-labeled : goal.settle_literal-requires-clause-labeled
settle_literal-requires-clause-labeled g c =
    subst (λ known. AreLabeled (g.T.Theory.numbers c.push_asserted.new.self.theory) known)
    (sym c.deref_mut.ensures.value)
    (subst (λ (s : Sharing _). AreLabeled (g.T.Theory.numbers s.theory) c.in-Ok.known.items)
    (sym c.in-Ok-push_asserted.ensures.ok) c.in-Ok.ensures.labeled)

pub settle_literal-requires-clause-known : goal.settle_literal-requires-clause-known
settle_literal-requires-clause-known g c a b h =
    subst (λ (s : Sharing _). SameClass (number_of s.graph) a b)
    (sym c.in-Ok-push_asserted.ensures.ok)
    (known_same _ (number_of c.args.self.now.graph) a b (c.in-Ok.ensures.known a b
    (subst (λ known. AreKnownBy known a b) c.deref_mut.ensures.value h)))

pub returns-in-Ok-push_asserted-clause-ends : goal.returns-in-Ok-push_asserted-clause-ends
returns-in-Ok-push_asserted-clause-ends g c =
    step_asserts g.T.Undoable.undo
    (part_carried g.R.CarriesNodes.carried_node g.R.CarriesGroups.carried_group
    g.R.CarriesShare.carried_share g.R.Carries.carried) g.T.Theory.sound g.T.Theory.admits
    g.T.Theory.numbers g.T.Theory.made (c.args.lit ∷ []) [] c.args.trail.now.records
    c.settle_literal.new.trail.records c.args.self.now c.settle_literal.new.self
    (keeps_then g.T.Undoable.undo g.met.T.Undoable.lawful g.R.CarriesNodes.carried_node
    g.R.CarriesGroups.carried_group g.R.CarriesShare.carried_share g.R.Carries.carried
    g.T.Theory.sound g.T.Theory.numbers g.T.Theory.made
    (c.args.lit ∷ []) [] c.args.trail.now.records c.push_asserted.new.trail.records
    c.settle_literal.new.trail.records c.args.self.now c.push_asserted.new.self
    c.settle_literal.new.self
    (push_keeps g.T.Undoable.undo g.met.T.Undoable.lawful g.R.CarriesNodes.carried_node
    g.R.CarriesGroups.carried_group g.R.CarriesShare.carried_share g.R.Carries.carried
    g.T.Theory.sound g.T.Theory.numbers g.T.Theory.made
    c.args.self.now c.push_asserted.new.self c.args.lit c.in-Ok-push_asserted.ensures.ok
    c.args.trail.now.records c.push_asserted.new.trail.records c.requires.shared.parts.sound
    c.in-Ok-push_asserted.ensures.noted)
    c.settle_literal.ensures.keeps) c.settle_literal.result c.settle_literal.ensures.ends

pub returns-in-Ok-push_asserted-clause-made : goal.returns-in-Ok-push_asserted-clause-made
returns-in-Ok-push_asserted-clause-made g c =
    (keeps_then g.T.Undoable.undo g.met.T.Undoable.lawful g.R.CarriesNodes.carried_node
    g.R.CarriesGroups.carried_group g.R.CarriesShare.carried_share g.R.Carries.carried
    g.T.Theory.sound g.T.Theory.numbers g.T.Theory.made
    (c.args.lit ∷ []) [] c.args.trail.now.records c.push_asserted.new.trail.records
    c.settle_literal.new.trail.records c.args.self.now c.push_asserted.new.self
    c.settle_literal.new.self
    (push_keeps g.T.Undoable.undo g.met.T.Undoable.lawful g.R.CarriesNodes.carried_node
    g.R.CarriesGroups.carried_group g.R.CarriesShare.carried_share g.R.Carries.carried
    g.T.Theory.sound g.T.Theory.numbers g.T.Theory.made
    c.args.self.now c.push_asserted.new.self c.args.lit c.in-Ok-push_asserted.ensures.ok
    c.args.trail.now.records c.push_asserted.new.trail.records c.requires.shared.parts.sound
    c.in-Ok-push_asserted.ensures.noted)
    c.settle_literal.ensures.keeps).made

pub returns-in-Ok-push_asserted-clause-undo : goal.returns-in-Ok-push_asserted-clause-undo
returns-in-Ok-push_asserted-clause-undo g c =
    (keeps_then g.T.Undoable.undo g.met.T.Undoable.lawful g.R.CarriesNodes.carried_node
    g.R.CarriesGroups.carried_group g.R.CarriesShare.carried_share g.R.Carries.carried
    g.T.Theory.sound g.T.Theory.numbers g.T.Theory.made
    (c.args.lit ∷ []) [] c.args.trail.now.records c.push_asserted.new.trail.records
    c.settle_literal.new.trail.records c.args.self.now c.push_asserted.new.self
    c.settle_literal.new.self
    (push_keeps g.T.Undoable.undo g.met.T.Undoable.lawful g.R.CarriesNodes.carried_node
    g.R.CarriesGroups.carried_group g.R.CarriesShare.carried_share g.R.Carries.carried
    g.T.Theory.sound g.T.Theory.numbers g.T.Theory.made
    c.args.self.now c.push_asserted.new.self c.args.lit c.in-Ok-push_asserted.ensures.ok
    c.args.trail.now.records c.push_asserted.new.trail.records c.requires.shared.parts.sound
    c.in-Ok-push_asserted.ensures.noted)
    c.settle_literal.ensures.keeps).undo

pub returns-in-Ok-push_asserted-clause-stop : goal.returns-in-Ok-push_asserted-clause-stop
returns-in-Ok-push_asserted-clause-stop g c =
    subst (λ l. IfErr c.settle_literal.result (UnlessMemory
    (g.T.Theory.barred c.settle_literal.new.self.theory
    (arithmetic_among (g.T.Theory.numbers c.args.self.now.theory)
    (pair_terms c.args.self.now.graph (sides l)))
    (number_terms (g.T.Theory.numbers c.args.self.now.theory))))) c.copied-again.ensures
    (subst (λ (s : Sharing _). IfErr c.settle_literal.result (UnlessMemory
    (g.T.Theory.barred c.settle_literal.new.self.theory
    (arithmetic_among (g.T.Theory.numbers s.theory)
    (pair_terms s.graph (sides c.copied-again.result)))
    (number_terms (g.T.Theory.numbers s.theory))))) c.in-Ok-push_asserted.ensures.ok
    c.settle_literal.ensures.stop)

pub returns-in_default-clause-made : goal.returns-in_default-clause-made
returns-in_default-clause-made g c =
    made_nothing _ _

pub returns-in_default-clause-undo : goal.returns-in_default-clause-undo
returns-in_default-clause-undo g c =
    (keeps_nothing g.T.Undoable.undo g.met.T.Undoable.lawful g.R.CarriesNodes.carried_node
    g.R.CarriesGroups.carried_group g.R.CarriesShare.carried_share g.R.Carries.carried
    g.T.Theory.sound g.T.Theory.numbers g.T.Theory.made
    c.args.trail.now.records c.args.self.now c.requires.shared.parts.sound).undo

pub returns-clause-made : goal.returns-clause-made
returns-clause-made g c =
    subst (λ (s : Sharing _). AddsMade (g.T.Theory.made c.args.self.now.theory)
    (g.T.Theory.made s.theory) (number_terms (g.T.Theory.numbers c.args.self.now.theory)))
    (sym c.in-Err.ensures.err) (made_nothing _ _)

pub returns-clause-undo : goal.returns-clause-undo
returns-clause-undo g c =
    subst (λ records. Notes (sharing_undo g.T.Undoable.undo)
    (part_carried g.R.CarriesNodes.carried_node
    g.R.CarriesGroups.carried_group g.R.CarriesShare.carried_share g.R.Carries.carried)
    c.args.trail.now.records records c.args.self.now c.push_asserted.new.self)
    (sym c.in-Err.ensures.still)
    (subst (λ s. Notes (sharing_undo g.T.Undoable.undo)
    (part_carried g.R.CarriesNodes.carried_node
    g.R.CarriesGroups.carried_group g.R.CarriesShare.carried_share g.R.Carries.carried)
    c.args.trail.now.records c.args.trail.now.records c.args.self.now s)
    (sym c.in-Err.ensures.err)
    (keeps_nothing g.T.Undoable.undo g.met.T.Undoable.lawful g.R.CarriesNodes.carried_node
    g.R.CarriesGroups.carried_group g.R.CarriesShare.carried_share g.R.Carries.carried
    g.T.Theory.sound g.T.Theory.numbers g.T.Theory.made
    c.args.trail.now.records c.args.self.now c.requires.shared.parts.sound).undo)
