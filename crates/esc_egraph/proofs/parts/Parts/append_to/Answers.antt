use Rattle.std.proofs.Common.{refl, ap, sym, subst, ◌∙◌}
use Rattle.esc_nodes.specs.Nodes.{Shape}
use Rattle.esc_union.specs.Merges.{SameClass, class_number}
use Rattle.esc_union.proofs.Numbers.{new_nodes_stand_alone}
use Rattle.esc_egraph.specs.Graph.{Graph}
use Rattle.esc_egraph.specs.GraphUndo.{graph_undo}
use Rattle.esc_egraph.specs.PartsInside.{graph_in}
use Rattle.esc_egraph.proofs.GraphNotes.{notes_made_merged}
use Rattle.esc_egraph.proofs.Sound.{sound_whole, whole_appended, graph_appended, graph_back_made}
use Rattle.esc_trail.proofs.Noting.{notes_nothing}
use Rattle.esc_egraph.proofs.parts.Parts.append_to.Goals as goal

pub returns-clause-sound : goal.returns-clause-sound
returns-clause-sound g c =
    let s : Shape = record { top = c.args.top; args = c.args.args.now } in
    sound_whole c.merge_classes.new.self _ c.merge_classes.ensures.sound refl refl refl refl refl
    refl refl refl
    (λ w. whole_appended c.args.self.now c.make.new.self c.merge_classes.new.self s
    c.new-node.result c.args.other c.requires.sound c.requires.whole
    c.make.ensures.sound c.make.ensures.whole c.in_ok-make.ensures.ok c.in_default.ensures.ok
    c.merge_classes.ensures.table
    (c.new-node.ensures ∙ c.count.ensures.count))

pub returns-clause-undo : goal.returns-clause-undo
returns-clause-undo g c =
    let s : Shape = record { top = c.args.top; args = c.args.args.now } in
    notes_made_merged g.R.CarriesNodes.carried_node _ c.note.new.self.records _
    (graph_in c.args.self.now) _ s
    (c.new-node.result, c.args.other) c.requires.sound.graph
    (graph_appended c.args.self.now c.make.new.self c.merge_classes.new.self s
    (c.new-node.result, c.args.other) c.in_ok-make.ensures.ok c.in_default.ensures.ok) (cc) (cc)

pub merge_classes-requires-clause-apart : goal.merge_classes-requires-clause-apart
merge_classes-requires-clause-apart g c same =
    new_nodes_stand_alone c.args.self.now.classes.merges _ c.requires.sound.graph.merged.there
    c.args.other c.requires.other_is_there
    (subst (λ n. SameClass (class_number c.args.self.now.classes.merges) c.args.other n)
    (c.new-node.ensures ∙ c.count.ensures.count)
    (subst (λ ms. SameClass (class_number ms) c.args.other c.new-node.result)
    (ap (λ (h : Graph). h.merges) c.in_ok-make.ensures.ok) (sym same)))

pub returns-in-Err-clause-undo : goal.returns-in-Err-clause-undo
returns-in-Err-clause-undo g c =
    let s : Shape = record { top = c.args.top; args = c.args.args.now } in
    notes_nothing graph_undo g.R.CarriesNodes.carried_node _ _ (graph_in c.args.self.now)
    (graph_in c.back_made.new.self) (cc)
    (graph_back_made c.args.self.now c.merge_classes.new.self c.back_made.new.self s
    (c.in-Err.ensures.err ∙ c.in_ok-make.ensures.ok) c.back_made.ensures.back)
