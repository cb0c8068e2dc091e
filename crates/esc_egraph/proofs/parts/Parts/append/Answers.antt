use Rattle.esc_nodes.specs.Nodes.{Shape}
use Rattle.esc_egraph.specs.PartsInside.{graph_in}
use Rattle.esc_egraph.proofs.GraphNotes.{notes_made}
use Rattle.esc_egraph.proofs.parts.Parts.append.Goals as goal

pub returns-clause-undo : goal.returns-clause-undo
returns-clause-undo g c =
    let s : Shape = record { top = c.args.top; args = c.args.args.now } in
    notes_made g.R.CarriesNodes.carried_node _ _ (graph_in c.args.self.now) _ s
    c.requires.sound.graph c.in_ok-make.ensures.ok (cc)
