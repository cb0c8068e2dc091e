use Rattle.std.proofs.Common.{rules}
use Rattle.esc_egraph.proofs.GraphNotes.{notes_merged}
use Rattle.esc_egraph.proofs.parts.Parts.merge.Goals as goal

pub returns-clause-undo : goal.returns-clause-undo
returns-clause-undo g c =
    notes_merged g.R.CarriesNodes.carried_node _ _ _ _ (c.args.from, c.args.into) (search rules) cc
