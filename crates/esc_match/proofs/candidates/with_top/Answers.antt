use Rattle.std.proofs.Common.{ap, length, ◌∙◌}
use Rattle.std.specs.List.{filter}
use Rattle.std.proofs.lemmas.List.{take_all}
use Rattle.esc_match.specs.CandidatesInside.{has_top}
use Rattle.esc_match.proofs.ClassLists.{kept_there}
use Rattle.esc_match.proofs.candidates.with_top.Goals as goal

pub returns-clause-there : goal.returns-clause-there
returns-clause-there c =
    kept_there (length c.args.graph.now.nodes) (has_top c.args.graph.now c.args.top)
    c.args.nodes.now c.nodes.kept.items
    (c.nodes.invariant
    ∙ ap (filter (has_top c.args.graph.now c.args.top))
    (take_all c.nodes.node-index c.args.nodes.now c.nodes-test.false)) c.requires
