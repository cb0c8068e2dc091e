use Rattle.std.proofs.Common.{ap, ◌∙◌}
use Rattle.esc_match.specs.WaysInside.{grown_anywhere}
use Rattle.esc_match.proofs.Walks.{ways_step}
use Rattle.esc_match.proofs.growing.ways_of.Goals as goal

pub terms-preserved : goal.terms-preserved
terms-preserved c =
    ways_step c.args.graph.now c.args.trigger.now c.terms.term-index c.term-item.result c.terms.ways
    c.in_ok-ways-2.ways _ c.terms-test.true c.term-item.is
    (c.in_ok-ways-2.ensures
    ∙ ap (grown_anywhere c.args.graph.now c.term-item.result) c.as_slice.ensures)
    c.terms.invariant
