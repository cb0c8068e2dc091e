use Rattle.std.proofs.Common.{◌≡◌, ◌∷◌, [], ap, slice_set, subst, sym, ◌∙◌}
use Rattle.std.specs.Prelude.{slice_index}
use Rattle.esc_standing.specs.DepthsInside.{Enters}
use Rattle.esc_standing.proofs.Entering.{enters_absent, enters_kept, enters_set}
use Rattle.esc_standing.proofs.terms.enter_term.Goals as goal

pub returns-in_default : goal.returns-in_default
returns-in_default c =
    enters_absent c.args.graph.now.nodes c.args.depth c.args.unset c.args.term.now
    c.args.depths.now c.in_default.ensures.none

pub returns-then-before-unset : goal.returns-then-before-unset
returns-then-before-unset c =
    let at : slice_index c.as_slice.result.now c.index-place.result
    ≡ slice_index c.args.depths.now c.in-Some.node =
    ap (λ ds. slice_index ds c.index-place.result) c.as_slice.ensures
    ∙ ap (slice_index c.args.depths.now) c.index-place.ensures in
    subst (Enters c.args.graph.now.nodes (c.args.term.now ∷ []) c.args.depth c.args.unset
    c.args.depths.now)
    (sym (c.set.ensures ∙ ap (λ k. slice_set c.args.depths.now k c.args.depth)
    c.index-place.ensures))
    (enters_set c.args.graph.now.nodes c.args.depth c.args.unset c.args.term.now
    c.args.depths.now c.term_laws.ensures.once c.requires.graph.terms c.in-Some.node
    c.in-Some.ensures.some.0 c.in-Some.ensures.some.1
    (sym at ∙ c.if-before-unset.true) c.requires.many)

pub returns-else-before-unset : goal.returns-else-before-unset
returns-else-before-unset c =
    let at : slice_index c.as_slice.result.now c.index-place.result
    ≡ slice_index c.args.depths.now c.in-Some.node =
    ap (λ ds. slice_index ds c.index-place.result) c.as_slice.ensures
    ∙ ap (slice_index c.args.depths.now) c.index-place.ensures in
    enters_kept c.args.graph.now.nodes c.args.depth c.args.unset c.args.term.now
    c.args.depths.now c.term_laws.ensures.once c.requires.graph.terms c.in-Some.node
    c.in-Some.ensures.some.0 c.in-Some.ensures.some.1 (λ e. c.if-before-unset.false (at ∙ e))
