use Rattle.std.proofs.Common.{[], ◌∷◌, ◌++◌, ap, subst, ◌∙◌}
use Rattle.esc_index.specs.Places.{HasNone, IsLastBefore}
use Rattle.esc_egraph.proofs.ByClass.{IsCopying-next, IsCopied-done}
use Rattle.esc_egraph.proofs.pairs.copy_under.Goals as goal

pub places-preserved : goal.places-preserved
places-preserved c =
    IsCopying-next c.args.entries.now c.args.from c.args.into c.places.entries c.places.end
    c.places.invariant c.in-Some.place c.node-node.result
    (subst (λ k. IsLastBefore c.places.entries k c.places.end c.in-Some.place) c.index.ensures
    c.in-Some.ensures.some) c.node-node.ensures c.push.new.self
    (c.in_default-push.ensures.ok ∙ ap (λ k. c.places.entries ++ ((k, c.node-node.result) ∷ []))
    c.index-in-Some.ensures)

pub returns-clause-ok : goal.returns-clause-ok
returns-clause-ok c =
    IsCopied-done c.args.entries.now c.args.from c.args.into c.places.entries c.places.end
    c.places.invariant
    (subst (λ k. HasNone c.places.entries k 0 c.places.end) c.index.ensures
    c.in_default.ensures.none)
