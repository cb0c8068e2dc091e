use Rattle.std.proofs.Common.{subst, sym, ◌∙◌}
use Rattle.esc_index.specs.Places.{HasNone, IsLastBefore}
use Rattle.esc_maps.specs.ReadsInside.{AreAdded}
use Rattle.esc_maps.proofs.Reading.{added_done, added_next}
use Rattle.esc_maps.proofs.reads.add_places.Goals as goal

pub reads-preserved : goal.reads-preserved
reads-preserved c =
    subst (λ xs. AreAdded c.args.reads.now c.args.class c.args.places.now.items xs c.in-Some.place)
    (sym c.in_ok-push.ensures.items)
    (added_next c.args.reads.now c.args.class c.args.places.now.items c.reads.places.items
    c.reads.end c.reads.invariant c.in-Some.place c.index-in-Some.result
    (subst (λ k. IsLastBefore c.args.reads.now k c.reads.end c.in-Some.place) c.index.ensures
    c.in-Some.ensures.some) (c.index-in-Some.ensures ∙ c.node.ensures))

pub returns : goal.returns
returns c =
    added_done c.args.reads.now c.args.class c.args.places.now.items c.reads.places.items
    c.reads.end c.reads.invariant
    (subst (λ k. HasNone c.args.reads.now k 0 c.reads.end) c.index.ensures
    c.in_default.ensures.none)
