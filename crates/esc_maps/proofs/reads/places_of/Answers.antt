use Rattle.std.proofs.Common.{◌≡◌, ◌<◌, ap, get_or, length, subst, sym, ◌∙◌}
use Rattle.std.proofs.Common.{arith}
use Rattle.std.proofs.lemmas.List.{get_or_default}
use Rattle.std.proofs.lemmas.List.Filters.{dedup_is}
use Rattle.esc_nodes.specs.Nodes.{Shape, shape_at}
use Rattle.esc_egraph.specs.Graph.{number_of}
use Rattle.esc_maps.specs.ReadsInside.{IsEntered}
use Rattle.esc_maps.proofs.Reading.{entered_under, places_once}
use Rattle.esc_maps.proofs.reads.places_of.Goals as goal
use lib.Dec.{eqb}

pub returns : goal.returns
returns c =
    let args : c.args-2.result.now ≡ (shape_at c.args.graph.now.nodes c.args.write).args =
    c.args-2.ensures in
    let lt : 0 < length c.args-2.result.now =
    subst (λ xs. 0 < length xs) (sym (args ∙ ap (λ (s : Shape). s.args) c.requires.is.3))
    (omega arith) in
    let map : c.class_number-2.result
    ≡ number_of c.args.graph.now (get_or (shape_at c.args.graph.now.nodes c.args.write).args 0 0) =
    c.class_number-2.ensures.number
    ∙ ap (number_of c.args.graph.now) (c.index-args-0.is
    ∙ (get_or_default c.args-2.result.now 0 c.index-args-0.result 0 lt
    ∙ ap (λ xs. get_or xs 0 0) args)) in
    places_once (IsEntered c.args.graph.now c.args.reads.now c.args.write)
    c.add_places-2.new.places.items c.sort_unstable.new.self.items c.dedup.new.self.items
    (entered_under c.args.graph.now c.args.reads.now c.args.write c.class_number.result
    c.class_number-2.result c.new-places.result.items c.add_places.new.places.items
    c.add_places-2.new.places.items c.new-places.ensures.items c.class_number.ensures.number map
    (λ j. c.in_ok-add_places.ensures j) (λ j. c.in_ok-add_places-2.ensures j))
    c.sort_unstable.ensures.permutation c.sort_unstable.ensures.sorted
    (dedup_is eqb c.sort_unstable.new.self.items c.dedup.new.self.items c.dedup.ensures.filtered)
