use Rattle.std.proofs.Common.{◌≡◌, ◌<◌, ◌++◌, get_or, length, map, subst, sym, ap, ◌∙◌}
use Rattle.std.specs.List.{All}
use Rattle.std.proofs.lemmas.List.Elements.{Contains-get_or}
use Rattle.esc_maps.specs.MapMatches.{AreMapMatches}
use Rattle.esc_maps.specs.Maps.{IsWrite}
use Rattle.esc_maps.specs.ReadsInside.{AreReadsOf, Rises}
use Rattle.esc_maps.specs.declared.map_match.MapMatch.TheVariants.{Write}
use Rattle.esc_maps.proofs.Reading.{are_map_matches}
use Rattle.esc_maps.proofs.map_match.map_facts.Goals as goal

pub reads_of-requires-clause-writes : goal.reads_of-requires-clause-writes
reads_of-requires-clause-writes c =
    subst (All (λ w. (w < length c.args.graph.now.nodes) × IsWrite c.args.graph.now w))
    (sym c.as_slice.ensures.value)
    (λ k d l.
    let is = (c.in_ok-writes.ensures.those.exact (get_or c.in_ok-writes.writes.items k d)).0
    (Contains-get_or c.in_ok-writes.writes.items k d l) in
    (is.1.there, is.0))

pub returns : goal.returns
returns c =
    let those = c.in_ok-writes.ensures.those in
    let reads : AreReadsOf c.args.graph.now c.args.depths.now c.in_ok-writes.writes.items
    c.in_ok-reads.reads =
    subst (λ xs. AreReadsOf c.args.graph.now c.args.depths.now xs c.in_ok-reads.reads)
    c.as_slice.ensures.value
    (c.in_ok-reads.ensures c.args.depths.now c.requires.standing
    (subst Rises (sym c.as_slice.ensures.value) those.rises)) in
    let found : c.append.new.self ≡ map Write c.in_ok-writes.writes.items ++ c.in_ok-reads.reads =
    c.in_ok-append.ensures
    ∙ ap (λ xs. xs ++ c.in_ok-reads.reads)
    (c.in_ok-found.ensures ∙ ap (map Write) c.as_slice-2.ensures.value) in
    subst (AreMapMatches c.args.graph.now c.args.depths.now) (sym found)
    (are_map_matches c.args.graph.now c.args.depths.now c.in_ok-writes.writes.items
    c.in_ok-reads.reads those reads)
