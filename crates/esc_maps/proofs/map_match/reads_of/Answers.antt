use Rattle.std.proofs.Common.{◌≡◌, ℕ, ◌+◌, ◌<◌, ◌∷◌, [], ◌++◌, get_or, length, map, take}
use Rattle.std.proofs.Common.{subst, sym, ap, ◌∙◌}
use Rattle.std.proofs.lemmas.List.{take_all, take_more}
use Rattle.std.proofs.lemmas.List.{get_or_default}
use Rattle.esc_egraph.specs.Graph.{Graph}
use Rattle.esc_maps.specs.Chosen.{StandsForClass}
use Rattle.esc_maps.specs.Maps.{IsReadAt, IsWrite}
use Rattle.esc_maps.specs.ReadsInside.{AreReadsOf, AreThose, IsEntered}
use Rattle.esc_maps.specs.declared.map_match.MapMatch.TheVariants.{Read}
use Rattle.esc_maps.proofs.Reading.{ArgsAreOlder, entered_read, read_entered, reads_of_more}
use Rattle.esc_maps.proofs.Reading.{rises_before, those_same}
use Rattle.esc_maps.proofs.map_match.reads_of.Goals as goal

pub writes-preserved : goal.writes-preserved
writes-preserved c = λ depths stand rises.
    let g : Graph = c.args.graph.now in
    let k : ℕ = c.writes.write-index in
    let w : ℕ = c.write-item.result in
    let at : w ≡ get_or c.args.writes.now k w = c.write-item.is in
    let is = c.requires.writes k w c.writes-test.true in
    let there : w < length g.nodes = subst (λ n. n < length g.nodes) (sym at) is.0 in
    let write : IsWrite g w = subst (IsWrite g) (sym at) is.1 in
    let older : ArgsAreOlder g = λ n k d l low. c.requires.graph.terms.older n l k d low in
    let entered : AreThose (λ j. StandsForClass g depths j × IsReadAt g w j)
    c.in_ok-places.places.items =
    those_same (IsEntered g c.in_ok-reads.reads w)
    (λ j. StandsForClass g depths j × IsReadAt g w j) c.in_ok-places.places.items
    (entered_read g depths c.args.standing.now stand c.requires.closed c.in_ok-reads.reads
    c.in_ok-reads.ensures older w there write)
    (λ j h. read_entered g depths c.args.standing.now stand c.requires.closed c.in_ok-reads.reads
    c.in_ok-reads.ensures older w there write j h.0 h.1) c.in_ok-places.ensures in
    let first : get_or c.args.writes.now k w ≡ get_or c.args.writes.now k 0 =
    get_or_default c.args.writes.now k w 0 c.writes-test.true in
    let taken : take (k + 1) c.args.writes.now ≡ take k c.args.writes.now ++ (w ∷ []) =
    take_more c.args.writes.now k w c.writes-test.true
    ∙ ap (λ n. take k c.args.writes.now ++ (n ∷ [])) (sym at) in
    let found : c.add_reads.new.found ≡ c.writes.found ++ map (Read w) c.in_ok-places.places.items =
    c.in_ok-add_reads.ensures
    ∙ ap (λ xs. c.writes.found ++ map (Read w) xs) c.as_slice.ensures.value in
    subst (λ xs. AreReadsOf g depths xs c.add_reads.new.found) (sym taken)
    (subst (AreReadsOf g depths (take k c.args.writes.now ++ (w ∷ []))) (sym found)
    (reads_of_more g depths (take k c.args.writes.now) c.writes.found w
    c.in_ok-places.places.items (c.writes.invariant depths stand rises)
    (λ v v_in. subst (λ n. v < n) (sym (at ∙ first))
    (rises_before c.args.writes.now k c.writes-test.true rises v v_in)) entered))

pub returns : goal.returns
returns c = λ depths stand rises.
    subst (λ xs. AreReadsOf c.args.graph.now depths xs c.writes.found)
    (take_all c.writes.write-index c.args.writes.now c.writes-test.false)
    (c.writes.invariant depths stand rises)
