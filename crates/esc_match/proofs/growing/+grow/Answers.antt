use Rattle.std.proofs.Common.{rules, ◌≡◌, IfOk, [], ap, sym, subst, ◌∙◌}
use Rattle.std.specs.List.{filter, flat_map}
use Rattle.esc_nodes.specs.declared.top.Top.TheVariants as top
use Rattle.esc_match.specs.CandidatesInside.{class_list, has_top}
use Rattle.esc_match.specs.WaysInside.{grown}
use Rattle.esc_match.proofs.GrownLevels.{numeral_some}
use Rattle.esc_match.proofs.Walks.{all_done, all_step}
use Rattle.esc_match.proofs.growing.+grow.Goals as goal

pub grow-returns-in_ok-visited-in-Num : goal.grow-returns-in_ok-visited-in-Num
grow-returns-in_ok-visited-in-Num t c =
    let candidates : c.in_ok-numerals-in-Num.numerals.items
    ≡ filter (has_top c.args.graph.now (top.Num c.in-Num.value))
    (class_list c.args.graph.now c.args.node) = search rules in
    let some : c.in_ok-numerals-in-Num.numerals.items ≡ [] → ⊥ = λ e. search rules in
    subst (λ ws. IfOk c.only.result (λ ways. ways ≡ ws))
    (numeral_some c.args.graph.now c.in-Num.value c.args.node c.args.way.now
    c.in_ok-visited-in-Num.field-0 c.in_ok-numerals-in-Num.numerals.items
    candidates some c.in_ok-visited-in-Num.ensures
    ∙ ap (λ u. grown c.args.graph.now u c.args.node c.args.way.now) (sym c.in-Num.is))
    c.only.ensures

pub grow_all-places-preserved : goal.grow_all-places-preserved
grow_all-places-preserved t c =
    all_step c.args.graph.now c.args.terms.now c.args.nodes.now c.places.place
    c.index-terms-place.result c.index-nodes-place.result c.places.ways c.in_ok-ways.ways _
    c.places-test.true c.if-terms-nodes.false c.index-terms-place.is c.index-nodes-place.is
    (c.in_ok-ways.ensures
    ∙ ap (flat_map (grown c.args.graph.now c.index-terms-place.result c.index-nodes-place.result))
    c.as_slice.ensures) c.places.invariant

pub grow_all-returns : goal.grow_all-returns
grow_all-returns t c =
    all_done c.args.graph.now c.args.terms.now c.args.nodes.now c.places.place c.places.ways
    c.args.start c.places-test.false c.if-terms-nodes.false c.places.invariant
