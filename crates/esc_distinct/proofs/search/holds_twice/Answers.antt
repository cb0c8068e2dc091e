use Rattle.std.proofs.Common.{◌≡◌, IsTrue, false, length, get_or, below_more, ap, sym, subst, ◌∙◌}
use Rattle.std.proofs.Common.{arith}
use Rattle.std.proofs.lemmas.List.{get_or_default}
use Rattle.esc_egraph.specs.Graph.{number_of}
use Rattle.esc_distinct.specs.Groups.{HoldsElsewhere}
use Rattle.esc_distinct.proofs.search.holds_twice.Goals as goal

pub places-preserved : goal.places-preserved
places-preserved c =
    below_more (λ i. HoldsElsewhere (number_of c.args.graph.now) c.args.group.now i
    (get_or c.args.group.now i 0) → ⊥) c.places.place c.places.invariant
    (λ h. let found : IsTrue c.holds_elsewhere.result = c.holds_elsewhere.ensures.1
    (subst (HoldsElsewhere (number_of c.args.graph.now) c.args.group.now c.places.place)
    (ap (λ xs. get_or xs c.places.place 0) (sym c.nodes-nodes.ensures)
    ∙ (get_or_default c.nodes-nodes.result.now c.places.place 0 c.index-nodes-place.result
    c.places-test.true ∙ sym c.index-nodes-place.is)) h) in
    let not_found : c.holds_elsewhere.result ≡ false = c.if-holds_elsewhere.false in
    cc)

pub returns : goal.returns
returns c = (
  λ e. cc,
  λ holds. absurd
      (c.places.invariant holds.0
      (omega (arith, holds.1, c.places-test.false, ap length c.nodes-nodes.ensures)) holds.2),
)
