use Rattle.std.proofs.Common.{◌≡◌, IsTrue, false, get_or, below_more, sym, subst, ◌∙◌, arith}
use Rattle.std.proofs.lemmas.List.{get_or_default}
use Rattle.esc_distinct.specs.PassesInside.{StandsElsewhere}
use Rattle.esc_distinct.proofs.search.any_elsewhere.Goals as goal

pub nodes-preserved : goal.nodes-preserved
nodes-preserved c =
    below_more (λ k. StandsElsewhere c.args.group.now c.args.place (get_or c.args.nodes.now k 0) →
    ⊥) c.nodes.node-index c.nodes.invariant
    (λ h. let found : IsTrue c.stands_elsewhere.result = c.stands_elsewhere.ensures.1
    (subst (StandsElsewhere c.args.group.now c.args.place)
    (get_or_default c.args.nodes.now c.nodes.node-index 0 c.node-item.result c.nodes-test.true
    ∙ sym c.node-item.is) h) in
    let not_found : c.stands_elsewhere.result ≡ false = c.if-stands_elsewhere.false in
    cc)

pub returns : goal.returns
returns c = (
  λ e. cc,
  λ any.
      absurd (c.nodes.invariant any.0
      (omega (arith, any.2, c.nodes-test.false, c.nodes.auto.node-index-end))
      (subst (StandsElsewhere c.args.group.now c.args.place) (sym any.3
      ∙ get_or_default c.args.nodes.now any.0 any.1 0 any.2) any.4)),
)
