use Rattle.std.proofs.Common.{get_or, below_more, sym, subst, ◌∙◌, arith}
use Rattle.std.proofs.lemmas.List.{get_or_default}
use Rattle.std.specs.List.{Contains}
use Rattle.esc_distinct.proofs.search.place_of_any.Goals as goal

pub nodes-preserved : goal.nodes-preserved
nodes-preserved c =
    below_more (λ k. Contains c.args.group.now (get_or c.args.nodes.now k 0) →
    ⊥) c.nodes.node-index c.nodes.invariant
    (λ h. c.in_default.ensures.none
    (subst (Contains c.args.group.now)
    (get_or_default c.args.nodes.now c.nodes.node-index 0 c.node-item.result c.nodes-test.true
    ∙ sym c.node-item.is) h))

pub returns-clause-none : goal.returns-clause-none
returns-clause-none c i within has =
    c.nodes.invariant has.0 (omega (
      arith,
      has.1,
      c.nodes-test.false,
      c.nodes.auto.node-index-end,
    )) (
      i,
      within,
      get_or_default c.args.group.now i _ 0 within
          ∙ (sym has.2 ∙ get_or_default c.args.nodes.now has.0 _ 0 has.1),
    )
