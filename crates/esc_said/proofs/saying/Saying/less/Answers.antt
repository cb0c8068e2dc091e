use Rattle.std.proofs.Common.{◌≡◌, ◌<◌, ◌≤◌, true, false, List, length, get_or, take, ap, subst}
use Rattle.std.proofs.Common.{◌∙◌, arith}
use Rattle.std.specs.List.{list_any}
use Rattle.std.proofs.lemmas.List.{take_all}
use Rattle.std.proofs.lemmas.Grind.{common_steps}
use Rattle.esc_sharing.specs.Nodes.{classes_in, node_term}
use Rattle.esc_sharing.specs.declared.literal.Lit.{Lit}
use Rattle.esc_said.specs.SayingInside.{tells_order}
use Rattle.esc_said.proofs.Orders.{list_any-tells_order}
use Rattle.esc_said.proofs.Passing.{any_more}
use Rattle.esc_said.proofs.SaidAs.{SaysAs-Less}
use Rattle.esc_said.proofs.saying.Saying.less.Goals as goal

pub literals-preserved : goal.literals-preserved
literals-preserved c =
    let a = c.args.a in
    let b = c.args.b in
    let asserted = c.args.self.now.asserted.now in
    let lit = c.literal-item.result in
    let i = c.literals.literal-index in
    let whole : c.as_slice-literal-items.result.now ≡ asserted = c.as_slice-literal-items.ensures in
    let inside : i < length asserted =
    subst (λ (lits : List Lit). i < length lits) whole c.literals-test.true in
    let read : lit ≡ get_or asserted i lit =
    subst (λ (lits : List Lit). lit ≡ get_or lits i lit) whole c.literal-item.is in (
      any_more (tells_order a b true) asserted i lit inside read c.literals.said.holds
          c.said_by.result.holds c.beside-said.result.holds c.beside-said.ensures.holds
          c.literals.invariant.0 c.said_by.ensures.holds,
      any_more (tells_order a b false) asserted i lit inside read c.literals.said.fails
          c.said_by.result.fails c.beside-said.result.fails c.beside-said.ensures.fails
          c.literals.invariant.1 c.said_by.ensures.fails,
    )

pub returns : goal.returns
returns c literals speaks =
    let s = c.args.self.now in
    let g = s.graph.now in
    let a = c.args.a in
    let b = c.args.b in
    let asserted = s.asserted.now in
    let past : length asserted ≤ c.literals.literal-index = grind (arith, common_steps) in
    let all : take c.literals.literal-index asserted ≡ asserted = take_all _ asserted past in
    let told = list_any-tells_order g speaks.saying.graph a b c.requires.a_is_there
    c.requires.b_is_there asserted speaks.saying.sides literals speaks.orders in
    SaysAs-Less _ literals (classes_in g) (node_term g a) (node_term g b)
    (c.literals.invariant.0 ∙ (ap (list_any (tells_order a b true)) all ∙ told true))
    (c.literals.invariant.1 ∙ (ap (list_any (tells_order a b false)) all ∙ told false))
