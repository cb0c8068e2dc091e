use Rattle.std.proofs.Common.{◌∷◌, ◌++◌, [], take, ap, subst, sym, ◌∙◌}
use Rattle.std.proofs.lemmas.List.{take_all, take_more}
use Rattle.esc_standing.specs.DepthsInside.{Enters}
use Rattle.esc_standing.proofs.Entering.{enters_formula, enters_more, enters_none}
use Rattle.esc_standing.proofs.terms.enter_terms.Goals as goal

pub terms-init : goal.terms-init
terms-init c = (
  c.requires.many,
  enters_none c.args.graph.now.nodes c.args.depth c.args.unset c.args.depths.now,
)

pub terms-preserved : goal.terms-preserved
terms-preserved c =
    let at = take_more c.as_slice-term-items.result.now c.terms.term-index c.term-item.result
    c.terms-test.true in (
      c.enter_term.ensures.many ∙ c.terms.invariant.0,
      subst (λ ts. Enters c.args.graph.now.nodes ts c.args.depth c.args.unset c.args.depths.now
          c.enter_term.new.depths)
          (sym (at ∙ ap (λ t. take c.terms.term-index c.as_slice-term-items.result.now ++ t ∷ [])
          (sym c.term-item.is)))
          (enters_more c.args.graph.now.nodes c.args.depth c.args.unset
          (take c.terms.term-index c.as_slice-term-items.result.now) c.term-item.result
          c.args.depths.now c.terms.depths c.enter_term.new.depths c.terms.invariant.1
          c.enter_term.ensures),
    )

pub returns-clause-many : goal.returns-clause-many
returns-clause-many c = c.terms.invariant.0

pub returns-clause-entered : goal.returns-clause-entered
returns-clause-entered c =
    let all = take_all c.terms.term-index c.as_slice-term-items.result.now c.terms-test.false
    ∙ (c.as_slice-term-items.ensures ∙ c.in_ok-terms.ensures) in
    enters_formula c.term_laws.ensures.ground c.args.graph.now.nodes c.requires.graph.terms
    c.args.formula.now c.args.depth c.args.unset c.args.depths.now c.terms.depths
    (subst (λ ts. Enters c.args.graph.now.nodes ts c.args.depth c.args.unset c.args.depths.now
    c.terms.depths) all c.terms.invariant.1)
