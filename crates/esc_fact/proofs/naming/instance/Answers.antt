use Rattle.esc_fact.specs.Fact.{instance_of}
use Rattle.esc_fact.proofs.Named.{formula_bound, named, within_bound}
use Rattle.esc_fact.proofs.naming.instance.Goals as goal

pub quant_of-quant-requires : goal.quant_of-quant-requires
quant_of-quant-requires c =
    let n =
    named c.args.base.now c.args.number
    (λ q. instance_of q c.args.outer.now c.args.terms.now) c.requires.is_fact.named in
    (n.0, c.quantified_at-formula.ensures n.0 n.1)

pub bring_body-requires-clause-formula_bound : goal.bring_body-requires-clause-formula_bound
bring_body-requires-clause-formula_bound c =
    let n =
    named c.args.base.now c.args.number
    (λ q. instance_of q c.args.outer.now c.args.terms.now) c.requires.is_fact.named in
    formula_bound c.args.base.now c.args.number n.0 c.quantified_at-formula.result.now
    c.args.outer.now c.requires.closed n.1
    (c.quantified_at-formula.ensures n.0 n.1) (c.requires.is_fact.counts n.0 n.1).0

pub bring_body-requires-clause-body_bound : goal.bring_body-requires-clause-body_bound
bring_body-requires-clause-body_bound c =
    let n =
    named c.args.base.now c.args.number
    (λ q. instance_of q c.args.outer.now c.args.terms.now) c.requires.is_fact.named in
    let counts = c.requires.is_fact.counts n.0 n.1 in
    within_bound c.args.base.now c.args.number n.0 c.quant_of-quant.result.now c.args.outer.now
    c.args.terms.now c.requires.closed n.1
    (c.quant_of-quant.ensures n.0 (c.quantified_at-formula.ensures n.0 n.1)) counts.0 counts.1
