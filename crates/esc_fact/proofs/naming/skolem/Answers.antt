use Rattle.std.proofs.Common.{length, ap, ◌∙◌}
use Rattle.std.specs.List.{list_all, range_with_len}
use Rattle.esc_term.specs.Term.{is_ground}
use Rattle.esc_fact.specs.Fact.{skolem_of}
use Rattle.esc_fact.proofs.Named.{formula_bound, named, own_count, own_ground, within_bound}
use Rattle.esc_fact.proofs.naming.skolem.Goals as goal

pub quant_of-quant-requires : goal.quant_of-quant-requires
quant_of-quant-requires c =
    let n =
    named c.args.base.now c.args.number
    (λ q. skolem_of c.args.number q c.args.outer.now) c.requires.is_fact.named in
    (n.0, c.quantified_at-formula.ensures n.0 n.1)

pub bring_body-requires-clause-ground : goal.bring_body-requires-clause-ground
bring_body-requires-clause-ground c =
    ap (list_all is_ground) c.in_ok-terms.ensures
    ∙ own_ground _ c.args.outer.now
    (range_with_len 0 c.quant_of-quant.result.now.count) c.requires.is_fact.grounded

pub bring_body-requires-clause-formula_bound : goal.bring_body-requires-clause-formula_bound
bring_body-requires-clause-formula_bound c =
    let n =
    named c.args.base.now c.args.number
    (λ q. skolem_of c.args.number q c.args.outer.now) c.requires.is_fact.named in
    formula_bound c.args.base.now c.args.number n.0 c.quantified_at-formula.result.now
    c.args.outer.now c.requires.closed n.1
    (c.quantified_at-formula.ensures n.0 n.1) (c.requires.is_fact.counts n.0 n.1)

pub bring_body-requires-clause-body_bound : goal.bring_body-requires-clause-body_bound
bring_body-requires-clause-body_bound c =
    let n =
    named c.args.base.now c.args.number
    (λ q. skolem_of c.args.number q c.args.outer.now) c.requires.is_fact.named in
    let quant = c.quant_of-quant.ensures n.0 (c.quantified_at-formula.ensures n.0 n.1) in
    within_bound c.args.base.now c.args.number n.0 c.quant_of-quant.result.now c.args.outer.now
    c.in_ok-terms.terms c.requires.closed n.1
    quant (c.requires.is_fact.counts n.0 n.1)
    (ap length c.in_ok-terms.ensures
    ∙ own_count _ c.quant_of-quant.result.now.count c.args.outer.now
    ∙ ap (λ p. p.count) quant)
