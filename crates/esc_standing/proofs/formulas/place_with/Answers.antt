use Rattle.std.proofs.Common.{sym, ◌∙◌}
use Rattle.esc_fact.specs.Fact.{skolem_of}
use Rattle.esc_standing.proofs.BoundQuantified.{formula_bound, named}
use Rattle.esc_standing.proofs.KeptPlaces.{closed_is, kept_at, place_there}
use Rattle.esc_standing.proofs.formulas.place_with.Goals as goal

pub substitute-requires-clause-enough : goal.substitute-requires-clause-enough
substitute-requires-clause-enough c =
    let n =
    named c.args.base.now c.args.number
    (λ q. skolem_of c.args.number q c.args.outer.now) c.requires.is_fact.named in
    formula_bound c.args.base.now c.args.number n.0 c.quantified_at.result.now
    c.args.outer.now c.requires.closed n.1
    (c.quantified_at.ensures n.0 n.1) (c.requires.is_fact.counts n.0 n.1)

pub unreachable-requires : goal.unreachable-requires
unreachable-requires c =
    let n =
    named c.args.base.now c.args.number
    (λ q. skolem_of c.args.number q c.args.outer.now) c.requires.is_fact.named in
    let k = c.requires.kept in
    c.in-None.ensures.none k.0
    (place_there c.args.base.now c.args.formulas.now.kept c.args.formulas.now.closed
    c.in_ok-formula.formula k.0 k.1 c.requires.beside k.2 k.3
    (k.4 ∙ closed_is c.args.base.now c.args.number c.args.outer.now n.0
    c.quantified_at.result.now c.in_ok-formula.formula n.1 (c.quantified_at.ensures n.0 n.1)
    c.in_ok-formula.ensures))

pub returns : goal.returns
returns c =
    let n =
    named c.args.base.now c.args.number
    (λ q. skolem_of c.args.number q c.args.outer.now) c.requires.is_fact.named in
    kept_at c.args.base.now c.args.formulas.now.kept c.args.formulas.now.closed
    c.in-Some-place_of.place c.in_ok-formula.formula c.requires.beside
    c.in-Some-place_of.ensures.some
    ∙ sym (closed_is c.args.base.now c.args.number c.args.outer.now n.0
    c.quantified_at.result.now c.in_ok-formula.formula n.1 (c.quantified_at.ensures n.0 n.1)
    c.in_ok-formula.ensures)
