use Rattle.std.proofs.Common.{◌≡◌, IsTrue, false, get_or, below_more, sym, subst, ◌∙◌, arith}
use Rattle.std.proofs.lemmas.List.{get_or_default}
use Rattle.esc_union.specs.Merges.{class_number}
use Rattle.esc_egraph.specs.Congruence.{Joins}
use Rattle.esc_egraph.proofs.parts.apart.any_joins.Goals as goal

pub pairs-preserved : goal.pairs-preserved
pairs-preserved c =
    below_more (λ k. Joins (class_number c.args.classes.now.merges) c.args.a c.args.b
    (get_or c.args.pairs.now k (0, 0)) → ⊥) c.pairs.pair-index c.pairs.invariant
    (λ h. let found : IsTrue c.joins.result = c.joins.ensures.1
    (subst (Joins (class_number c.args.classes.now.merges) c.args.a c.args.b)
    (get_or_default c.args.pairs.now c.pairs.pair-index (0, 0) c.pair-item.result c.pairs-test.true
    ∙ sym c.pair-item.is) h) in
    let not_found : c.joins.result ≡ false = c.if-joins.false in
    cc)

pub returns : goal.returns
returns c = (
  λ e. cc,
  λ any.
      absurd (c.pairs.invariant any.0
      (omega (arith, any.2, c.pairs-test.false, c.pairs.auto.pair-index-end))
      (subst (Joins (class_number c.args.classes.now.merges) c.args.a c.args.b) (sym any.3
      ∙ get_or_default c.args.pairs.now any.0 any.1 (0, 0) any.2) any.4)),
)
