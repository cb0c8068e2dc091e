use Rattle.std.proofs.Common.{eqb-true, refl, sym, subst, ◌∙◌}
use Rattle.std.proofs.lemmas.List.{take_all}
use Rattle.sharing_cases.specs.ConstantTerms.{IsNoNode}
use Rattle.sharing_cases.proofs.constants.value_of.Goals as goal

pub returns-then-eq : goal.returns-then-eq
returns-then-eq c = record {
  constant = c.constant-item.result;
  among = (c.constants.constant-index, c.constants-test.true, sym c.constant-item.is);
  node = eqb-true c.constant-item.result.node c.args.a (sym c.eq.ensures ∙ c.if-eq.true);
  value = refl;
}

pub returns : goal.returns
returns c = subst (λ cs. IsNoNode cs c.args.a)
    (take_all c.constants.constant-index c.args.constants.now c.constants-test.false)
    c.constants.invariant
