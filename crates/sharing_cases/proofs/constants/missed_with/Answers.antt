use Rattle.std.proofs.Common.{refl, sym, subst}
use Rattle.std.proofs.lemmas.List.{take_all}
use Rattle.sharing_cases.specs.ConstantTerms.{NoneIsMissed}
use Rattle.sharing_cases.proofs.constants.missed_with.Goals as goal

pub returns-then-are_missed : goal.returns-then-are_missed
returns-then-are_missed c = record {
  other = c.constant-item.result;
  among = (c.constants.constant-index, c.constants-test.true, sym c.constant-item.is);
  node = refl;
  missed = c.are_missed.ensures.0 c.if-are_missed.true;
}

pub returns : goal.returns
returns c = subst (λ cs. NoneIsMissed c.args.graph.now cs c.args.first.now)
    (take_all c.constants.constant-index c.args.constants.now c.constants-test.false)
    c.constants.invariant
