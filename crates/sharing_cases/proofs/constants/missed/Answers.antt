use Rattle.std.proofs.Common.{refl, sym, subst}
use Rattle.std.specs.List.{All}
use Rattle.std.proofs.lemmas.List.{take_all}
use Rattle.std.proofs.lemmas.List.Elements.{All-more}
use Rattle.sharing_cases.specs.ConstantTerms.{NoneIsMissed}
use Rattle.sharing_cases.proofs.constants.missed.Goals as goal

pub returns-in-Some : goal.returns-in-Some
returns-in-Some c = record {
  first = c.constant-item.result;
  among = (c.constants.constant-index, c.constants-test.true, sym c.constant-item.is);
  node = refl;
  other = c.in-Some.ensures;
}

pub constants-preserved : goal.constants-preserved
constants-preserved c = All-more (NoneIsMissed c.args.graph.now c.args.constants.now)
    c.args.constants.now c.constants.constant-index c.constant-item.result c.constants-test.true
    c.constants.invariant
    (subst (NoneIsMissed c.args.graph.now c.args.constants.now) c.constant-item.is
    c.in-None.ensures)

pub returns : goal.returns
returns c = subst (All (NoneIsMissed c.args.graph.now c.args.constants.now))
    (take_all c.constants.constant-index c.args.constants.now c.constants-test.false)
    c.constants.invariant
