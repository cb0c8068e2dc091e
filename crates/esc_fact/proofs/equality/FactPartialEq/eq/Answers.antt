use Rattle.std.proofs.lemmas.Bool.Decides.{same_from_decides}
use Rattle.esc_fact.specs.Equal.{same_fact, same_fact-is}
use Rattle.esc_fact.proofs.equality.FactPartialEq.eq.Goals as goal

pub returns-clause-test : goal.returns-clause-test
returns-clause-test c =
    same_from_decides c.is_same.result (same_fact c.args.self.now c.args.other.now)
    (c.is_same.ensures.0, c.is_same.ensures.1) (same_fact-is c.args.self.now c.args.other.now)
