use Rattle.std.proofs.Common.{sym, subst}
use Rattle.std.specs.List.{All}
use Rattle.std.specs.Prelude.{MatchOption}
use Rattle.sharing_cases.specs.ConstantTerms.{AreFoundMissed, AreThere, NoneIsMissed}
use Rattle.sharing_cases.proofs.ConstantNumbers.{are_there, next_ends}
use Rattle.sharing_cases.proofs.constants.ConstantsTheory.next_equal.Goals as goal

pub missed-requires : goal.missed-requires
missed-requires c = record {
  there = subst (AreThere c.args.graph.now) (sym c.as_slice.ensures)
      (are_there c.args.self.now c.args.graph.now c.requires.numbers);
}

pub returns-clause-ends : goal.returns-clause-ends
returns-clause-ends c = next_ends c.args.self.now c.args.graph.now c.requires.numbers
    c.requires.sound c.requires.some.0 c.missed.result
    (subst (λ cs. MatchOption c.missed.result (All (NoneIsMissed c.args.graph.now cs) cs)
    (AreFoundMissed c.args.graph.now cs)) c.as_slice.ensures c.missed.ensures)
