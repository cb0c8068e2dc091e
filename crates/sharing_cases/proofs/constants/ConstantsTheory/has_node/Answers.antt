use Rattle.std.proofs.Common.{subst}
use Rattle.std.specs.Prelude.{MatchOption}
use Rattle.sharing_cases.specs.ConstantTerms.{IsFound, IsNoNode}
use Rattle.sharing_cases.proofs.ConstantNumbers.{has_when}
use Rattle.sharing_cases.proofs.constants.ConstantsTheory.has_node.Goals as goal

pub returns : goal.returns
returns c = has_when c.args.self.now c.args.a c.value_of.result
    (subst (λ cs. MatchOption c.value_of.result (IsNoNode cs c.args.a) (IsFound cs c.args.a))
    c.as_slice.ensures c.value_of.ensures) c.is_some.result c.is_some.ensures
