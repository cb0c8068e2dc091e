use Rattle.std.proofs.Common.{take}
use Rattle.sharing_cases.specs.ConstantTerms.{IsNoNode}
use Rattle.sharing_cases.proofs.constants.value_of.Given as goal

abbrev pub invariant-constants : goal.invariant-constants
invariant-constants l = IsNoNode (take l.constant-index l.constants) l.a
