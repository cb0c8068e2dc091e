use Rattle.std.proofs.Common.{take}
use Rattle.sharing_cases.specs.ConstantTerms.{NoneIsMissed}
use Rattle.sharing_cases.proofs.constants.missed_with.Given as goal

abbrev pub invariant-constants : goal.invariant-constants
invariant-constants l = NoneIsMissed l.graph (take l.constant-index l.constants) l.first
