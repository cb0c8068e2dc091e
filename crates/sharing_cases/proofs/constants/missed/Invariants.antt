use Rattle.std.proofs.Common.{take}
use Rattle.std.specs.List.{All}
use Rattle.sharing_cases.specs.ConstantTerms.{NoneIsMissed}
use Rattle.sharing_cases.proofs.constants.missed.Given as goal

abbrev pub invariant-constants : goal.invariant-constants
invariant-constants l = All (NoneIsMissed l.graph l.constants) (take l.constant-index l.constants)
