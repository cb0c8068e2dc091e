use Rattle.std.proofs.Common.{subst}
use Rattle.sharing_cases.specs.ConstantTerms.{IsFound, IsNoNode}
use Rattle.sharing_cases.proofs.ConstantNumbers.{found_worth, no_number}
use Rattle.sharing_cases.proofs.constants.Constants.value.Goals as goal

pub unreachable-requires : goal.unreachable-requires
unreachable-requires c = no_number c.args.self.now c.args.a
    (subst (λ cs. IsNoNode cs c.args.a) c.as_slice.ensures c.in-None.ensures) c.requires.number

pub returns : goal.returns
returns c g are = found_worth c.args.self.now g are c.requires.worth c.args.a c.in-Some.value
    (subst (λ cs. IsFound cs c.args.a c.in-Some.value) c.as_slice.ensures c.in-Some.ensures)
