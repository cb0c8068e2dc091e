use Rattle.std.proofs.lemmas.Bool.Decides.{same_from_decides}
use Rattle.esc_match.specs.Equal.{same_substitution, same_substitution-is}
use Rattle.esc_match.proofs.substitution.SubstitutionPartialEq.eq.Goals as goal

pub returns-clause-test : goal.returns-clause-test
returns-clause-test c =
    same_from_decides c.is_same.result (same_substitution c.args.self.now c.args.other.now)
    (c.is_same.ensures.0, c.is_same.ensures.1)
    (same_substitution-is c.args.self.now c.args.other.now)
