use Rattle.std.proofs.lemmas.Bool.Decides.{same_from_decides}
use Rattle.esc_rounds.specs.KeyInside.{same_key, same_key-is}
use Rattle.esc_rounds.proofs.key.KeyPartialEq.eq.Goals as goal

pub returns-clause-test : goal.returns-clause-test
returns-clause-test c =
    same_from_decides c.is_same.result (same_key c.args.self.now c.args.other.now)
    (c.is_same.ensures.0, c.is_same.ensures.1)
    (same_key-is c.args.self.now c.args.other.now)
