use Rattle.std.proofs.Common.{arith}
use Rattle.std.proofs.lemmas.Nat.Gcd.{IsGcd-from_zero, IsGcd-from_mod}
use Rattle.esc_frac.proofs.gcd.gcd_with_64.Goals as goal

pub returns-then-b-eq0 : goal.returns-then-b-eq0
returns-then-b-eq0 c = IsGcd-from_zero _ _ (omega arith)

pub returns : goal.returns
returns c = IsGcd-from_mod _ _ _ c.gcd_in_64.ensures
