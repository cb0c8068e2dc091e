-- How the steps that are left become fewer.
use Rattle.std.proofs.Common.{◌≡◌, ℕ, ◌<◌, ◌≤◌, ◌+◌, ◌*◌, ◌-◌, arith}
use Rattle.std.proofs.Math.Nat.{mul-le-mul_right}

-- fewer sides, whatever rounds were made
pub nearer_sides : (a b rounds made before : ℕ) → a < b
    → a * (rounds + 1) + (rounds - made) < b * (rounds + 1) + (rounds - before)
nearer_sides a b rounds made before fewer =
    let less : a + 1 ≤ b = omega (arith, fewer) in
    let times : (a + 1) * (rounds + 1) ≤ b * (rounds + 1) = mul-le-mul_right (rounds + 1) less in
    let one_more : (a + 1) * (rounds + 1) ≡ a * (rounds + 1) + (rounds + 1) = omega arith in
    omega (arith, times, one_more)
