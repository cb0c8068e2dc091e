-- How fractions are printed.
use Rattle.std.specs.Prelude.{ℕ, ◌==◌, if◌then◌else◌, List, ◌++◌, codes, decimal}
use Rattle.std.specs.Fmt.{signed_decimal}
use Rattle.esc_frac.specs.Rational.{ℚ}

-- the numerator in lowest terms, and the denominator behind a slash where it is not 1
abbrev pub frac_text : ℚ → List ℕ
frac_text q =
    if q.den == 1 then signed_decimal q.num
    else signed_decimal q.num ++ (codes "/" ++ decimal q.den)
