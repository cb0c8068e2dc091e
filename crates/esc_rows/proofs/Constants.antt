-- The constants to which multiples are added.
use Rattle.std.proofs.Common.{◌≡◌, ℕ, zero, suc, ◌<◌, List, [], ◌∷◌, length, get_or, refl, arith}
use Rattle.esc_frac.specs.Rational.{ℚ, zero_ℚ, ◌+ℚ◌, ◌*ℚ◌}
use Rattle.esc_rows.specs.Rows.{eliminated_constants}

pub length-eliminated_constants : (ess : List (List ℚ)) (ks : List ℚ) (c : ℕ) (n : ℚ) → length ess
    ≡ length ks → length (eliminated_constants ess ks c n) ≡ length ks
length-eliminated_constants [] [] c n h = refl
length-eliminated_constants [] (k ∷ ks) c n h = absurd (omega arith)
length-eliminated_constants (es ∷ ess) [] c n h = absurd (omega arith)
length-eliminated_constants (es ∷ ess) (k ∷ ks) c n h = omega
    (arith, length-eliminated_constants ess ks c n (omega arith))

pub get_or-eliminated_constants : (ess : List (List ℚ)) (ks : List ℚ) (c : ℕ) (n : ℚ) (i : ℕ) → i
    < length ess → length ess ≡ length ks → get_or (eliminated_constants ess ks c n) i zero_ℚ
    ≡ get_or ks i zero_ℚ +ℚ get_or (get_or ess i []) c zero_ℚ *ℚ n
get_or-eliminated_constants [] ks c n i h l = absurd (omega arith)
get_or-eliminated_constants (es ∷ ess) [] c n i h l = absurd (omega arith)
get_or-eliminated_constants (es ∷ ess) (k ∷ ks) c n zero h l = refl
get_or-eliminated_constants (es ∷ ess) (k ∷ ks) c n (suc i) h l = get_or-eliminated_constants ess ks
    c n i (omega arith) (omega arith)
