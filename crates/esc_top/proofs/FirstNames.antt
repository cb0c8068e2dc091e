-- The names that are always there differ.
use Rattle.std.proofs.Common.{◌≡◌, ℕ, zero, suc, ◌+◌, ◌*◌, List, Option, Some, None, ◌==◌, true, false, get_or, refl, sym, ap, ◌∙◌}
use Rattle.std.proofs.lemmas.Bool.Decides.{Decides-eqb}
use Rattle.esc_names.specs.Numbering.{first_names}
use Rattle.esc_names.specs.Rows.{HasDistinctRows}

-- the first two bytes tell them apart
front : Option (List ℕ) → ℕ
front None = 0
front (Some text) = get_or text 0 0 * 1000 + get_or text 1 0

apart : (m n : ℕ) → m ≡ n → (m == n) ≡ false → ⊥
apart m n e h = let same : (m == n) ≡ true = (Decides-eqb m n).1 e in cc

pub first_distinct : HasDistinctRows first_names
unfolding front
first_distinct zero zero text h k = refl
first_distinct zero (suc zero) text h k = absurd (apart 64116 115101 (ap front (h ∙ sym k)) refl)
first_distinct zero (suc (suc zero)) text h k = absurd
    (apart 64116 115116 (ap front (h ∙ sym k)) refl)
first_distinct zero (suc (suc (suc j))) text h k = cc
first_distinct (suc zero) zero text h k = absurd (apart 115101 64116 (ap front (h ∙ sym k)) refl)
first_distinct (suc zero) (suc zero) text h k = refl
first_distinct (suc zero) (suc (suc zero)) text h k = absurd
    (apart 115101 115116 (ap front (h ∙ sym k)) refl)
first_distinct (suc zero) (suc (suc (suc j))) text h k = cc
first_distinct (suc (suc zero)) zero text h k = absurd
    (apart 115116 64116 (ap front (h ∙ sym k)) refl)
first_distinct (suc (suc zero)) (suc zero) text h k = absurd
    (apart 115116 115101 (ap front (h ∙ sym k)) refl)
first_distinct (suc (suc zero)) (suc (suc zero)) text h k = refl
first_distinct (suc (suc zero)) (suc (suc (suc j))) text h k = cc
first_distinct (suc (suc (suc i))) j text h k = cc
