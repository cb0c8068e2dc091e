-- What `==` tests on substitutions, and that the test tells which are equal.
use Rattle.std.specs.Prelude.{◌≡◌, Bool}
use Rattle.std.specs.Bool.{Decides}
use Rattle.std.specs.Cmp.{IsEquivalence, decided}
use Rattle.esc_match.specs.declared.substitution.Substitution.{Substitution}
use Rattle.esc_match.specs.contracts.substitution.Substitution as substitution
use Rattle.esc_term.specs.Same.{same, same-is}

pub same_substitution : Substitution → Substitution → Bool
same_substitution = same substitution.the_row.coded

pub same_substitution-is : (s t : Substitution) → Decides (same_substitution s t) (s ≡ t)
unfolding same_substitution
same_substitution-is = same-is substitution.the_row.coded

pub same_substitution-equivalence : IsEquivalence same_substitution
same_substitution-equivalence = decided same_substitution same_substitution-is
