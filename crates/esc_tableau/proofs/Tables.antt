-- Tables with equal parts are equal.
use Rattle.std.proofs.Common.{◌≡◌, List}
use Rattle.esc_frac.specs.Rational.{ℚ}
use Rattle.esc_tableau.specs.Table.{table}
use Rattle.esc_tableau.specs.declared.owner.Owner.{Owner}

pub same_table : {os os' cs cs' : List Owner} {ess ess' : List (List ℚ)} {ks ks' : List ℚ} → os
    ≡ os' → cs ≡ cs' → ess ≡ ess' → ks ≡ ks' → table os cs ess ks ≡ table os' cs' ess' ks'
same_table e f g h = λ i. table (e i) (f i) (g i) (h i)
