use Rattle.std.proofs.Common.{◌≡◌, ℕ, ◌<◌, length, subst}
use Rattle.esc_frac.specs.Rational.{zero_ℚ}
use Rattle.esc_tableau.specs.Grid.{table_of}
use Rattle.esc_tableau.specs.Table.{Table, IsSolution, column, sample}
use Rattle.esc_tableau.proofs.SampleLaws.{IsSolution-sample, sample-column}
use Rattle.esc_tableau.proofs.tableau.Tableau.value.Goals as goal

pub returns-clause-solution : goal.returns-clause-solution
returns-clause-solution c = subst (λ (t : Table). IsSolution t (sample t)) c.self.view_is
    (IsSolution-sample (table_of c.self.inside.grid) c.self.invariant)

pub returns-clause-columns : goal.returns-clause-columns
returns-clause-columns c =
    subst (λ (t : Table). (j : ℕ) → j < length t.columns → sample t (column t j) ≡ zero_ℚ)
    c.self.view_is (sample-column (table_of c.self.inside.grid) c.self.invariant)
