use Rattle.std.proofs.Common.{◌≡◌, ℕ, sym, subst}
use Rattle.esc_tableau.specs.Grid.{table_of}
use Rattle.esc_tableau.specs.Table.{Table, IsWithin, sample}
use Rattle.esc_tableau.proofs.SettlingLaws.{within_stays}
use Rattle.esc_tableau.proofs.tableau.Tableau.settle.Goals as goal

pub returns-clause-values : goal.returns-clause-values
returns-clause-values c = subst (λ (t : Table). (u : ℕ) → sample (table_of c.settle.new.self) u
    ≡ sample t u) c.self.view_is c.settle.ensures.values

pub returns-clause-within : goal.returns-clause-within
returns-clause-within c = within_stays (table_of c.self.inside.grid) (table_of c.settle.new.self)
    c.settle.ensures.same c.settle.ensures.values
    (subst (λ (t : Table). IsWithin t (sample t)) (sym c.self.view_is) c.requires)
