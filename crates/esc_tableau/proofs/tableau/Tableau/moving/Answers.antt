use Rattle.std.proofs.Common.{subst}
use Rattle.std.specs.Prelude.{IfOk}
use Rattle.esc_tableau.specs.Moving.{AreMoving}
use Rattle.esc_tableau.specs.Table.{Table}
use Rattle.esc_tableau.proofs.tableau.Tableau.moving.Goals as goal

pub returns : goal.returns
returns c = subst (λ (t : Table). IfOk c.moving.result (λ v. AreMoving t v.items)) c.self.view_is
    c.moving.ensures
