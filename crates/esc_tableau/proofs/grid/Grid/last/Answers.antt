use Rattle.std.proofs.Common.{refl, sym, ◌∙◌}
use Rattle.esc_tableau.proofs.grid.Grid.last.Goals as goal

pub returns-in-Stops : goal.returns-in-Stops
returns-in-Stops c = (c.in-Ok.ensures.fits refl, sym c.in-Ok.ensures.next ∙ c.in-Stops.is)

pub returns-in-Pivots : goal.returns-in-Pivots
returns-in-Pivots c = (
  c.in-Ok.ensures.fits refl,
  (
    c.in-Pivots.field-0,
    c.in-Pivots.field-1,
    sym
        c.in-Ok.ensures.next ∙ c.in-Pivots.is,
  ),
)
