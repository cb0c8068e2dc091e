-- What a stop on a tableau is, by its step.
use Rattle.std.proofs.Common.{◌≡◌, inr, ℕ, Some, refl, sym, subst, ◌∙◌}
use Rattle.esc_tableau.specs.Table.{Table}
use Rattle.esc_tableau.specs.declared.answers.Step.{Step}
use Rattle.esc_tableau.specs.declared.answers.Step.TheVariants.{Pivot}
use Rattle.esc_simplex.specs.Barred.{MaximisingJams, RayJams}
use Rattle.esc_simplex.specs.Steps.{MaximisingStops, SpillStops}
use Rattle.esc_simplex.specs.declared.stop.Stop.{Stop}
use Rattle.esc_simplex.specs.declared.stop.Stop.TheVariants as stop

pub ray_stops : (start old now : Table) (u x limit : ℕ) (step : Step) (s : Stop) → now ≡ old
    → SpillStops now (Some u) step s → step ≡ Pivot u x → RayJams old u x
    → MaximisingStops start now u limit s
ray_stops start old now u x limit step (stop.Spill j) same h is jams = (
  h.0,
  subst (MaximisingJams now u) (sym (h.1 ∙ is))
      (inr (refl, subst (λ t. RayJams t u x) (sym same) jams)),
)
ray_stops start old now u x limit step (stop.Form t) same h is jams = absurd h
ray_stops start old now u x limit step (stop.Pivots j) same h is jams = absurd h
ray_stops start old now u x limit step stop.Memory same h is jams = tt
