use Rattle.std.proofs.Common.{true≢false, refl, sym}
use Rattle.esc_simplex.proofs.Stopping.{ray_stops}
use Rattle.esc_simplex.proofs.maximising.lift_along.Goals as goal

pub returns-in-Err-clause-stops : goal.returns-in-Err-clause-stops
returns-in-Err-clause-stops c start =
    ray_stops start c.args.tableau.now c.raise.new.self c.args.unknown c.args.ray c.args.limit
    c.in-Err.step c.spilled.result
    c.in-Err.ensures.err c.spilled.ensures c.in-Err.ensures.step (record {
      negative = c.if-not-is_negative.ensures.below.0 refl;
      ratios = c.requires.peak.ratios;
      grows = c.requires.peak.stops;
      jams = λ fits. true≢false (sym (c.in-Err.ensures.fits.1 fits));
    })
