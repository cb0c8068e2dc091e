use Rattle.std.proofs.Common.{◌≡◌, pos, sym, ap, ◌∙◌}
use Rattle.esc_frac.proofs.ShortWays.{common_den-same}
use Rattle.esc_frac.proofs.Steps.{taken_as, same_dens}
use Rattle.esc_frac.proofs.frac.Frac.common_den.Goals as goal

pub returns-then-a_den-b_den : goal.returns-then-a_den-b_den
returns-then-a_den-b_den c =
    let same : c.args.a.den ≡ c.args.b.den = same_dens _ _ _ _ c.if-a_den-b_den.true
    c.den-a_den.ensures.fits c.den-a_den.ensures.value c.den-b_den.ensures.fits
    c.den-b_den.ensures.value in
    taken_as c.den-a_den.ensures.fits (c.den-a_den.ensures.value
    ∙ sym (ap pos (common_den-same c.args.a c.args.b same)))
