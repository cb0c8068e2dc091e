use Rattle.std.proofs.Common.{◌≡◌, subst}
use Rattle.std.specs.Prelude.{IfOk}
use Rattle.esc_read.proofs.Readings.{Plain-give}
use Rattle.esc_form.proofs.build.built.Goals as goal

pub returns-in-Ok : goal.returns-in-Ok
returns-in-Ok c f e =
    let same : c.in-Ok.formula ≡ f = subst (λ o. IfOk o (λ g. g ≡ f)) c.in-Ok.is e in
    rw same (Plain-give f)
