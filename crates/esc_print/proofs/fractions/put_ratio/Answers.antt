use Rattle.std.proofs.Common.{◌++◌}
use Rattle.std.specs.Prelude.{decimal}
use Rattle.esc_io.proofs.PuttingLemmas.{Delivers-fails, Delivers-then}
use Rattle.esc_print.proofs.fractions.put_ratio.Goals as goal

pub returns : goal.returns
returns g c =
    Delivers-then c.in_ok-put_numerator.ensures
    (Delivers-then c.in_ok-put_all.ensures c.put_denominator.ensures)

pub returns-in_err-put_numerator : goal.returns-in_err-put_numerator
returns-in_err-put_numerator g c =
    Delivers-fails c.from_residual.result (c.args.slash.now ++ decimal c.args.value.den)
    c.from_residual.ensures.0 c.in_err-put_numerator.ensures

pub returns-in_err-put_all : goal.returns-in_err-put_all
returns-in_err-put_all g c =
    let end = c.from_residual-in_err-put_all in
    Delivers-then c.in_ok-put_numerator.ensures
    (Delivers-fails end.result (decimal c.args.value.den) end.ensures.0 c.in_err-put_all.ensures)
