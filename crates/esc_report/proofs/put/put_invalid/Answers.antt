use Rattle.esc_io.proofs.PuttingLemmas.{Delivers-fails, Delivers-then}
use Rattle.esc_report.proofs.put.put_invalid.Goals as goal

pub returns-in_err-put_found : goal.returns-in_err-put_found
returns-in_err-put_found g c =
    let end = c.from_residual in
    Delivers-fails end.result _ end.ensures.0 c.in_err-put_found.ensures

pub returns : goal.returns
returns g c =
    Delivers-then c.in_ok-put_found.ensures
    c.put_invalid_line.ensures
