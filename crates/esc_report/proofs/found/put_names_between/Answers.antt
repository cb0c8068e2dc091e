use Rattle.esc_io.proofs.PuttingLemmas.{Delivers-fails, Delivers-then}
use Rattle.esc_report.proofs.found.put_names_between.Goals as goal

pub returns-in_err-put_all : goal.returns-in_err-put_all
returns-in_err-put_all g c =
    let end = c.from_residual in
    Delivers-fails end.result _ end.ensures.0 c.in_err-put_all.ensures

pub returns-in_err-put_names : goal.returns-in_err-put_names
returns-in_err-put_names g c =
    let end = c.from_residual-in_err-put_names in
    Delivers-then c.in_ok-put_all.ensures
    (Delivers-fails end.result _ end.ensures.0 c.in_err-put_names.ensures)

pub returns : goal.returns
returns g c =
    Delivers-then c.in_ok-put_all.ensures
    (Delivers-then c.in_ok-put_names.ensures
    c.put_all-2.ensures)
