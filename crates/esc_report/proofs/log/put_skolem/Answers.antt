use Rattle.esc_io.proofs.PuttingLemmas.{Delivers-fails, Delivers-then}
use Rattle.esc_report.proofs.log.put_skolem.Goals as goal

pub returns-in_err-put_all : goal.returns-in_err-put_all
returns-in_err-put_all g c =
    let end = c.from_residual in
    Delivers-fails end.result _ end.ensures.0 c.in_err-put_all.ensures

pub returns-in_err-put_number : goal.returns-in_err-put_number
returns-in_err-put_number g c =
    let end = c.from_residual-in_err-put_number in
    Delivers-then c.in_ok-put_all.ensures
    (Delivers-fails end.result _ end.ensures.0 c.in_err-put_number.ensures)

pub returns-in_err-put_blank : goal.returns-in_err-put_blank
returns-in_err-put_blank g c =
    let end = c.from_residual-in_err-put_blank in
    Delivers-then c.in_ok-put_all.ensures
    (Delivers-then c.in_ok-put_number.ensures
    (Delivers-fails end.result _ end.ensures.0 c.in_err-put_blank.ensures))

pub returns : goal.returns
returns g c =
    Delivers-then c.in_ok-put_all.ensures
    (Delivers-then c.in_ok-put_number.ensures
    (Delivers-then c.in_ok-put_blank.ensures
    c.put_terms.ensures))
