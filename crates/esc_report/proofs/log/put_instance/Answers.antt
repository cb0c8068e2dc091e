use Rattle.esc_io.proofs.PuttingLemmas.{Delivers-fails, Delivers-then}
use Rattle.esc_report.proofs.log.put_instance.Goals as goal

pub returns-in_err-put_all : goal.returns-in_err-put_all
returns-in_err-put_all g c =
    let end = c.from_residual in
    Delivers-fails end.result _ end.ensures.0 c.in_err-put_all.ensures

pub returns-in_err-put_number : goal.returns-in_err-put_number
returns-in_err-put_number g c =
    let end = c.from_residual-in_err-put_number in
    Delivers-then c.in_ok-put_all.ensures
    (Delivers-fails end.result _ end.ensures.0 c.in_err-put_number.ensures)

pub returns-in_err-put_blank : goal.returns-in_err-put_blank
returns-in_err-put_blank g c =
    let end = c.from_residual-in_err-put_blank in
    Delivers-then c.in_ok-put_all.ensures
    (Delivers-then c.in_ok-put_number.ensures
    (Delivers-fails end.result _ end.ensures.0 c.in_err-put_blank.ensures))

pub returns-in_err-put_terms : goal.returns-in_err-put_terms
returns-in_err-put_terms g c =
    let end = c.from_residual-in_err-put_terms in
    Delivers-then c.in_ok-put_all.ensures
    (Delivers-then c.in_ok-put_number.ensures
    (Delivers-then c.in_ok-put_blank.ensures
    (Delivers-fails end.result _ end.ensures.0 c.in_err-put_terms.ensures)))

pub returns-in_err-put_blank-2 : goal.returns-in_err-put_blank-2
returns-in_err-put_blank-2 g c =
    let end = c.from_residual-in_err-put_blank-2 in
    Delivers-then c.in_ok-put_all.ensures
    (Delivers-then c.in_ok-put_number.ensures
    (Delivers-then c.in_ok-put_blank.ensures
    (Delivers-then c.in_ok-put_terms.ensures
    (Delivers-fails end.result _ end.ensures.0 c.in_err-put_blank-2.ensures))))

pub returns : goal.returns
returns g c =
    Delivers-then c.in_ok-put_all.ensures
    (Delivers-then c.in_ok-put_number.ensures
    (Delivers-then c.in_ok-put_blank.ensures
    (Delivers-then c.in_ok-put_terms.ensures
    (Delivers-then c.in_ok-put_blank-2.ensures
    c.put_terms-2.ensures))))
