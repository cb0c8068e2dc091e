use Rattle.esc_io.proofs.PuttingLemmas.{Delivers-fails, Delivers-then}
use Rattle.esc_report.proofs.log.put_map2.Goals as goal

pub returns-in_err-put_three_terms : goal.returns-in_err-put_three_terms
returns-in_err-put_three_terms g c =
    let end = c.from_residual in
    Delivers-fails end.result _ end.ensures.0 c.in_err-put_three_terms.ensures

pub returns-in_err-put_next_term : goal.returns-in_err-put_next_term
returns-in_err-put_next_term g c =
    let end = c.from_residual-in_err-put_next_term in
    Delivers-then c.in_ok-put_three_terms.ensures
    (Delivers-fails end.result _ end.ensures.0 c.in_err-put_next_term.ensures)

pub returns : goal.returns
returns g c =
    Delivers-then c.in_ok-put_three_terms.ensures
    (Delivers-then c.in_ok-put_next_term.ensures
    c.put_closing.ensures)
