use Rattle.esc_io.proofs.PuttingLemmas.{Delivers-fails, Delivers-then}
use Rattle.esc_report.proofs.log.put_three_terms.Goals as goal

pub returns-in_err-put_all : goal.returns-in_err-put_all
returns-in_err-put_all g c =
    let end = c.from_residual in
    Delivers-fails end.result _ end.ensures.0 c.in_err-put_all.ensures

pub returns-in_err-put_term : goal.returns-in_err-put_term
returns-in_err-put_term g c =
    let end = c.from_residual-in_err-put_term in
    Delivers-then c.in_ok-put_all.ensures
    (Delivers-fails end.result _ end.ensures.0 c.in_err-put_term.ensures)

pub returns-in_err-put_next_term : goal.returns-in_err-put_next_term
returns-in_err-put_next_term g c =
    let end = c.from_residual-in_err-put_next_term in
    Delivers-then c.in_ok-put_all.ensures
    (Delivers-then c.in_ok-put_term.ensures
    (Delivers-fails end.result _ end.ensures.0 c.in_err-put_next_term.ensures))

pub returns : goal.returns
returns g c =
    Delivers-then c.in_ok-put_all.ensures
    (Delivers-then c.in_ok-put_term.ensures
    (Delivers-then c.in_ok-put_next_term.ensures
    c.put_next_term-2.ensures))
