use Rattle.esc_io.proofs.PuttingLemmas.{Delivers-fails, Delivers-then}
use Rattle.esc_report.proofs.found.put_parts.Goals as goal

pub returns-in_err-put_found_opening : goal.returns-in_err-put_found_opening
returns-in_err-put_found_opening g c =
    let end = c.from_residual in
    Delivers-fails end.result _ end.ensures.0 c.in_err-put_found_opening.ensures

pub returns-in_err-put_labels : goal.returns-in_err-put_labels
returns-in_err-put_labels g c =
    let end = c.from_residual-in_err-put_labels in
    Delivers-then c.in_ok-put_found_opening.ensures
    (Delivers-fails end.result _ end.ensures.0 c.in_err-put_labels.ensures)

pub returns-in_err-put_context : goal.returns-in_err-put_context
returns-in_err-put_context g c =
    let end = c.from_residual-in_err-put_context in
    Delivers-then c.in_ok-put_found_opening.ensures
    (Delivers-then c.in_ok-put_labels.ensures
    (Delivers-fails end.result _ end.ensures.0 c.in_err-put_context.ensures))

pub returns : goal.returns
returns g c =
    Delivers-then c.in_ok-put_found_opening.ensures
    (Delivers-then c.in_ok-put_labels.ensures
    (Delivers-then c.in_ok-put_context.ensures
    c.put_classes.ensures))
