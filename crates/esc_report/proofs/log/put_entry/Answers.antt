use Rattle.esc_io.proofs.PuttingLemmas.{Delivers-fails, Delivers-then}
use Rattle.esc_report.specs.LogText.{entry_text}
use Rattle.esc_report.proofs.log.put_entry.Goals as goal

pub returns-in_err-put_margin : goal.returns-in_err-put_margin
unfolding entry_text
returns-in_err-put_margin g c =
    let end = c.from_residual in
    Delivers-fails end.result _ end.ensures.0 c.in_err-put_margin.ensures

pub returns-in_err-put_number : goal.returns-in_err-put_number
unfolding entry_text
returns-in_err-put_number g c =
    let end = c.from_residual-in_err-put_number in
    Delivers-then c.in_ok-put_margin.ensures
    (Delivers-fails end.result _ end.ensures.0 c.in_err-put_number.ensures)

pub returns-in_err-put_blank : goal.returns-in_err-put_blank
unfolding entry_text
returns-in_err-put_blank g c =
    let end = c.from_residual-in_err-put_blank in
    Delivers-then c.in_ok-put_margin.ensures
    (Delivers-then c.in_ok-put_number.ensures
    (Delivers-fails end.result _ end.ensures.0 c.in_err-put_blank.ensures))

pub returns-in_err-put_fact : goal.returns-in_err-put_fact
unfolding entry_text
returns-in_err-put_fact g c =
    let end = c.from_residual-in_err-put_fact in
    Delivers-then c.in_ok-put_margin.ensures
    (Delivers-then c.in_ok-put_number.ensures
    (Delivers-then c.in_ok-put_blank.ensures
    (Delivers-fails end.result _ end.ensures.0 c.in_err-put_fact.ensures)))

pub returns : goal.returns
unfolding entry_text
returns g c =
    Delivers-then c.in_ok-put_margin.ensures
    (Delivers-then c.in_ok-put_number.ensures
    (Delivers-then c.in_ok-put_blank.ensures
    (Delivers-then c.in_ok-put_fact.ensures
    c.put_formula_end.ensures)))
