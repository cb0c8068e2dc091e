use Rattle.std.proofs.Common.{rules, refl}
use Rattle.esc_read.proofs.Readings.{gives, next, stops}
use Rattle.esc_form.proofs.reader.FormReader.read_goal.Goals as goal

pub returns-in_err-goal : goal.returns-in_err-goal
returns-in_err-goal c =
    stops c.in_err-goal.field-0.0 _ c.read_formula.ensures c.in_err-goal.was (search rules)

pub returns : goal.returns
returns c = next c.in_ok-goal.goal _ c.read_formula.ensures c.in_ok-goal.was
    (gives refl)
