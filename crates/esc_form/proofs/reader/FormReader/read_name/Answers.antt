use Rattle.std.proofs.Common.{rules, sym}
use Rattle.esc_read.proofs.Readings.{gives, next, stops}
use Rattle.esc_form.proofs.reader.FormReader.read_name.Goals as goal

pub returns-in_err-term : goal.returns-in_err-term
returns-in_err-term c =
    stops c.in_err-term.field-0.0 _ c.read_name_term.ensures c.in_err-term.was (search rules)

pub returns : goal.returns
returns c = next c.in_ok-term.term _ c.read_name_term.ensures c.in_ok-term.was
    (gives (sym c.holds.ensures))
