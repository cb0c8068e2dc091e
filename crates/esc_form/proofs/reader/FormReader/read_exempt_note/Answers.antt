use Rattle.std.proofs.Common.{rules}
use Rattle.esc_read.proofs.Readings.{gives, next, stops}
use Rattle.esc_form.proofs.reader.FormReader.read_exempt_note.Goals as goal

pub returns-in_err-exempt : goal.returns-in_err-exempt
returns-in_err-exempt c =
    stops c.in_err-exempt.field-0.0 _ c.read_terms.ensures c.in_err-exempt.was (search rules)

pub returns : goal.returns
returns c = next c.in_ok-exempt.exempt _ c.read_terms.ensures c.in_ok-exempt.was
    (gives (search rules))
