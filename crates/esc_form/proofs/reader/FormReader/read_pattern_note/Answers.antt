use Rattle.std.proofs.Common.{rules}
use Rattle.esc_read.proofs.Readings.{gives, next, stops}
use Rattle.esc_form.proofs.reader.FormReader.read_pattern_note.Goals as goal

pub returns-in_err-patterns : goal.returns-in_err-patterns
returns-in_err-patterns c =
    stops c.in_err-patterns.field-0.0 _ c.read_patterns.ensures c.in_err-patterns.was (search rules)

pub returns : goal.returns
returns c = next c.in_ok-patterns.patterns _ c.read_patterns.ensures c.in_ok-patterns.was
    (gives (search rules))
