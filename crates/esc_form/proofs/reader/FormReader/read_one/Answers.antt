use Rattle.std.proofs.Common.{rules}
use Rattle.esc_read.proofs.Readings.{gives, next, stops}
use Rattle.esc_form.proofs.PatternLemmas.{lacks}
use Rattle.esc_form.proofs.reader.FormReader.read_one.Goals as goal

pub returns-in_err-term : goal.returns-in_err-term
returns-in_err-term c =
    stops c.in_err-term.field-0.0 _ c.read_term.ensures c.in_err-term.was (search rules)

pub returns-in_err-map_err : goal.returns-in_err-map_err
returns-in_err-map_err c = next c.in_ok-term.term _ c.read_term.ensures c.in_ok-term.was
    (lacks (search rules))

pub returns : goal.returns
returns c = next c.in_ok-term.term _ c.read_term.ensures c.in_ok-term.was
    (gives (search rules))
