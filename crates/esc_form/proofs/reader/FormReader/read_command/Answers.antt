use Rattle.std.proofs.Common.{rules}
use Rattle.esc_read.proofs.Readings.{gives, next, stops}
use Rattle.esc_form.specs.Commands.{command_reading}
use Rattle.esc_form.proofs.reader.FormReader.read_command.Goals as goal

pub returns-in_err-kind : goal.returns-in_err-kind
unfolding command_reading
returns-in_err-kind c =
    stops c.in_err-kind.field-0.0 _ c.read_kind.ensures c.in_err-kind.was (search rules)

pub returns : goal.returns
unfolding command_reading
returns c = next c.in_ok-kind.kind _ c.read_kind.ensures c.in_ok-kind.was
    (gives (search rules))
