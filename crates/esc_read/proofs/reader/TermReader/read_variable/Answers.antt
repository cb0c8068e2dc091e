use Rattle.std.proofs.Common.{rules, refl, Ok, Err}
use Rattle.esc_read.proofs.Readings.{Plain-memory, Plain-passed}
use Rattle.esc_read.proofs.reader.TermReader.read_variable.Goals as goal

pub returns-in_err-check_variable-clause-read : goal.returns-in_err-check_variable-clause-read
returns-in_err-check_variable-clause-read c =
    Plain-passed
    (Err c.in_err-check_variable.field-0.0) c.check_variable.ensures c.in_err-check_variable.was
    (search rules)

pub returns-in-Ok-clause-read : goal.returns-in-Ok-clause-read
returns-in-Ok-clause-read c =
    Plain-passed
    (Ok c.in_ok-check_variable.field-0) c.check_variable.ensures c.in_ok-check_variable.was refl

pub returns-in-Err-clause-read : goal.returns-in-Err-clause-read
returns-in-Err-clause-read c = Plain-memory _
