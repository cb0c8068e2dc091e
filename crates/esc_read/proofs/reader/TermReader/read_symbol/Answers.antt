use Rattle.std.proofs.Common.{rules}
use Rattle.esc_read.specs.Names.{symbol}
use Rattle.esc_read.proofs.Readings.{next, plain, stops}
use Rattle.esc_read.proofs.reader.TermReader.read_symbol.Goals as goal

pub returns-in_err-permit : goal.returns-in_err-permit
unfolding symbol
returns-in_err-permit c =
    stops c.in_err-permit.field-0.0 _ (plain c.permit.ensures) c.in_err-permit.was (search rules)

pub returns : goal.returns
unfolding symbol
returns c =
    next c.in_ok-permit.field-0 _ (plain c.permit.ensures) c.in_ok-permit.was c.number_of.ensures
