use Rattle.std.proofs.Common.{rules}
use Rattle.esc_read.proofs.Readings.{Reads-lacking, Reads-number}
use Rattle.esc_read.proofs.reader.number_of.Goals as goal

pub returns-in-Ok : goal.returns-in-Ok
returns-in-Ok c scope =
    Reads-number c.args.text.now c.in-Ok.symbol scope (search rules) (search rules)

pub returns-in-Err : goal.returns-in-Err
returns-in-Err c scope = Reads-lacking _ (search rules)
