use Rattle.std.proofs.Common.{rules, sym}
use Rattle.esc_read.specs.Names.{label}
use Rattle.esc_read.proofs.Readings.{refused}
use Rattle.esc_read.proofs.reader.TermReader.read_label.Goals as goal

pub returns-in-List : goal.returns-in-List
unfolding label
returns-in-List c = rw (sym c.token_of.ensures, c.in-List.is) (refused (search rules))
