use Rattle.std.proofs.Common.{drop}
use Rattle.esc_read.proofs.Declaring.{Declaring}
use Rattle.esc_read.proofs.reader.TermReader.read_declared.Given as goal

abbrev pub invariant-items : goal.invariant-items
invariant-items l = Declaring l.fn.self l.self l.place (drop l.place l.items) l.items
