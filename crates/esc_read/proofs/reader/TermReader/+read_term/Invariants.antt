use Rattle.std.proofs.Common.{map, drop}
use Rattle.esc_read.specs.Terms.{term}
use Rattle.esc_read.proofs.Readings.{Going}
use Rattle.esc_read.proofs.reader.TermReader.+read_term.Given as goal

abbrev pub invariant-read_terms-parts : goal.invariant-read_terms-parts
invariant-read_terms-parts l =
    Going l.fn.self l.self l.terms (map term (drop l.part-index l.parts)) (map term l.parts)
