use Rattle.std.proofs.Common.{map, drop}
use Rattle.esc_read.proofs.Readings.{Going}
use Rattle.esc_form.specs.Patterns.{pattern}
use Rattle.esc_form.proofs.reader.FormReader.read_patterns.Given as goal

abbrev pub invariant-parts : goal.invariant-parts
invariant-parts l =
    Going l.fn.self.terms l.self.terms l.patterns (map pattern (drop l.part-index l.parts))
    (map pattern l.parts)
