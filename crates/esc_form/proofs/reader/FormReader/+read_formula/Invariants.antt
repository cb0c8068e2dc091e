use Rattle.std.proofs.Common.{map, drop, ◌-◌}
use Rattle.esc_read.proofs.Readings.{Going}
use Rattle.esc_form.specs.Formulas.{formula, middle, note_of_part}
use Rattle.esc_form.proofs.NoteLoops.{Gathering}
use Rattle.esc_form.proofs.reader.FormReader.+read_formula.Given as goal

abbrev pub invariant-read_formulas-parts : goal.invariant-read_formulas-parts
invariant-read_formulas-parts l =
    Going l.fn.self.terms l.self.terms l.formulas (map formula (drop l.part-index l.parts))
    (map formula l.parts)

abbrev pub invariant-read_notes-parts : goal.invariant-read_notes-parts
invariant-read_notes-parts l =
    Gathering l.fn.self.terms l.self.terms l.notes
    (map (note_of_part l.place) (drop (l.at - 1) (middle l.parts)))
    (map (note_of_part l.place) (middle l.parts))
