use Rattle.std.proofs.Common.{rules}
use Rattle.esc_read.proofs.Readings.{Going-ends, Going-fails, Going-next}
use Rattle.esc_form.specs.Patterns.{pattern}
use Rattle.esc_form.proofs.reader.FormReader.read_patterns.Goals as goal

pub returns-in_err-pattern : goal.returns-in_err-pattern
returns-in_err-pattern c =
    Going-fails pattern c.args.parts.now c.parts.part-index c.part-item.result
    c.in_err-pattern.field-0.0 c.parts-test.true c.part-item.is c.parts.invariant
    c.read_pattern.ensures c.in_err-pattern.was (search rules)

pub parts-preserved : goal.parts-preserved
parts-preserved c =
    Going-next pattern c.args.parts.now c.parts.part-index c.part-item.result
    c.in_ok-pattern.pattern c.parts-test.true c.part-item.is c.parts.invariant
    c.read_pattern.ensures c.in_ok-pattern.was (search rules)

pub returns : goal.returns
returns c =
    Going-ends pattern c.args.parts.now c.parts.part-index c.parts-test.false c.parts.invariant
