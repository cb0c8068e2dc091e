use Rattle.esc_names.specs.BareNames.{digits_of}
use Rattle.esc_read.specs.Tokens.{decimal_value}
use Rattle.esc_read.proofs.Numerals.{negated, positive, written}
use Rattle.esc_read.proofs.numeral.read_numeral.Goals as goal

pub returns : goal.returns
returns c =
    let value = rw c.digits_of.ensures at c.value_of-value.ensures in
    let size =
    written c.value_of-value.result
    (decimal_value (digits_of c.args.text.now)) value c.if-value-gt-LARGEST.false in
    positive c.args.place c.args.text.now c.value_of-value.result size c.if-value-gt-LARGEST.false
    c.if-is_negative.ensures

pub returns-then-is_negative : goal.returns-then-is_negative
returns-then-is_negative c =
    let value = rw c.digits_of.ensures at c.value_of-value.ensures in
    let size =
    written c.value_of-value.result
    (decimal_value (digits_of c.args.text.now)) value c.if-value-gt-LARGEST.false in
    negated c.args.place c.args.text.now c.value_of-value.result size c.if-value-gt-LARGEST.false
    c.if-is_negative.ensures
