use Rattle.std.proofs.Common.{rules, get_or}
use Rattle.esc_read.proofs.Readings.{next, plain, refused, stops}
use Rattle.esc_form.proofs.FormulaLemmas.{no_relation, second_part, yes_relation}
use Rattle.esc_form.proofs.reader.FormReader.read_relation.Goals as goal

pub returns-then-parts-ne2 : goal.returns-then-parts-ne2
returns-then-parts-ne2 c =
    rw (no_relation c.args.place c.args.relation c.args.parts.now c.if-parts-ne2.true)
    (refused c.refusal.ensures)

pub returns-in_err-left : goal.returns-in_err-left
returns-in_err-left c =
    rw (yes_relation c.args.place c.args.relation c.args.parts.now c.index-parts-0.result
    (get_or c.args.parts.now 1 c.index-parts-0.result) c.if-parts-ne2.false c.index-parts-0.is
    (second_part c.args.parts.now c.index-parts-0.result c.if-parts-ne2.false))
    (stops c.in_err-left.field-0.0 _ c.read_term.ensures c.in_err-left.was
    (search rules))

pub returns-in_err-right : goal.returns-in_err-right
returns-in_err-right c =
    rw (yes_relation c.args.place c.args.relation c.args.parts.now c.index-parts-0.result
    c.index-parts-1.result c.if-parts-ne2.false c.index-parts-0.is c.index-parts-1.is)
    (next c.in_ok-left.left _ c.read_term.ensures c.in_ok-left.was
    (stops c.in_err-right.field-0.0 _ c.read_term-2.ensures c.in_err-right.was (search rules)))

pub returns : goal.returns
returns c =
    rw (yes_relation c.args.place c.args.relation c.args.parts.now c.index-parts-0.result
    c.index-parts-1.result c.if-parts-ne2.false c.index-parts-0.is c.index-parts-1.is)
    (next c.in_ok-left.left _ c.read_term.ensures c.in_ok-left.was
    (next c.in_ok-right.right _ c.read_term-2.ensures c.in_ok-right.was
    (plain (c.built.ensures _ c.related.ensures))))
