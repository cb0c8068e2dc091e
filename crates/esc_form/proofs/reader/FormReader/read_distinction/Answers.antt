use Rattle.std.proofs.Common.{rules, refl}
use Rattle.esc_read.proofs.Readings.{gives, next, refused, stops}
use Rattle.esc_form.proofs.PatternLemmas.{distinct_none, distinct_some}
use Rattle.esc_form.proofs.reader.FormReader.read_distinction.Goals as goal

pub returns-then-parts-eq0 : goal.returns-then-parts-eq0
returns-then-parts-eq0 c =
    rw (distinct_none c.args.place c.args.parts.now c.if-parts-eq0.true) (refused c.refusal.ensures)

pub returns-in_err-terms : goal.returns-in_err-terms
returns-in_err-terms c =
    rw (distinct_some c.args.place c.args.parts.now c.if-parts-eq0.false)
    (stops c.in_err-terms.field-0.0 _ c.read_terms.ensures c.in_err-terms.was (search rules))

pub returns : goal.returns
returns c =
    rw (distinct_some c.args.place c.args.parts.now c.if-parts-eq0.false)
    (next c.in_ok-terms.terms _ c.read_terms.ensures c.in_ok-terms.was
    (gives refl))
