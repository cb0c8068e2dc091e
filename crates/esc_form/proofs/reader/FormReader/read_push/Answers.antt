use Rattle.std.proofs.Common.{rules, refl}
use Rattle.esc_read.proofs.Readings.{gives, next, refused, stops}
use Rattle.esc_form.proofs.CommandLemmas.{pushed_none, pushed_some}
use Rattle.esc_form.proofs.reader.FormReader.read_push.Goals as goal

pub returns-then-parts-eq0 : goal.returns-then-parts-eq0
returns-then-parts-eq0 c =
    rw (pushed_none c.args.place c.args.parts.now c.if-parts-eq0.true) (refused c.refusal.ensures)

pub returns-in_err-formulas : goal.returns-in_err-formulas
returns-in_err-formulas c =
    rw (pushed_some c.args.place c.args.parts.now c.if-parts-eq0.false)
    (stops c.in_err-formulas.field-0.0 _ c.read_formulas.ensures c.in_err-formulas.was
    (search rules))

pub returns : goal.returns
returns c =
    rw (pushed_some c.args.place c.args.parts.now c.if-parts-eq0.false)
    (next c.in_ok-formulas.formulas _ c.read_formulas.ensures c.in_ok-formulas.was
    (gives refl))
