use Rattle.std.proofs.Common.{rules, sym}
use Rattle.esc_read.proofs.Readings.{gives, next, stops}
use Rattle.esc_form.proofs.CommandLemmas.{no_meaning, some_meaning}
use Rattle.esc_form.proofs.PatternLemmas.{lacks}
use Rattle.esc_form.proofs.reader.FormReader.read_meaning.Goals as goal

pub returns-in_default : goal.returns-in_default
returns-in_default c =
    rw (no_meaning c.args.named c.args.count c.args.bodies.now c.in_default.len_below)
    (gives (sym c.definition_of.ensures))

pub returns-in_err-body : goal.returns-in_err-body
returns-in_err-body c =
    rw (some_meaning c.args.named c.args.count c.args.bodies.now c.body-item.result
    c.in-len1-up.len_at_least c.body-item.is)
    (stops c.in_err-body.field-0.0 _ c.read_formula.ensures c.in_err-body.was (search rules))

pub returns-in_err-rule : goal.returns-in_err-rule
returns-in_err-rule c =
    rw (some_meaning c.args.named c.args.count c.args.bodies.now c.body-item.result
    c.in-len1-up.len_at_least c.body-item.is)
    (next c.in_ok-body.body _ c.read_formula.ensures c.in_ok-body.was (lacks (search rules)))

pub returns : goal.returns
returns c =
    rw (some_meaning c.args.named c.args.count c.args.bodies.now c.body-item.result
    c.in-len1-up.len_at_least c.body-item.is)
    (next c.in_ok-body.body _ c.read_formula.ensures c.in_ok-body.was (gives (search rules)))
