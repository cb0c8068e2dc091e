use Rattle.std.proofs.Common.{rules, ◌-◌, take, drop, length}
use Rattle.esc_read.proofs.Readings.{Declares-fails, Declares-stops, Declares-then, next, passed}
use Rattle.esc_read.proofs.Readings.{refused, stops}
use Rattle.esc_read.proofs.Slices.{parted}
use Rattle.esc_form.specs.Commands.{meaning}
use Rattle.esc_form.proofs.CommandLemmas.{long_definition, no_definition, one_definition}
use Rattle.esc_form.proofs.reader.FormReader.read_definition.Goals as goal

pub returns-in_default : goal.returns-in_default
returns-in_default c =
    rw (no_definition c.args.place c.args.parts.now c.in_default.len_below)
    (refused c.refusal.ensures)

pub returns-then-bodies-gt1 : goal.returns-then-bodies-gt1
returns-then-bodies-gt1 c =
    rw (long_definition c.args.place c.args.parts.now c.signature-item.result _
    (parted c.args.parts.now c.signature-item.result c.in-len1-up.len_at_least c.signature-item.is)
    c.if-bodies-gt1.true)
    (refused (search rules))

pub returns-in_err-named : goal.returns-in_err-named
returns-in_err-named c =
    rw (one_definition c.args.place c.args.parts.now c.signature-item.result _
    (parted c.args.parts.now c.signature-item.result c.in-len1-up.len_at_least c.signature-item.is)
    c.if-bodies-gt1.false)
    (stops c.in_err-named.field-0.0 _ c.read_named.ensures c.in_err-named.was (search rules))

pub returns-in_err-count : goal.returns-in_err-count
returns-in_err-count c =
    rw (one_definition c.args.place c.args.parts.now c.signature-item.result _
    (parted c.args.parts.now c.signature-item.result c.in-len1-up.len_at_least c.signature-item.is)
    c.if-bodies-gt1.false)
    (next c.in_ok-named.named _ c.read_named.ensures c.in_ok-named.was
    (Declares-stops _ c.in_err-count.field-0.0
    (rw c.args_of.ensures at c.read_declared.ensures) c.in_err-count.was (search rules)))

pub returns-in_err-kind : goal.returns-in_err-kind
returns-in_err-kind c =
    rw (one_definition c.args.place c.args.parts.now c.signature-item.result _
    (parted c.args.parts.now c.signature-item.result c.in-len1-up.len_at_least c.signature-item.is)
    c.if-bodies-gt1.false)
    (next c.in_ok-named.named _ c.read_named.ensures c.in_ok-named.was
    (Declares-fails
    (λ n. meaning c.in_ok-named.named n
    (take (length c.args.parts.now - 1) (drop 1 c.args.parts.now))) c.in_ok-count.count
    c.in_err-kind.field-0.0
    (rw c.args_of.ensures at c.read_declared.ensures) c.in_ok-count.was
    (passed c.read_meaning.ensures (search rules)) (search rules)))

pub returns : goal.returns
returns c =
    rw (one_definition c.args.place c.args.parts.now c.signature-item.result _
    (parted c.args.parts.now c.signature-item.result c.in-len1-up.len_at_least c.signature-item.is)
    c.if-bodies-gt1.false)
    (next c.in_ok-named.named _ c.read_named.ensures c.in_ok-named.was
    (Declares-then
    (λ n. meaning c.in_ok-named.named n
    (take (length c.args.parts.now - 1) (drop 1 c.args.parts.now))) c.in_ok-count.count
    (rw c.args_of.ensures at c.read_declared.ensures) c.in_ok-count.was
    (passed c.read_meaning.ensures (search rules)) c.leave.ensures.names c.leave.ensures.scope))
