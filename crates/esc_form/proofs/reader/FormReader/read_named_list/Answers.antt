use Rattle.std.proofs.Common.{rules, ◌∙◌, ap}
use Rattle.esc_read.proofs.Readings.{gives, next, refused, stops}
use Rattle.esc_form.specs.Commands.{is_name}
use Rattle.esc_form.proofs.CommandLemmas.{empty_name, named_name, other_name}
use Rattle.esc_form.proofs.reader.FormReader.read_named_list.Goals as goal

pub returns-in_default : goal.returns-in_default
returns-in_default c =
    rw (empty_name c.args.place c.args.items.now c.in_default.len_below) (refused c.refusal.ensures)

pub returns-then-not-is_name : goal.returns-then-not-is_name
returns-then-not-is_name c =
    rw (other_name c.args.place c.args.items.now c.head-item.result c.in-len1-up.len_at_least
    c.head-item.is (c.if-not-is_name.ensures ∙ ap is_name c.token_of.ensures))
    (refused (search rules))

pub returns-in_err-name : goal.returns-in_err-name
returns-in_err-name c =
    rw (named_name c.args.place c.args.items.now c.head-item.result c.in-len1-up.len_at_least
    c.head-item.is (c.if-not-is_name.ensures ∙ ap is_name c.token_of.ensures))
    (stops c.in_err-name.field-0.0 _
    (rw (c.place_of.ensures, c.text_of.ensures) at c.read_symbol.ensures) c.in_err-name.was
    (search rules))

pub returns : goal.returns
returns c =
    rw (named_name c.args.place c.args.items.now c.head-item.result c.in-len1-up.len_at_least
    c.head-item.is (c.if-not-is_name.ensures ∙ ap is_name c.token_of.ensures))
    (next c.in_ok-name.name _
    (rw (c.place_of.ensures, c.text_of.ensures) at c.read_symbol.ensures) c.in_ok-name.was
    (gives (search rules)))
