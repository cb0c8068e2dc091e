use Rattle.std.proofs.Common.{rules, Some, None}
use Rattle.esc_read.proofs.Readings.{plain}
use Rattle.esc_names.specs.declared.key.Order.TheVariants as order
use Rattle.esc_form.proofs.CommandLemmas.{kind_is}
use Rattle.esc_form.proofs.reader.FormReader.read_kind.Goals as goal

pub returns-in-Some-Push : goal.returns-in-Some-Push
returns-in-Some-Push c =
    kind_is c.args.sexp.now (Some order.Push) (first_of (search rules, cc))
    (rw (c.place_of.ensures, c.args_of.ensures) at c.read_push.ensures)

pub returns-in-Some-Pop : goal.returns-in-Some-Pop
returns-in-Some-Pop c =
    kind_is c.args.sexp.now (Some order.Pop) (first_of (search rules, cc))
    (plain
    (rw (c.place_of-in-Some-Pop.ensures, c.args_of-in-Some-Pop.ensures) at
    c.read_alone.ensures))

pub returns-in-Some-Prompt : goal.returns-in-Some-Prompt
returns-in-Some-Prompt c =
    kind_is c.args.sexp.now (Some order.Prompt) (first_of (search rules, cc))
    (plain
    (rw (c.place_of-in-Some-Prompt.ensures, c.args_of-in-Some-Prompt.ensures) at
    c.read_alone-in-Some-Prompt.ensures))

pub returns-in-Some-Define : goal.returns-in-Some-Define
returns-in-Some-Define c =
    kind_is c.args.sexp.now (Some order.Define) (first_of (search rules, cc))
    (rw (c.place_of-in-Some-Define.ensures, c.args_of-in-Some-Define.ensures) at
    c.read_definition.ensures)

pub returns-in-None : goal.returns-in-None
returns-in-None c = kind_is c.args.sexp.now None (first_of (search rules, cc)) c.read_goal.ensures
