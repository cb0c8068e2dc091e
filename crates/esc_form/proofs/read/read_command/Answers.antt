use Rattle.std.proofs.Common.{◌≡◌, ◌∙◌, ap, []}
use Rattle.esc_read.specs.Reading.{Context}
use Rattle.esc_form.proofs.CommandLemmas.{command_is}
use Rattle.esc_form.proofs.read.read_command.Goals as goal

pub returns : goal.returns
returns c =
    let taken : c.replace.result ≡ c.args.names.now = c.replace.ensures.value in
    command_is c.args.sexp.now c.args.names.now c.into_names.result
    (c.new-reader.ensures
    ∙ ap (λ names. let t : Context = record { names = names; scope = [] } in t) taken)
    c.into_names.ensures c.read_command-read.ensures
