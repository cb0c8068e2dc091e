use Rattle.std.proofs.Common.{subst}
use Rattle.esc_options.specs.declared.options.Limits.{Limits}
use Rattle.esc_answers.specs.Answers.{Answers}
use Rattle.esc_session.specs.View.{state_of}
use Rattle.esc_top.proofs.Commands.{expression_answered, read_closed}
use Rattle.esc_top.proofs.desk.Desk.answer.Goals as goal

pub command-requires-clause-closed : goal.command-requires-clause-closed
command-requires-clause-closed c =
    read_closed c.reading_laws.ensures.closed c.reading_laws.ensures.numbered
    c.read_command-read.new.names c.args.sexp.now c.in-Ok.command c.rows_differ.ensures
    (λ number numbers. c.in-Ok.ensures.told number numbers)

pub returns-in-Ok-clause-answers : goal.returns-in-Ok-clause-answers
returns-in-Ok-clause-answers c =
    let before = state_of c.args.self.now.session in
    let now = state_of c.command.new.self in
    expression_answered c.args.self.now.options.limits c.read_command-read.new.names before now
    c.args.sexp.now c.in-Ok.command c.command.result
    (λ number numbers. c.in-Ok.ensures.told number numbers)
    (subst (λ (limits : Limits). Answers before c.in-Ok.command limits c.command.result now)
    c.requires.order.limits c.command.ensures.answers)
