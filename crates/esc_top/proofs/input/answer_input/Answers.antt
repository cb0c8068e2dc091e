use Rattle.std.proofs.Common.{subst, sym}
use Rattle.esc_options.specs.declared.options.Options.{Options}
use Rattle.esc_top.specs.DeskInside.{IsNew}
use Rattle.esc_top.specs.Underway.{Came}
use Rattle.esc_top.proofs.UnderwayLemmas.{reached_at_once}
use Rattle.esc_top.proofs.input.answer_input.Goals as goal

pub returns-in_default-clause-told : goal.returns-in_default-clause-told
returns-in_default-clause-told g c =
    reached_at_once c.args.options (g.S.Source.left c.args.source.now)
    (g.K.Sink.written c.args.sink.now)

pub answer_all-answered-requires : goal.answer_all-answered-requires
answer_all-answered-requires g c =
    subst (λ (options : Options). IsNew options c.in-Ok.desk) (sym c.in-Ok.ensures.options_are)
    c.in-Ok.ensures

pub returns-clause-told : goal.returns-clause-told
returns-clause-told g c =
    subst (λ (options : Options). Came options (g.S.Source.left c.args.source.now)
    (g.S.Source.left c.answer_all-answered.new.source) (g.K.Sink.written c.args.sink.now)
    (g.K.Sink.written c.answer_all-answered.new.sink) c.answer_all-answered.result)
    c.in-Ok.ensures.options_are c.answer_all-answered.ensures.told
