use Rattle.std.proofs.Common.{map}
use Rattle.std.specs.Prelude.{string_bytes}
use Rattle.esc_top.proofs.RanLemmas.{meets_came, met_at_once, met_bad_words}
use Rattle.esc_top.proofs.top.answer.Goals as goal

pub returns-in-Ok-clause-meets : goal.returns-in-Ok-clause-meets
returns-in-Ok-clause-meets g c =
    meets_came (g.S.Source.left c.args.source.now) (g.S.Source.left c.answer_input.new.source)
    (g.K.Sink.written c.args.sink.now) (g.K.Sink.written c.answer_input.new.sink)
    (map string_bytes c.args.words.now) c.in-Ok.options c.answer_input.result
    c.in-Ok.ensures.asks c.answer_input.ensures.told

pub returns-in-Err-Bad-clause-meets : goal.returns-in-Err-Bad-clause-meets
returns-in-Err-Bad-clause-meets g c =
    met_bad_words (map string_bytes c.args.words.now) (g.S.Source.left c.args.source.now)
    (g.K.Sink.written c.args.sink.now)
    (rw c.in-Err-Bad.field-0-is at c.in-Err-Bad.ensures.asks)

pub returns-in-Err-Memory-clause-meets : goal.returns-in-Err-Memory-clause-meets
returns-in-Err-Memory-clause-meets g c =
    met_at_once (map string_bytes c.args.words.now) (g.S.Source.left c.args.source.now)
    (g.K.Sink.written c.args.sink.now)
