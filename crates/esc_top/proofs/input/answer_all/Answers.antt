use Rattle.std.proofs.Common.{Ok, ap, subst, sym}
use Rattle.esc_io.specs.declared.faults.Failed.{Failed}
use Rattle.esc_top.specs.Underway.{EndsByCount, Reached}
use Rattle.esc_top.specs.declared.status.Status.{Status}
use Rattle.esc_top.proofs.UnderwayLemmas.{came_broken, count_at, reached_at, reached_at_once}
use Rattle.esc_top.proofs.UnderwayLemmas.{underway_start}
use Rattle.esc_top.proofs.input.answer_all.Goals as goal

pub returns-in_default-clause-told : goal.returns-in_default-clause-told
returns-in_default-clause-told g c =
    reached_at_once c.args.desk.now.options (g.S.Source.left c.args.source.now)
    (g.K.Sink.written c.args.sink.now)

pub returns-in_err-stop-clause-told : goal.returns-in_err-stop-clause-told
returns-in_err-stop-clause-told g c =
    let options = c.args.desk.now.options in
    let left = g.S.Source.left c.args.source.now in
    let written = g.K.Sink.written c.args.sink.now in
    came_broken c.from_residual.result c.from_residual.ensures.0
    (c.in_err-stop.ensures.told options left written
    (underway_start options left written c.new-reader.result c.args.desk.now
    c.new-reader.ensures c.requires))

pub returns-clause-told : goal.returns-clause-told
returns-clause-told g c =
    let options = c.args.desk.now.options in
    let left = g.S.Source.left c.args.source.now in
    let written = g.K.Sink.written c.args.sink.now in
    let stops = c.in_ok-stop.ensures.told options left written
    (underway_start options left written c.new-reader.result c.args.desk.now
    c.new-reader.ensures c.requires) in
    subst (λ (status : Status). Reached options left
    (g.S.Source.left c.answer_pieces.new.source) written
    (g.K.Sink.written c.answer_pieces.new.sink) status) (sym c.status_at.ensures)
    (reached_at Failed c.answer_pieces.new.reader c.answer_pieces.new.desk c.in_ok-stop.stop
    (λ hungry. c.in_ok-stop.ensures.ended (ap Ok hungry)) stops)

pub returns-clause-reads : goal.returns-clause-reads
returns-clause-reads g c =
    let before = g.S.Source.faults c.args.source.now in
    let now = g.S.Source.faults c.answer_pieces.new.source in
    subst (λ (status : Status). EndsByCount {E = Failed} (Ok status) before now)
    (sym c.status_at.ensures)
    (count_at Failed Failed c.in_ok-stop.stop c.answer_pieces.new.desk.all_proved before now
    c.in_ok-stop.ensures.reads)
