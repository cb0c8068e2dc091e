use Rattle.std.proofs.Common.{◌≡◌, ◌∙◌, ◌++◌, ℕ, ap, arith, length, length-append, subst, true}
use Rattle.esc_io.specs.declared.faults.Failed.{Failed}
use Rattle.esc_sexp.specs.Unread.{Unread}
use Rattle.esc_top.specs.Ran.{IsCounted}
use Rattle.esc_top.specs.Underway.{StopsByCount}
use Rattle.esc_top.proofs.UnderwayLemmas.{broken_flush, ended_count, reached_read_fault}
use Rattle.esc_top.proofs.UnderwayLemmas.{reached_too_much, reached_unfed, stops_broken}
use Rattle.esc_top.proofs.UnderwayLemmas.{stops_ended, stops_hungry, underway_fed}
use Rattle.esc_top.proofs.UnderwayLemmas.{underway_finished, underway_flushed}
use Rattle.esc_top.proofs.input.answer_pieces.Goals as goal

pub returns-in-Ended-clause-told : goal.returns-in-Ended-clause-told
returns-in-Ended-clause-told g c = λ options left written h.
    stops_ended Failed c.answer_whole.new.reader c.answer_whole.new.desk c.in_ok-status.field-0
    c.in-Ended.status c.in-Ended.is
    (c.in_ok-status.ensures.told options left (g.S.Source.left c.pieces.source) written
    (c.pieces.invariant.told options left written h))

pub returns-in-Ended-clause-reads : goal.returns-in-Ended-clause-reads
returns-in-Ended-clause-reads g c =
    let count = g.S.Source.faults c.pieces.source in
    subst (λ (n : ℕ). IsCounted c.in-Ended.status n count) c.pieces.invariant.reads
    (ended_count Failed c.in_ok-status.field-0 c.in-Ended.status count count c.in-Ended.is
    (c.in_ok-status.ensures.reads count))

pub returns-in_err-flush-clause-told : goal.returns-in_err-flush-clause-told
returns-in_err-flush-clause-told g c = λ options left written h.
    let now = stops_hungry Failed c.answer_whole.new.reader c.answer_whole.new.desk
    c.in_ok-status.field-0 c.in_default.is
    (c.in_ok-status.ensures.told options left (g.S.Source.left c.pieces.source) written
    (c.pieces.invariant.told options left written h)) in
    stops_broken c.answer_whole.new.reader c.answer_whole.new.desk
    c.from_residual-in_err-flush.result c.from_residual-in_err-flush.ensures.0
    (broken_flush c.answer_whole.new.reader c.answer_whole.new.desk now.0
    c.in_err-flush.ensures.bytes)

pub pieces-preserved : goal.pieces-preserved
pieces-preserved g c =
    let fed = c.in-Fed.ensures.fed in
    let open_end = c.answer_whole.ensures.finished ∙ c.pieces.invariant.open_end in
    let bytes : c.feed_piece.new.reader.bytes ≡ c.answer_whole.new.reader.bytes
    ++ fed.0 = ap (λ (u : Unread). u.bytes) fed.5 in
    let place : c.feed_piece.new.reader.place ≡ c.answer_whole.new.reader.place = ap
    (λ (u : Unread). u.place) fed.5 in
    record {
      told = λ options left written h.
          let now = stops_hungry Failed c.answer_whole.new.reader c.answer_whole.new.desk
          c.in_ok-status.field-0 c.in_default.is
          (c.in_ok-status.ensures.told options left (g.S.Source.left c.pieces.source) written
          (c.pieces.invariant.told options left written h)) in
          underway_fed c.answer_whole.new.reader c.feed_piece.new.reader
          c.answer_whole.new.desk fed.0
          (underway_flushed now.0 c.in_ok-flush.ensures.bytes) fed.1 open_end fed.5
          (omega (arith, fed.2, fed.4, c.answer_whole.ensures.end, c.pieces.invariant.room));
      order = c.answer_whole.ensures.order;
      few = omega (arith, place, c.answer_whole.ensures.few);
      open_end = ap (λ (u : Unread). u.finished) fed.5 ∙ open_end;
      room = omega (
        arith,
        place,
        ap length bytes,
        length-append c.answer_whole.new.reader.bytes
            fed.0,
        fed.2,
        fed.4,
        c.answer_whole.ensures.end,
        c.pieces.invariant.room,
      );
      reads = c.in-Fed.ensures.count ∙ c.pieces.invariant.reads;
      writes = c.in_ok-flush.ensures.cause.kept ∙ (c.in_ok-status.ensures.cause.kept
          ∙ c.pieces.invariant.writes);
    }

pub returns-in-ReadFault-clause-told : goal.returns-in-ReadFault-clause-told
returns-in-ReadFault-clause-told g c = λ options left written h.
    let now = stops_hungry Failed c.answer_whole.new.reader c.answer_whole.new.desk
    c.in_ok-status.field-0 c.in_default.is
    (c.in_ok-status.ensures.told options left (g.S.Source.left c.pieces.source) written
    (c.pieces.invariant.told options left written h)) in
    reached_read_fault c.answer_whole.new.reader c.answer_whole.new.desk
    (c.answer_whole.ensures.finished ∙ c.pieces.invariant.open_end)
    (underway_flushed now.0 c.in_ok-flush.ensures.bytes) now.1 c.in-ReadFault.ensures.fed.0

pub returns-in-TooMuch-clause-told : goal.returns-in-TooMuch-clause-told
returns-in-TooMuch-clause-told g c = λ options left written h.
    let now = stops_hungry Failed c.answer_whole.new.reader c.answer_whole.new.desk
    c.in_ok-status.field-0 c.in_default.is
    (c.in_ok-status.ensures.told options left (g.S.Source.left c.pieces.source) written
    (c.pieces.invariant.told options left written h)) in
    let fed = c.in-TooMuch.ensures.fed in
    reached_too_much c.answer_whole.new.reader c.answer_whole.new.desk fed.0
    (c.answer_whole.ensures.finished ∙ c.pieces.invariant.open_end)
    (underway_flushed now.0 c.in_ok-flush.ensures.bytes) now.1 fed.1
    (omega (arith, fed.2, c.answer_whole.ensures.end, c.pieces.invariant.room))

pub returns-in-Memory-clause-told : goal.returns-in-Memory-clause-told
returns-in-Memory-clause-told g c = λ options left written h.
    let now = stops_hungry Failed c.answer_whole.new.reader c.answer_whole.new.desk
    c.in_ok-status.field-0 c.in_default.is
    (c.in_ok-status.ensures.told options left (g.S.Source.left c.pieces.source) written
    (c.pieces.invariant.told options left written h)) in
    reached_unfed c.answer_whole.new.reader c.answer_whole.new.desk c.in-Memory.ensures.fed.0
    (c.answer_whole.ensures.finished ∙ c.pieces.invariant.open_end)
    (underway_flushed now.0 c.in_ok-flush.ensures.bytes) c.in-Memory.ensures.fed.1
    (omega (
      arith,
      c.in-Memory.ensures.fed.2,
      c.answer_whole.ensures.end,
      c.pieces.invariant.room,
    ))

pub returns-clause-told : goal.returns-clause-told
returns-clause-told g c = λ options left written h.
    let now = stops_hungry Failed c.answer_whole.new.reader c.answer_whole.new.desk
    c.in_ok-status.field-0 c.in_default.is
    (c.in_ok-status.ensures.told options left (g.S.Source.left c.pieces.source) written
    (c.pieces.invariant.told options left written h)) in
    let fed = c.in-AtEnd.ensures.fed in
    c.answer_whole-2.ensures.told options left (g.S.Source.left c.feed_piece.new.source) written
    (underway_finished c.answer_whole.new.reader c.finish.new.self c.answer_whole.new.desk
    (underway_flushed now.0 c.in_ok-flush.ensures.bytes) fed.0 fed.1
    (c.finish.ensures ∙ ap (λ (u : Unread). record u { finished = true }) fed.2))

pub returns-clause-reads : goal.returns-clause-reads
returns-clause-reads g c =
    let count = g.S.Source.faults c.feed_piece.new.source in
    subst (λ (n : ℕ). StopsByCount c.answer_whole-2.result n count) (c.in-AtEnd.ensures.count
    ∙ c.pieces.invariant.reads) (c.answer_whole-2.ensures.reads count)
