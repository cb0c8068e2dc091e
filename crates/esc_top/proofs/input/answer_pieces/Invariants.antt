use Rattle.std.proofs.Common.{◌≡◌, ◌+◌, ◌≤◌, ◌^◌, ℕ, List, Option, false, length}
use Rattle.esc_options.specs.declared.options.Options.{Options}
use Rattle.esc_top.specs.DeskInside.{IsInOrder}
use Rattle.esc_top.specs.Underway.{Underway}
use Rattle.esc_top.proofs.input.answer_pieces.Given as goal

abbrev pub invariant-pieces : goal.invariant-pieces
invariant-pieces g l =
    let written = g.K.Sink.written in
    let source = g.S.Source.left in
    record {
      told : (options : Options) (left before : Option (List ℕ))
          → Underway options left (source l.fn.source) before (written l.fn.sink) l.fn.reader
          l.fn.desk
          → Underway options left (source l.source) before (written l.sink) l.reader l.desk;
      order : IsInOrder l.desk;
      few : l.desk.session.goals ≤ l.reader.place;
      open_end : l.reader.finished ≡ false;
      room : l.reader.place + length l.reader.bytes + l.room ≡ 2 ^ 32;
      reads : g.S.Source.faults l.source ≡ g.S.Source.faults l.fn.source;
      writes : g.K.Sink.faults l.sink ≡ g.K.Sink.faults l.fn.sink;
    }

abbrev pub decreases-pieces : goal.decreases-pieces
decreases-pieces g l = l.room
