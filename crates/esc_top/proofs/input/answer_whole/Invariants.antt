use Rattle.std.proofs.Common.{◌≡◌, ◌+◌, ◌≤◌, ℕ, List, Option, length}
use Rattle.esc_options.specs.declared.options.Options.{Options}
use Rattle.esc_top.specs.DeskInside.{IsInOrder}
use Rattle.esc_top.specs.Underway.{Underway}
use Rattle.esc_top.proofs.input.answer_whole.Given as goal

abbrev pub invariant-expressions : goal.invariant-expressions
invariant-expressions g l =
    let written = g.K.Sink.written in
    record {
      told : (options : Options) (left rest before : Option (List ℕ))
          → Underway options left rest before (written l.fn.sink) l.fn.reader l.fn.desk
          → Underway options left rest before (written l.sink) l.reader l.desk;
      order : IsInOrder l.desk;
      few : l.desk.session.goals ≤ l.reader.place;
      end : l.reader.place + length l.reader.bytes ≡ l.fn.reader.place + length l.fn.reader.bytes;
      finished : l.reader.finished ≡ l.fn.reader.finished;
      count : g.K.Sink.faults l.sink ≡ g.K.Sink.faults l.fn.sink;
    }

abbrev pub decreases-expressions : goal.decreases-expressions
decreases-expressions g l = length l.reader.bytes
