use Rattle.std.proofs.Common.{◌≡◌, length}
use Rattle.esc_index.specs.ThreadsInside.{IsThreaded}
use Rattle.esc_index.proofs.threads.thread.Given as goal

abbrev pub invariant-places : goal.invariant-places
invariant-places l = record {
  heads : length l.heads ≡ length l.fn.heads;
  threaded : IsThreaded l.entries l.place l.heads l.next;
}
