use Rattle.std.proofs.Common.{◌+◌, ◌*◌, take}
use Rattle.esc_live.specs.StandingInside.{Reaches, Steps}
use Rattle.esc_live.specs.View.{logged}
use Rattle.esc_live.proofs.LiveNotes.{LiveNotes}
use Rattle.esc_live.proofs.Parts.{size_at, sizes_at}
use Rattle.esc_live.proofs.branch.LiveBranch.+assert_occurrence.Given as goal

abbrev pub decreases-assert_occurrence : goal.decreases-assert_occurrence
decreases-assert_occurrence l = 1 + 3 * size_at (logged l.self.now) l.at

abbrev pub decreases-assert_all : goal.decreases-assert_all
decreases-assert_all l = 2 + 3 * sizes_at (logged l.self.now) l.parts.now

abbrev pub invariant-assert_all-parts : goal.invariant-assert_all-parts
invariant-assert_all-parts l = record {
  reaches : Reaches l.fn.self l.self (take l.part-index l.parts);
  steps : Steps l.fn.self l.self;
  undo : LiveNotes l.fn.trail.records l.trail.records l.fn.self l.self;
}
