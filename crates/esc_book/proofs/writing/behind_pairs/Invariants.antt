use Rattle.std.proofs.Common.{◌≡◌, ◌+◌}
use Rattle.esc_book.specs.GroupInside.{pair_count}
use Rattle.esc_book.proofs.writing.behind_pairs.Given as goal

abbrev pub invariant-terms : goal.invariant-terms
invariant-terms l = record {
  end : l.end ≡ l.fn.start + pair_count l.place;
}
