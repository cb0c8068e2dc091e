use Rattle.std.proofs.Common.{◌≡◌, take}
use Rattle.esc_book.specs.Book.{items_of}
use Rattle.esc_live.proofs.branch.LiveBranch.items.Given as goal

abbrev pub invariant-literals : goal.invariant-literals
invariant-literals l = l.items ≡ items_of l.self.book (take l.at-index l.self.literals)
