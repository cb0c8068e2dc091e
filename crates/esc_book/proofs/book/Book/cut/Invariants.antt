use Rattle.std.proofs.Common.{◌≡◌, ◌≤◌, length, take}
use Rattle.esc_book.proofs.book.Book.cut.Given as goal

abbrev pub invariant-formulas : goal.invariant-formulas
invariant-formulas l = record {
  many : l.len ≤ length l.self-inside.logged;
  first : take l.len l.self-inside.logged ≡ take l.len l.initial.self-inside.logged;
  live : l.self-inside.live ≡ l.initial.self-inside.live;
  pages : l.self-inside.pages.items ≡ l.initial.self-inside.pages.items;
}

abbrev pub decreases-formulas : goal.decreases-formulas
decreases-formulas l = length l.self-inside.logged
