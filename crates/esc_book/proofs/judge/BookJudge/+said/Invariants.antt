use Rattle.std.proofs.Common.{◌-◌, ◌+◌, ◌*◌, ◌≤◌, List, length}
use Rattle.esc_term.specs.declared.formula.Formula.{Formula}
use Rattle.esc_book.specs.Book.{IsPage, heads_of}
use Rattle.esc_book.specs.JudgingInside.{AreBetween, cover_by, of_parts}
use Rattle.esc_book.proofs.SaidParts.{IsLeft}
use Rattle.esc_book.proofs.judge.BookJudge.+said.Given as goal

abbrev pub decreases-said_at : goal.decreases-said_at
decreases-said_at l = 2 * (length l.page.now - l.index)

abbrev pub decreases-said_of_parts : goal.decreases-said_of_parts
decreases-said_of_parts l = 1 + 2 * (length l.page.now - l.from)

abbrev pub invariant-said_of_parts-parts : goal.invariant-said_of_parts-parts
invariant-said_of_parts-parts l = record {
  onward : l.fn.from ≤ l.index;
  left : (f : Formula) (ps : List Formula) → IsPage l.fn.self.saying.graph.now f l.fn.page
      → AreBetween (heads_of f) l.fn.from l.fn.to ps
      → IsLeft l.fn.self l.fn.all (heads_of f) l.index l.fn.to l.said
      (cover_by l.fn.self (of_parts l.fn.all ps));
}

abbrev pub decreases-said_of_parts-parts : goal.decreases-said_of_parts-parts
decreases-said_of_parts-parts l = l.to - l.index
