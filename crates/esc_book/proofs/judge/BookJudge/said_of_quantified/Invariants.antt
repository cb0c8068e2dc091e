use Rattle.std.proofs.Common.{◌≡◌, true, take}
use Rattle.esc_term.specs.declared.formula.Formula.TheViews.{out-Formula}
use Rattle.esc_cover.specs.Cover.{by_literal}
use Rattle.esc_sharing.specs.Unquantified.{is_quantified_form}
use Rattle.esc_said.specs.Speaking.{SaysAs}
use Rattle.esc_book.specs.Book.{items_of}
use Rattle.esc_book.proofs.judge.BookJudge.said_of_quantified.Given as goal

abbrev pub invariant-literals : goal.invariant-literals
invariant-literals l = record {
  so_far : is_quantified_form (out-Formula l.fn.formula) ≡ true
      → SaysAs l.said (by_literal (items_of l.fn.self.book.now
      (take l.literal-index l.fn.self.literals.now)) l.fn.formula);
}
