use Rattle.std.proofs.Common.{◌≡◌, true, ap, sym, subst, ◌∙◌}
use Rattle.esc_term.specs.declared.formula.Formula.TheViews.{out-Formula}
use Rattle.esc_cover.specs.Cover.{by_literal}
use Rattle.esc_sharing.specs.Unquantified.{is_quantified_form}
use Rattle.esc_said.specs.Speaking.{SaysAs}
use Rattle.esc_book.specs.Book.{told_kind}
use Rattle.esc_book.specs.Judging.{literals_for}
use Rattle.esc_book.proofs.SaidForms.{said_of-Constant, said_of-Quantified}
use Rattle.esc_book.proofs.judge.BookJudge.said_of_kind.Goals as goal

pub returns-in-Constant : goal.returns-in-Constant
returns-in-Constant c s told alone =
    said_of-Constant c.args.self.now s c.in-Constant.is_true
    (ap (told_kind c.args.self.now.saying.graph.now) (sym c.in-Constant.is) ∙ told)

pub returns-in-Quantified : goal.returns-in-Quantified
returns-in-Quantified c s told alone =
    said_of-Quantified c.args.self.now s c.in-Quantified.formula c.said_of_quantified.result
    (ap (told_kind c.args.self.now.saying.graph.now) (sym c.in-Quantified.is) ∙ told)
    (subst (λ f. is_quantified_form (out-Formula f) ≡ true
    → SaysAs c.said_of_quantified.result (by_literal (literals_for c.args.self.now) f))
    c.get-in-Quantified.ensures c.said_of_quantified.ensures)
