use Rattle.std.proofs.Common.{None, Some, Option, sym, ◌∙◌}
use Rattle.esc_term.specs.declared.formula.Formula.{Formula}
use Rattle.esc_term.specs.declared.formula.Formula.TheVariants as formula
use Rattle.esc_sharing.specs.Nodes.{node_term}
use Rattle.esc_book.specs.Judging.{literals_for}
use Rattle.esc_book.specs.JudgingInside.{cover_by}
use Rattle.esc_book.proofs.JudgedFacts.{judged-live, page-fact, page-formula, page-live}
use Rattle.esc_book.proofs.judge.BookJudgeJudge.judge.Goals as goal

pub said_at-requires-clause-there : goal.said_at-requires-clause-there
said_at-requires-clause-there c =
    let v = c.args.self.now.book.now in
    let g = c.args.self.now.saying.graph.now in
    let fact = page-fact v c.args.at.fact c.in-Some.page.now c.in-Some.ensures.some g
    c.requires.ready.book in
    let located = c.in-Entry.ensures g fact.whole fact.is_page in
    record {
      whole = fact.whole;
      is_page = fact.is_page;
      part = located.0;
      there = located.1;
    }

pub equal-requires-clause-a_is_there : goal.equal-requires-clause-a_is_there
equal-requires-clause-a_is_there c =
    let v = c.args.self.now.book.now in
    let g = c.args.self.now.saying.graph.now in
    let fact = page-fact v c.args.at.fact c.in-Some.page.now c.in-Some.ensures.some g
    c.requires.ready.book in
    (c.in-Pair.ensures g fact.whole fact.is_page).1

pub equal-requires-clause-b_is_there : goal.equal-requires-clause-b_is_there
equal-requires-clause-b_is_there c =
    let v = c.args.self.now.book.now in
    let g = c.args.self.now.saying.graph.now in
    let fact = page-fact v c.args.at.fact c.in-Some.page.now c.in-Some.ensures.some g
    c.requires.ready.book in
    (c.in-Pair.ensures g fact.whole fact.is_page).2

pub returns-in-Entry : goal.returns-in-Entry
returns-in-Entry c =
    let j = c.args.self.now in
    let v = j.book.now in
    let at = c.args.at in
    let g = j.saying.graph.now in
    let page = c.in-Some.page.now in
    let of = c.in-Some.ensures.some in
    let fact = page-fact v at.fact page of g c.requires.ready.book in
    let located = c.in-Entry.ensures g fact.whole fact.is_page in
    let s : Formula = located.0 in
    c.truth_of.ensures (cover_by j s) (c.said_at.ensures fact.whole s fact.is_page located.1)
    ∙ sym (judged-live j at (Some s) (page-live v at.fact page of)
    (page-formula v g at page of fact (Some s) located.2))

pub returns-in-Pair : goal.returns-in-Pair
returns-in-Pair c =
    let j = c.args.self.now in
    let v = j.book.now in
    let at = c.args.at in
    let g = j.saying.graph.now in
    let page = c.in-Some.page.now in
    let of = c.in-Some.ensures.some in
    let fact = page-fact v at.fact page of g c.requires.ready.book in
    let located = c.in-Pair.ensures g fact.whole fact.is_page in
    let s : Formula = formula.Eq (node_term g c.in-Pair.a) (node_term g c.in-Pair.b) in
    c.truth_of-in-Pair.ensures (cover_by j s)
    (c.equal.ensures (literals_for j) c.requires.ready.speaks)
    ∙ sym (judged-live j at (Some s) (page-live v at.fact page of)
    (page-formula v g at page of fact (Some s) located.0))

pub returns-in-Nowhere : goal.returns-in-Nowhere
returns-in-Nowhere c =
    let j = c.args.self.now in
    let v = j.book.now in
    let at = c.args.at in
    let g = j.saying.graph.now in
    let page = c.in-Some.page.now in
    let of = c.in-Some.ensures.some in
    let fact = page-fact v at.fact page of g c.requires.ready.book in
    let nothing : Option Formula = None in
    sym (judged-live j at nothing (page-live v at.fact page of)
    (page-formula v g at page of fact nothing
    (c.in-Nowhere.ensures g fact.whole fact.is_page)))
