use Rattle.std.proofs.Common.{Some, ap, refl, sym, subst, ◌∙◌}
use Rattle.esc_term.specs.declared.formula.Formula.{Formula}
use Rattle.esc_book.specs.Atom.{IsGroupOf}
use Rattle.esc_book.proofs.LiveForms.{distinct-at, is_at, is_entry, not_dead, stands}
use Rattle.esc_book.proofs.book.Book.group.Goals as goal

pub unreachable-requires : goal.unreachable-requires
unreachable-requires c =
    not_dead c.args.self.now c.args.at c.requires.live (c.in_default.ensures.none refl)

pub unreachable-requires-in_default-locate : goal.unreachable-requires-in_default-locate
unreachable-requires-in_default-locate c =
    let v = c.args.self.now in
    let g = c.requires.book.0 in
    let page = c.in-Some.page.now in
    let st = stands g v c.args.at page c.requires.book.1 c.requires.live c.in-Some.ensures.some in
    is_entry g v c.args.at page st c.locate.result (c.locate.ensures g st.whole st.is_page)
    c.requires.distinct c.in_default-locate.not-Entry

pub unreachable-requires-in-None : goal.unreachable-requires-in-None
unreachable-requires-in-None c =
    let v = c.args.self.now in
    let g = c.requires.book.0 in
    let page = c.in-Some.page.now in
    let st = stands g v c.args.at page c.requires.book.1 c.requires.live c.in-Some.ensures.some in
    let here = is_at g v c.args.at page st c.locate.result
    (c.locate.ensures g st.whole st.is_page) c.in-Entry.index c.in-Entry.is in
    let terms = distinct-at v.logged c.args.at here.of here.is c.requires.distinct in
    c.in-None.ensures.none refl g st.whole terms.0 st.is_page
    (here.head ∙ ap (λ (x : Formula). Some x) terms.1)

pub returns : goal.returns
returns c g book =
    let v = c.args.self.now in
    let page = c.in-Some.page.now in
    let st = stands g v c.args.at page book c.requires.live c.in-Some.ensures.some in
    let here = is_at g v c.args.at page st c.locate.result
    (c.locate.ensures g st.whole st.is_page) c.in-Entry.index c.in-Entry.is in
    subst (λ o. IsGroupOf g o c.in-Some-group_of.nodes.now) (sym here.is)
    (c.in-Some-group_of.ensures.some g st.whole here.of st.is_page here.head)
