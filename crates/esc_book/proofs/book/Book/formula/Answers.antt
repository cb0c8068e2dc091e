use Rattle.std.proofs.Common.{Some, ap, refl, sym, ◌∙◌}
use Rattle.esc_term.specs.declared.formula.Formula.{Formula}
use Rattle.esc_book.proofs.LiveForms.{atom-at, if_ok, is_at, is_pair, is_somewhere, not_dead}
use Rattle.esc_book.proofs.LiveForms.{stands}
use Rattle.esc_book.proofs.book.Book.formula.Goals as goal

pub unreachable-requires : goal.unreachable-requires
unreachable-requires c =
    not_dead c.args.self.now c.args.at c.requires.live (c.in_default.ensures.none refl)

pub unreachable-requires-in-Nowhere : goal.unreachable-requires-in-Nowhere
unreachable-requires-in-Nowhere c =
    let g = c.args.graph.now in
    let v = c.args.self.now in
    let page = c.in-Some.page.now in
    let st = stands g v c.args.at page c.requires.book c.requires.live c.in-Some.ensures.some in
    is_somewhere g v c.args.at page st c.locate.result (c.locate.ensures g st.whole st.is_page)
    c.requires.live c.in-Nowhere.is

pub formula_of-requires : goal.formula_of-requires
formula_of-requires c =
    let g = c.args.graph.now in
    let v = c.args.self.now in
    let page = c.in-Some.page.now in
    let st = stands g v c.args.at page c.requires.book c.requires.live c.in-Some.ensures.some in
    let here = is_at g v c.args.at page st c.locate.result
    (c.locate.ensures g st.whole st.is_page) c.in-Entry.index c.in-Entry.is in
    record {
      whole = st.whole;
      is_page = st.is_page;
      atom = here.of;
      there = here.head;
      is_atom = atom-at v.logged c.args.at here.of here.is c.requires.atom;
    }

pub equation_of-requires : goal.equation_of-requires
equation_of-requires c =
    let g = c.args.graph.now in
    let v = c.args.self.now in
    let page = c.in-Some.page.now in
    let st = stands g v c.args.at page c.requires.book c.requires.live c.in-Some.ensures.some in
    let pair = is_pair g v c.args.at page st c.locate.result
    (c.locate.ensures g st.whole st.is_page) c.in-Pair.a c.in-Pair.b c.in-Pair.is in
    record { left = pair.1.0; right = pair.1.1 }

pub returns-in-Entry : goal.returns-in-Entry
returns-in-Entry c =
    let g = c.args.graph.now in
    let v = c.args.self.now in
    let page = c.in-Some.page.now in
    let st = stands g v c.args.at page c.requires.book c.requires.live c.in-Some.ensures.some in
    let here = is_at g v c.args.at page st c.locate.result
    (c.locate.ensures g st.whole st.is_page) c.in-Entry.index c.in-Entry.is in
    if_ok _ _ c.formula_of.result c.formula_of.ensures (λ s h.
    here.is ∙ (sym here.head ∙ h st.whole st.is_page))

pub returns-in-Pair : goal.returns-in-Pair
returns-in-Pair c =
    let g = c.args.graph.now in
    let v = c.args.self.now in
    let page = c.in-Some.page.now in
    let st = stands g v c.args.at page c.requires.book c.requires.live c.in-Some.ensures.some in
    let pair = is_pair g v c.args.at page st c.locate.result
    (c.locate.ensures g st.whole st.is_page) c.in-Pair.a c.in-Pair.b c.in-Pair.is in
    if_ok _ _ c.equation_of.result c.equation_of.ensures (λ s h.
    pair.0 ∙ ap (λ (x : Formula). Some x) (sym h))
