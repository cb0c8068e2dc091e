use Rattle.std.proofs.Common.{refl, sym, ◌∙◌}
use Rattle.esc_sharing.specs.Nodes.{node_term}
use Rattle.esc_book.proofs.LiveForms.{expanded-Eq, expanded-at, if_ok, is_at, is_pair, is_somewhere}
use Rattle.esc_book.proofs.LiveForms.{not_dead, stands}
use Rattle.esc_book.proofs.book.Book.expanded.Goals as goal

pub returns-in_default : goal.returns-in_default
returns-in_default c =
    absurd (not_dead c.args.self.now c.args.at c.requires.live (c.in_default.ensures.none refl))

pub returns-in-Entry : goal.returns-in-Entry
returns-in-Entry c =
    let v = c.args.self.now in
    let g = c.requires.book.0 in
    let page = c.in-Some.page.now in
    let st = stands g v c.args.at page c.requires.book.1 c.requires.live c.in-Some.ensures.some in
    let here = is_at g v c.args.at page st c.locate.result
    (c.locate.ensures g st.whole st.is_page) c.in-Entry.index c.in-Entry.is in
    if_ok _ _ c.expanded_entry.result c.expanded_entry.ensures (λ e h.
    h g st.whole here.of st.is_page here.head here.begins
    ∙ sym (expanded-at v.logged c.args.at here.of here.is))

pub returns-in-Pair : goal.returns-in-Pair
returns-in-Pair c =
    let v = c.args.self.now in
    let g = c.requires.book.0 in
    let page = c.in-Some.page.now in
    let st = stands g v c.args.at page c.requires.book.1 c.requires.live c.in-Some.ensures.some in
    let pair = is_pair g v c.args.at page st c.locate.result
    (c.locate.ensures g st.whole st.is_page) c.in-Pair.field-0 c.in-Pair.field-1 c.in-Pair.is in
    expanded-Eq v.logged c.args.at (node_term g c.in-Pair.field-0) (node_term g c.in-Pair.field-1)
    pair.0

pub returns-in-Nowhere : goal.returns-in-Nowhere
returns-in-Nowhere c =
    let v = c.args.self.now in
    let g = c.requires.book.0 in
    let page = c.in-Some.page.now in
    let st = stands g v c.args.at page c.requires.book.1 c.requires.live c.in-Some.ensures.some in
    absurd (is_somewhere g v c.args.at page st c.locate.result
    (c.locate.ensures g st.whole st.is_page) c.requires.live c.in-Nowhere.is)
