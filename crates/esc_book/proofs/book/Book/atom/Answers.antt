use Rattle.std.proofs.Common.{refl, sym, subst}
use Rattle.esc_book.specs.Atom.{IsAtomOf}
use Rattle.esc_book.proofs.LiveForms.{atom-at, is_at, is_pair, is_somewhere, not_dead, stands}
use Rattle.esc_book.proofs.book.Book.atom.Goals as goal

pub returns-in_default : goal.returns-in_default
returns-in_default c g book =
    absurd (not_dead c.args.self.now c.args.at c.requires.live (c.in_default.ensures.none refl))

pub returns-in-Entry : goal.returns-in-Entry
returns-in-Entry c g book =
    let v = c.args.self.now in
    let page = c.in-Some.page.now in
    let st = stands g v c.args.at page book c.requires.live c.in-Some.ensures.some in
    let here = is_at g v c.args.at page st c.locate.result
    (c.locate.ensures g st.whole st.is_page) c.in-Entry.index c.in-Entry.is in
    subst (λ o. IsAtomOf g o c.atom_of.result) (sym here.is)
    (c.atom_of.ensures g st.whole here.of st.is_page here.head
    (atom-at v.logged c.args.at here.of here.is c.requires.atom))

pub returns-in-Pair : goal.returns-in-Pair
returns-in-Pair c g book =
    let v = c.args.self.now in
    let page = c.in-Some.page.now in
    let st = stands g v c.args.at page book c.requires.live c.in-Some.ensures.some in
    is_pair g v c.args.at page st c.locate.result (c.locate.ensures g st.whole st.is_page)
    c.in-Pair.a c.in-Pair.b c.in-Pair.is

pub returns-in-Nowhere : goal.returns-in-Nowhere
returns-in-Nowhere c g book =
    let v = c.args.self.now in
    let page = c.in-Some.page.now in
    let st = stands g v c.args.at page book c.requires.live c.in-Some.ensures.some in
    absurd (is_somewhere g v c.args.at page st c.locate.result
    (c.locate.ensures g st.whole st.is_page) c.requires.live c.in-Nowhere.is)
