use Rattle.std.proofs.Common.{sym, subst}
use Rattle.esc_book.specs.Book.{IsBook, IsLiveOccurrence}
use Rattle.esc_sharing.specs.Shared.{IsShared}
use Rattle.esc_simplex.specs.View.{IsSimplex}
use Rattle.esc_outcome.specs.JamLaws.{shared_in}
use Rattle.esc_live.specs.StandingInside.{HasNumbers, IsLiteralAt}
use Rattle.esc_live.specs.View.{logged}
use Rattle.esc_live.specs.declared.branch.LiveBranch.{LiveBranch}
use Rattle.esc_live.proofs.LiteralOn.{asserts_literal, steps_literal}
use Rattle.esc_live.proofs.LiveNotes.{live_both}
use Rattle.esc_live.proofs.OrderNumbers.{has_numbers}
use Rattle.esc_live.proofs.Parts.{literal_is}
use Rattle.esc_live.proofs.Reaching.{steps_same}
use Rattle.esc_live.proofs.branch.LiveBranch.assert_literal.Goals as goal

pub share-requires-clause-book : goal.share-requires-clause-book
share-requires-clause-book c =
    subst (λ (x : LiveBranch). IsBook x.sharing.graph x.book) (sym c.in-Ok.ensures.ok)
    c.requires.standing.book

pub share-requires-clause-shared : goal.share-requires-clause-shared
share-requires-clause-shared c =
    subst (λ (x : LiveBranch). IsShared (shared_in x.sharing)) (sym c.in-Ok.ensures.ok)
    c.requires.standing.shared.shared

pub share-requires-clause-sound : goal.share-requires-clause-sound
share-requires-clause-sound c =
    subst (λ (x : LiveBranch). IsSimplex x.sharing.theory) (sym c.in-Ok.ensures.ok)
    c.requires.given.sound

pub share-requires-clause-live : goal.share-requires-clause-live
share-requires-clause-live c =
    subst (λ (x : LiveBranch). IsLiveOccurrence x.book c.args.at) (sym c.in-Ok.ensures.ok)
    c.requires.live

pub share-requires-clause-literal : goal.share-requires-clause-literal
share-requires-clause-literal c =
    subst (λ (x : LiveBranch). IsLiteralAt (logged x) c.args.at) (sym c.in-Ok.ensures.ok)
    (literal_is (logged c.args.self.now) c.args.at c.requires.literal)

pub share-requires-clause-sides : goal.share-requires-clause-sides
share-requires-clause-sides c =
    subst (λ (x : LiveBranch). HasNumbers x c.args.at) (sym c.in-Ok.ensures.ok)
    (has_numbers c.args.self.now c.requires.standing.shared c.args.at c.requires.live)

pub returns-clause-ends : goal.returns-clause-ends
returns-clause-ends c =
    asserts_literal c.args.self.now c.requires.standing c.requires.given c.args.at c.requires.live
    c.requires.open (literal_is (logged c.args.self.now) c.args.at c.requires.literal)
    c.book_laws.ensures.stays c.push_literal.new.self c.share.new.self c.in-Ok.ensures.ok
    c.share.ensures.rest c.share.result c.share.ensures.comes

pub returns-clause-steps : goal.returns-clause-steps
returns-clause-steps c =
    steps_literal c.args.self.now c.requires.standing c.requires.given c.args.at c.requires.live
    c.requires.open (literal_is (logged c.args.self.now) c.args.at c.requires.literal)
    c.book_laws.ensures.stays c.push_literal.new.self c.share.new.self c.in-Ok.ensures.ok
    c.share.ensures.rest c.share.ensures.sound c.share.ensures.given c.share.ensures.limit
    c.share.ensures.means

pub returns-clause-undo : goal.returns-clause-undo
returns-clause-undo c =
    live_both _ _ _ _ _ _ c.push_literal.ensures.undo c.share.ensures.undo

pub returns-in_default-clause-steps : goal.returns-in_default-clause-steps
returns-in_default-clause-steps c =
    steps_same c.args.self.now _ c.requires.given c.in_default.ensures.err
