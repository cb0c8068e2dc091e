-- A fact that becomes live, with the record that takes it back.
use Rattle.std.proofs.Common.{◌≡◌, ℕ, List, [], ◌∷◌, ◌++◌, ap₂, arith, length-append}
use Rattle.esc_trail.specs.Undo.{Notes}
use Rattle.esc_trail.proofs.Ends.{take-append_last}
use Rattle.esc_trail.proofs.Noting.{notes_one}
use Rattle.esc_book.specs.Book.{BookView, Page}
use Rattle.esc_book.specs.BookUndo.{book_undo}
use Rattle.esc_book.specs.declared.record.BookRec.{BookRec}
use Rattle.esc_book.specs.declared.record.BookRec.TheVariants.{Live}

pub notes_live : {Whole : Type 0} (carry : BookRec → Whole) (before after : List Whole)
    (entry exit : BookView) (place : ℕ) (page : Page) →
    exit ≡ record entry {
      live = entry.live ++ (place ∷ []);
      pages = entry.pages ++ (page ∷ []);
    } → after ≡ before ++ (carry Live ∷ []) → Notes book_undo carry before after entry exit
notes_live carry before after entry exit place page is noted =
    rw is (notes_one book_undo carry before after entry
    (record entry { live = entry.live ++ (place ∷ []); pages = entry.pages ++ (page ∷ []) })
    Live noted (omega (arith, length-append entry.live (place ∷ [])))
    (ap₂ (λ ks ps. record entry { live = ks; pages = ps }) (take-append_last entry.live place)
    (take-append_last entry.pages page)))
