-- How a book takes records back.
use Rattle.std.specs.Prelude.{◌≡◌, ◌-◌, ◌<◌, length, take}
use Rattle.esc_trail.specs.Undo.{Undo}
use Rattle.esc_book.specs.Book.{BookView}
use Rattle.esc_book.specs.declared.record.BookRec.{BookRec}
use Rattle.esc_book.specs.declared.record.BookRec.TheVariants.{Live}

-- the newest fact is live no more
abbrev pub book_back : BookView → BookRec → BookView
book_back v Live =
    record v {
      live = take (length v.live - 1) v.live;
      pages = take (length v.pages - 1) v.pages;
    }

abbrev pub CanGoBack : BookView → BookRec → Type 0
CanGoBack v Live = 0 < length v.live

abbrev pub book_undo : Undo BookView BookRec
book_undo = record { back = book_back; can = CanGoBack; same = λ a b. a ≡ b }
