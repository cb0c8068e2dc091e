-- What contracts see of how a book is held.
use Rattle.std.specs.Prelude.{ℕ, List}
use Rattle.esc_term.specs.declared.formula.Formula.{Formula}
use Rattle.esc_book.specs.Book.{BookView, Page}
use Rattle.esc_book.specs.declared.book.Book.TheInside.{Inside}

abbrev pub view_of : Inside → BookView
view_of b = record { logged = b.logged; live = b.live; pages = b.pages.items }

-- a view as a tuple, and back
abbrev pub parts_of : BookView → List Formula × List ℕ × List Page
parts_of v = (v.logged, v.live, v.pages)

abbrev pub of_parts : List Formula × List ℕ × List Page → BookView
of_parts t = record { logged = t.0; live = t.1; pages = t.2 }
