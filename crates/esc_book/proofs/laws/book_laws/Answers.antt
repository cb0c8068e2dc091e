use Rattle.esc_book.proofs.Books.{book-stays}
use Rattle.esc_book.proofs.Literals.{literal-atom}
use Rattle.esc_book.proofs.laws.book_laws.Goals as goal

pub returns : goal.returns
returns c = record {
  stays = λ g h v more is grown. book-stays g h more grown v is;
  literal = literal-atom;
}
