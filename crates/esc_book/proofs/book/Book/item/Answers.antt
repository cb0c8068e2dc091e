use Rattle.std.proofs.Common.{ap}
use Rattle.std.specs.Option.{option_map}
use Rattle.esc_clause.specs.Occurrences.{signed}
use Rattle.esc_book.proofs.book.Book.item.Goals as goal

pub returns : goal.returns
returns c = ap (option_map (signed c.args.at.positive)) c.in_ok-formula.ensures
