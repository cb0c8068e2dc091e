-- What a book and a sharing say of occurrences.
use Rattle.std.specs.Prelude.{List, if◌then◌else◌}
use Rattle.std.specs.List.{All}
use Rattle.std.specs.Option.{option_map_or}
use Rattle.esc_term.specs.declared.term.Term.{Term}
use Rattle.esc_term.specs.declared.formula.Formula.{Formula}
use Rattle.esc_term.specs.declared.formula.Item.{Item}
use Rattle.esc_clause.specs.Laws.{is_covered}
use Rattle.esc_clause.specs.Occurrences.{item_at, signed}
use Rattle.esc_clause.specs.declared.occurrence.Occurrence.{Occurrence}
use Rattle.esc_clause.specs.declared.truth.Truth.{Truth}
use Rattle.esc_clause.specs.declared.truth.Truth.TheVariants.{Yes, No, Open}
use Rattle.esc_sharing.specs.Nodes.{classes_in}
use Rattle.esc_said.specs.Speaking.{SpeaksFor}
use Rattle.esc_book.specs.Book.{IsBook, IsLiveOccurrence, is_live, items_of}
use Rattle.esc_book.specs.declared.judge.BookJudge.{BookJudge}
use Rattle.std.specs.Prelude.{not}

-- the same formula with the other sign
abbrev pub contrary_item : Item → Item
contrary_item item = signed (not item.positive) item.formula

-- literals and classes say that the item has its sign, or that it has the contrary, or neither
abbrev pub item_truth : List Item → List (List Term) → Item → Truth
item_truth literals classes item =
    if is_covered literals classes item then Yes
    else (if is_covered literals classes (contrary_item item) then No else Open)

-- what they say of the item there
abbrev pub truth_at : List Formula → List Item → List (List Term) → Occurrence → Truth
truth_at fs literals classes at =
    option_map_or (item_truth literals classes) (item_at fs at) Open

abbrev pub literals_for : BookJudge → List Item
literals_for j = items_of j.book.now j.literals.now

abbrev pub classes_for : BookJudge → List (List Term)
classes_for j = classes_in j.saying.graph.now

-- the book is one over the graph, the literals are live occurrences, and who says something speaks
-- for them
pub record IsReady (j : BookJudge) : Type 0 where
  pub book : IsBook j.saying.graph.now j.book.now
  pub live : All (IsLiveOccurrence j.book.now) j.literals.now
  pub speaks : SpeaksFor j.saying (literals_for j)

-- what is said of an occurrence of a live fact
abbrev pub judged_by_book : BookJudge → Occurrence → Truth
judged_by_book j at =
    if is_live j.book.now at.fact
    then truth_at j.book.now.logged (literals_for j) (classes_for j) at
    else Open
