-- What is seen of a branch, and of its parts in terms.
use Rattle.std.specs.Prelude.{ℕ, if◌then◌else◌, List}
use Rattle.esc_term.specs.declared.formula.Formula.{Formula}
use Rattle.esc_term.specs.declared.formula.Item.{Item}
use Rattle.esc_term.specs.declared.term.Term.{Term}
use Rattle.esc_clause.specs.declared.occurrence.Occurrence.{Occurrence}
use Rattle.esc_clause.specs.declared.truth.Truth.{Truth}
use Rattle.esc_clause.specs.declared.truth.Truth.TheVariants.{Open}
use Rattle.esc_book.specs.Book.{is_live, items_of, live_formulas}
use Rattle.esc_book.specs.Judging.{truth_at}
use Rattle.esc_node_terms.specs.Nodes.{classes_in}
use Rattle.esc_live.specs.declared.branch.LiveBranch.{LiveBranch}

-- the formulas of all facts, and those of the facts that are live, each in order
abbrev pub logged : LiveBranch → List Formula
logged v = v.book.logged

abbrev pub live_on : LiveBranch → List Formula
live_on v = live_formulas v.book

-- the literals, in the order in which they were asserted
abbrev pub literals_on : LiveBranch → List Item
literals_on v = items_of v.book v.literals

abbrev pub classes_on : LiveBranch → List (List Term)
classes_on v = classes_in v.sharing.graph

-- what literals and classes say of an occurrence in a live fact
abbrev pub judge_on : LiveBranch → Occurrence → Truth
judge_on v at =
    if is_live v.book at.fact then truth_at (logged v) (literals_on v) (classes_on v) at else Open
