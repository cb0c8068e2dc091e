use Rattle.std.proofs.Common.{◌≡◌, ◌+◌, ◌-◌, List, length}
use Rattle.std.specs.List.{flat_map}
use Rattle.esc_term.specs.declared.formula.Formula.{Formula}
use Rattle.esc_clause.specs.Expansion.{from_place}
use Rattle.esc_egraph.specs.Graph.{Graph}
use Rattle.esc_book.specs.Book.{IsPage, heads_of}
use Rattle.esc_book.specs.ReadingInside.{AreThere, begin_at}
use Rattle.esc_book.proofs.Parts.{PartsLeft}
use Rattle.esc_book.proofs.page.parts_of.Given as goal

abbrev pub invariant-parts : goal.invariant-parts
invariant-parts l = (g : Graph) (f : Formula) (ps : List Formula) → IsPage g f l.fn.page
    → AreThere (heads_of f) l.fn.from ps
    → l.fn.to ≡ l.fn.from + length (flat_map heads_of ps)
    → PartsLeft f l.fn.fact l.fn.positive l.fn.to
    (from_place l.fn.fact (begin_at (heads_of f) l.fn.from) l.fn.positive ps) l.index l.parts

abbrev pub decreases-parts : goal.decreases-parts
decreases-parts l = l.fn.to - l.index
