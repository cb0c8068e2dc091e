use Rattle.std.proofs.Common.{◌+◌, ◌*◌, map, sum, take}
use Rattle.std.specs.List.{flat_map}
use Rattle.esc_node_terms.proofs.FormulaSize.{formula_size}
use Rattle.esc_book.specs.Book.{heads_of}
use Rattle.esc_book.specs.WritingInside.{Writes}
use Rattle.esc_book.proofs.writing.+write.Given as goal

abbrev pub decreases-write : goal.decreases-write
decreases-write l = 1 + 4 * formula_size l.formula.now

abbrev pub decreases-write_inside : goal.decreases-write_inside
decreases-write_inside l = 4 * formula_size l.formula.now

abbrev pub decreases-write_two : goal.decreases-write_two
decreases-write_two l = 2 + 4 * (formula_size l.left.now + formula_size l.right.now)

abbrev pub decreases-write_all : goal.decreases-write_all
decreases-write_all l = 2 + 4 * sum (map formula_size l.parts.now)

abbrev pub invariant-write_all-parts : goal.invariant-write_all-parts
invariant-write_all-parts l = record {
  written : Writes l.fn.graph (flat_map heads_of (take l.part-index l.parts)) l.fn.start
      l.fn.page l.page l.end;
}
