use Rattle.std.proofs.Common.{arith, sym, subst}
use Rattle.std.specs.List.{All, Contains}
use Rattle.esc_term.specs.Formula.{terms_of}
use Rattle.esc_node_terms.proofs.FormulaSize.{falls-part, falls-parts, formula_size}
use Rattle.esc_node_terms.proofs.TermSize.{falls-item}
use Rattle.esc_sharing.specs.Nodes.{terms_in}
use Rattle.esc_book.specs.Book.{heads_of}
use Rattle.esc_book.specs.WritingInside.{Writes, behind_own, inside_of}
use Rattle.esc_book.proofs.Headed.{distinct-if, inside-if, writes_more, written-heads}
use Rattle.esc_book.proofs.Headed.{written-within}
use Rattle.esc_book.proofs.Inside.{inside-Eq, inside-Exists, inside-False, inside-Forall}
use Rattle.esc_book.proofs.Inside.{inside-Less, inside-True, inside-part, inside-parts, inside-two}
use Rattle.esc_book.proofs.Inside.{terms-left, terms-part, terms-parts, terms-right}
use Rattle.esc_book.proofs.Sizes.{falls-two}
use Rattle.esc_book.proofs.Writings.{writes_both, writes_none}
use Rattle.esc_book.proofs.writing.+write.Goals as goal

-- ---- one formula

pub write-set-requires : goal.write-set-requires
write-set-requires t c =
    written-within c.args.graph.now c.args.formula.now _ c.len-index.result c.in_ok-end.end _
    c.args.page.now _ _ c.len-index.ensures c.in_ok-push.ensures.ok c.in_ok-end.ensures

pub write-returns : goal.write-returns
write-returns t c =
    written-heads c.args.graph.now c.args.formula.now c.in_ok-kind.kind c.args.start
    c.in_ok-inside.inside c.len-index.result c.len-next.result c.in_ok-end.end _ c.args.page.now
    _ _ _ c.in_ok-kind.ensures c.in_ok-inside.ensures c.len-index.ensures
    c.in_ok-push.ensures.ok c.in_ok-end.ensures c.len-next.ensures c.set.ensures

-- ---- what stands behind it

pub write_inside-write_all-requires : goal.write_inside-write_all-requires
write_inside-write_all-requires t c =
    let falls = falls-parts c.args.formula.now c.in-And.parts c.as_slice.result.now c.in-And.is
    c.as_slice.ensures in (
      omega arith,
      terms-parts (Contains (terms_in c.args.graph.now)) c.args.formula.now c.in-And.parts
          c.as_slice.result.now c.in-And.is c.as_slice.ensures c.requires.terms,
    )

pub write_inside-write-requires : goal.write_inside-write-requires
write_inside-write-requires t c =
    let falls = falls-part c.args.formula.now c.in-Not.part c.get-in-Not.result.now c.in-Not.is
    c.get-in-Not.ensures in (
      omega arith,
      terms-part (Contains (terms_in c.args.graph.now)) c.args.formula.now c.in-Not.part
          c.get-in-Not.result.now c.in-Not.is c.get-in-Not.ensures c.requires.terms,
    )

pub write_inside-write_two-requires : goal.write_inside-write_two-requires
write_inside-write_two-requires t c =
    let falls = falls-two c.args.formula.now c.in-Implies.left c.in-Implies.right
    c.get.result.now c.get-in-Implies.result.now c.in-Implies.is c.get.ensures
    c.get-in-Implies.ensures in (
      omega arith,
      (
        terms-left (Contains (terms_in c.args.graph.now)) c.args.formula.now c.in-Implies.left
            c.in-Implies.right c.get.result.now c.in-Implies.is c.get.ensures c.requires.terms,
        terms-right (Contains (terms_in c.args.graph.now)) c.args.formula.now c.in-Implies.left
            c.in-Implies.right c.get-in-Implies.result.now c.in-Implies.is
            c.get-in-Implies.ensures c.requires.terms,
      ),
    )

pub write_two-write-requires-2 : goal.write_two-write-requires-2
write_two-write-requires-2 t c = (omega arith, c.requires.right)

pub write_two-write-requires : goal.write_two-write-requires
write_two-write-requires t c = (omega arith, c.requires.left)

pub write-write_inside-requires : goal.write-write_inside-requires
write-write_inside-requires t c = (omega arith, c.requires.terms)

pub write_inside-returns-in-And : goal.write_inside-returns-in-And
write_inside-returns-in-And t c =
    inside-if c.args.graph.now c.args.formula.now _ c.args.inside c.args.page.now _
    c.write_all.result (inside-parts c.args.formula.now c.in-And.parts c.as_slice.result.now
    c.in-And.is c.as_slice.ensures) c.write_all.ensures

pub write_inside-returns-in-Not : goal.write_inside-returns-in-Not
write_inside-returns-in-Not t c =
    inside-if c.args.graph.now c.args.formula.now _ c.args.inside c.args.page.now _
    c.write.result (inside-part c.args.formula.now c.in-Not.part c.get-in-Not.result.now
    c.in-Not.is c.get-in-Not.ensures) c.write.ensures

pub write_inside-returns-in-Implies : goal.write_inside-returns-in-Implies
write_inside-returns-in-Implies t c =
    inside-if c.args.graph.now c.args.formula.now _ c.args.inside c.args.page.now _
    c.write_two.result (inside-two c.args.formula.now c.in-Implies.left c.in-Implies.right
    c.get.result.now c.get-in-Implies.result.now c.in-Implies.is
    c.get.ensures c.get-in-Implies.ensures) c.write_two.ensures

pub write_inside-returns-in-Distinct : goal.write_inside-returns-in-Distinct
write_inside-returns-in-Distinct t c =
    distinct-if c.args.graph.now c.args.formula.now c.in-Distinct.terms c.len.result
    c.args.inside c.args.page.now c.behind_pairs.result c.in-Distinct.is c.len.ensures
    c.behind_pairs.ensures

pub write_inside-returns-in-True : goal.write_inside-returns-in-True
write_inside-returns-in-True t c =
    subst (λ f. Writes c.args.graph.now (inside_of f) (behind_own c.args.inside f)
    c.args.page.now c.args.page.now c.args.inside) (sym c.in-True.is)
    (inside-True c.args.graph.now c.args.inside c.args.page.now)

pub write_inside-returns-in-False : goal.write_inside-returns-in-False
write_inside-returns-in-False t c =
    subst (λ f. Writes c.args.graph.now (inside_of f) (behind_own c.args.inside f)
    c.args.page.now c.args.page.now c.args.inside) (sym c.in-False.is)
    (inside-False c.args.graph.now c.args.inside c.args.page.now)

pub write_inside-returns-in-Eq : goal.write_inside-returns-in-Eq
write_inside-returns-in-Eq t c =
    subst (λ f. Writes c.args.graph.now (inside_of f) (behind_own c.args.inside f)
    c.args.page.now c.args.page.now c.args.inside) (sym c.in-Eq.is)
    (inside-Eq c.args.graph.now c.args.inside c.args.page.now c.in-Eq.field-0 c.in-Eq.field-1)

pub write_inside-returns-in-Less : goal.write_inside-returns-in-Less
write_inside-returns-in-Less t c =
    subst (λ f. Writes c.args.graph.now (inside_of f) (behind_own c.args.inside f)
    c.args.page.now c.args.page.now c.args.inside) (sym c.in-Less.is)
    (inside-Less c.args.graph.now c.args.inside c.args.page.now c.in-Less.field-0
    c.in-Less.field-1)

pub write_inside-returns-in-Forall : goal.write_inside-returns-in-Forall
write_inside-returns-in-Forall t c =
    subst (λ f. Writes c.args.graph.now (inside_of f) (behind_own c.args.inside f)
    c.args.page.now c.args.page.now c.args.inside) (sym c.in-Forall.is)
    (inside-Forall c.args.graph.now c.args.inside c.args.page.now c.in-Forall.field-0)

pub write_inside-returns-in-Exists : goal.write_inside-returns-in-Exists
write_inside-returns-in-Exists t c =
    subst (λ f. Writes c.args.graph.now (inside_of f) (behind_own c.args.inside f)
    c.args.page.now c.args.page.now c.args.inside) (sym c.in-Exists.is)
    (inside-Exists c.args.graph.now c.args.inside c.args.page.now c.in-Exists.field-0)

-- ---- side by side

pub write_two-returns : goal.write_two-returns
write_two-returns t c =
    writes_both c.args.graph.now (heads_of c.args.left.now) (heads_of c.args.right.now)
    c.args.start c.in_ok-middle.middle c.in_ok-end.end c.args.page.now _ _
    c.in_ok-middle.ensures c.in_ok-end.ensures

pub write_all-parts-init : goal.write_all-parts-init
write_all-parts-init t c = record {
  written = writes_none c.args.graph.now c.args.start c.args.page.now;
}

pub write_all-write-requires : goal.write_all-write-requires
write_all-write-requires t c =
    let falls = falls-item formula_size c.args.parts.now c.parts.part-index c.part-item.result
    c.parts-test.true c.part-item.is in (
      omega arith,
      subst (λ f. All (Contains (terms_in c.args.graph.now)) (terms_of f)) (sym c.part-item.is)
          (c.requires.terms c.parts.part-index c.part-item.result c.parts-test.true),
    )

pub write_all-parts-preserved : goal.write_all-parts-preserved
write_all-parts-preserved t c = record {
  written = writes_more c.args.graph.now c.args.parts.now c.parts.part-index c.part-item.result
      c.args.start c.parts.end c.in_ok-end.end c.args.page.now _ _ c.parts-test.true
      c.part-item.is c.parts.invariant.written c.in_ok-end.ensures;
}
