use Rattle.std.proofs.Common.{◌≡◌, ◌+◌, ◌++◌, List, length, arith, refl, sym, subst, ◌∙◌}
use Rattle.esc_clause.specs.Expansion.{from_place}
use Rattle.esc_clause.specs.declared.occurrence.Occurrence.{Occurrence}
use Rattle.esc_book.specs.Book.{heads_of}
use Rattle.esc_book.specs.ReadingInside.{begin_at}
use Rattle.esc_book.proofs.Parts.{PartsLeft, parts_done, parts_step}
use Rattle.esc_book.proofs.page.parts_of.Goals as goal
use Rattle.esc_book.proofs.page.parts_of.Goals.{then-next-index, else-next-index}

pub parts-init : goal.parts-init
parts-init c g f ps is there ends = record {
  left = ps;
  there = there;
  ends = ends;
  joined = subst (λ (l : List Occurrence). l ++ from_place c.args.fact
      (begin_at (heads_of f) c.args.from) c.args.positive ps
      ≡ from_place c.args.fact (begin_at (heads_of f) c.args.from) c.args.positive ps)
      (sym c.new-parts.ensures) refl;
}

pub parts-preserved : goal.parts-preserved
parts-preserved c g f ps is there ends =
    let whole = from_place c.args.fact (begin_at (heads_of f) c.args.from) c.args.positive ps in
    let step = parts_step f c.args.fact c.args.positive c.args.to whole c.parts.index c.parts.parts
    c.parts-test.true (c.parts.invariant g f ps is there ends) in
    let next : c.next_of-next.result ≡ c.parts.index + length (heads_of step.of) =
    c.next_of-next.ensures g f step.of is step.first in
    let begin : c.begin_of.result ≡ begin_at (heads_of f) c.parts.index =
    c.begin_of.ensures g f step.of is step.first in
    let left = subst (λ l. PartsLeft f c.args.fact c.args.positive c.args.to whole
    (c.parts.index + length (heads_of step.of)) l) (sym c.in_ok-push.ensures.ok)
    (step.read c.begin_of.result begin) in
    elim c.if-next-index.branch [
      | then-next-index w ↦
          subst (λ i. PartsLeft f c.args.fact c.args.positive c.args.to whole i c.push.new.self)
          (sym (w.index-is ∙ next)) left
      | else-next-index w ↦ absurd (omega (arith, w.if-next-index, next, step.further))
    ]

pub returns : goal.returns
returns c g f ps is there ends =
    parts_done f c.args.fact c.args.positive c.args.to
    (from_place c.args.fact (begin_at (heads_of f) c.args.from) c.args.positive ps) c.parts.index
    c.parts.parts (omega (arith, c.parts-test.false)) (c.parts.invariant g f ps is there ends)
