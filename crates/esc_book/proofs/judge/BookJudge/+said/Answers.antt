use Rattle.std.proofs.Common.{◌≡◌, ◌+◌, ◌<◌, ◌≤◌, true, false, Some, length, sym, subst, arith}
use Rattle.std.specs.List.{slice_get}
use Rattle.std.proofs.lemmas.Bool.{ltb-false}
use Rattle.esc_book.specs.Book.{heads_of}
use Rattle.esc_book.specs.JudgingInside.{cover_by, of_parts}
use Rattle.esc_book.proofs.EntryForms.{first_behind, form_there, kind_there, no_parts}
use Rattle.esc_book.proofs.EntryForms.{part_behind, parts_behind, second_behind}
use Rattle.esc_book.proofs.Reading.{get-within, length-page, next_there}
use Rattle.esc_book.proofs.SaidForms.{heads-Iff, heads-Implies, heads-Labelled, heads-Not}
use Rattle.esc_book.proofs.SaidForms.{said_of-Iff, said_of-Implies, said_of-Labelled, said_of-Not}
use Rattle.esc_book.proofs.SaidForms.{said_of-parts}
use Rattle.esc_book.proofs.SaidParts.{IsLeft, left_done, left_more, left_starts}
use Rattle.esc_book.specs.declared.entry.Kind.TheVariants as kind
use Rattle.esc_book.proofs.judge.BookJudge.+said.Goals as goal

pub said_at-returns-in_default : goal.said_at-returns-in_default
said_at-returns-in_default t c f s is there =
    let found = c.in_default.ensures.lookup in
    absurd (omega (
      arith,
      ltb-false _ _ (sym found.0),
      length-page c.args.self.now.saying.graph.now f c.args.page.now is,
      get-within (heads_of f) c.args.index s there,
    ))

pub said_at-said_of_parts-requires : goal.said_at-said_of_parts-requires
said_at-said_of_parts-requires t c =
    let need = c.requires.there in
    let found = c.in-Some.ensures.lookup in
    let l : c.args.index < length c.args.page.now = found.3.0 in
    let of = form_there c.args.self.now.saying.graph.now need.whole c.args.page.now need.is_page
    c.args.index c.in-Some.entry.now l found.1 need.part kind.Conjunction need.there
    c.in-Conjunction.is in (
      omega arith,
      (
        c.requires.ready,
        record {
          whole = need.whole;
          is_page = need.is_page;
          parts = of.0;
          between = parts_behind need.whole c.args.index need.part need.there true of.0
              c.in-Some.entry.now.next of.1
              (next_there c.args.self.now.saying.graph.now need.whole c.args.page.now need.is_page
              c.args.index c.in-Some.entry.now need.part l found.1 need.there);
        },
      ),
    )

pub said_at-said_of_parts-requires-in-Disjunction :
    goal.said_at-said_of_parts-requires-in-Disjunction
said_at-said_of_parts-requires-in-Disjunction t c =
    let need = c.requires.there in
    let found = c.in-Some.ensures.lookup in
    let l : c.args.index < length c.args.page.now = found.3.0 in
    let of = form_there c.args.self.now.saying.graph.now need.whole c.args.page.now need.is_page
    c.args.index c.in-Some.entry.now l found.1 need.part kind.Disjunction need.there
    c.in-Disjunction.is in (
      omega arith,
      (
        c.requires.ready,
        record {
          whole = need.whole;
          is_page = need.is_page;
          parts = of.0;
          between = parts_behind need.whole c.args.index need.part need.there false of.0
              c.in-Some.entry.now.next of.1
              (next_there c.args.self.now.saying.graph.now need.whole c.args.page.now need.is_page
              c.args.index c.in-Some.entry.now need.part l found.1 need.there);
        },
      ),
    )

pub said_at-said_at-requires : goal.said_at-said_at-requires
said_at-said_at-requires t c =
    let need = c.requires.there in
    let found = c.in-Some.ensures.lookup in
    let l : c.args.index < length c.args.page.now = found.3.0 in
    let of = form_there c.args.self.now.saying.graph.now need.whole c.args.page.now need.is_page
    c.args.index c.in-Some.entry.now l found.1 need.part kind.Negation need.there
    c.in-Negation.is in (
      omega arith,
      (
        c.requires.ready,
        record {
          whole = need.whole;
          is_page = need.is_page;
          part = of.0;
          there = part_behind need.whole c.args.index need.part need.there of.0
              (heads-Not need.part of.0 of.1);
        },
      ),
    )

pub said_at-said_at-requires-in-Labelled : goal.said_at-said_at-requires-in-Labelled
said_at-said_at-requires-in-Labelled t c =
    let need = c.requires.there in
    let found = c.in-Some.ensures.lookup in
    let l : c.args.index < length c.args.page.now = found.3.0 in
    let of = form_there c.args.self.now.saying.graph.now need.whole c.args.page.now need.is_page
    c.args.index c.in-Some.entry.now l found.1 need.part kind.Labelled need.there
    c.in-Labelled.is in (
      omega arith,
      (
        c.requires.ready,
        record {
          whole = need.whole;
          is_page = need.is_page;
          part = of.0;
          there = part_behind need.whole c.args.index need.part need.there of.0
              (heads-Labelled need.part of.0 of.1.0 of.1.1);
        },
      ),
    )

pub said_at-said_at-first-requires : goal.said_at-said_at-first-requires
said_at-said_at-first-requires t c =
    let need = c.requires.there in
    let found = c.in-Some.ensures.lookup in
    let l : c.args.index < length c.args.page.now = found.3.0 in
    let of = form_there c.args.self.now.saying.graph.now need.whole c.args.page.now need.is_page
    c.args.index c.in-Some.entry.now l found.1 need.part kind.Implication need.there
    c.in-Implication.is in (
      omega arith,
      (
        c.requires.ready,
        record {
          whole = need.whole;
          is_page = need.is_page;
          part = of.0;
          there = first_behind need.whole c.args.index need.part need.there of.0 of.1.0
              (heads-Implies need.part of.0 of.1.0 of.1.1);
        },
      ),
    )

pub said_at-said_at-first-requires-in-Equivalence :
    goal.said_at-said_at-first-requires-in-Equivalence
said_at-said_at-first-requires-in-Equivalence t c =
    let need = c.requires.there in
    let found = c.in-Some.ensures.lookup in
    let l : c.args.index < length c.args.page.now = found.3.0 in
    let of = form_there c.args.self.now.saying.graph.now need.whole c.args.page.now need.is_page
    c.args.index c.in-Some.entry.now l found.1 need.part kind.Equivalence need.there
    c.in-Equivalence.is in (
      omega arith,
      (
        c.requires.ready,
        record {
          whole = need.whole;
          is_page = need.is_page;
          part = of.0;
          there = first_behind need.whole c.args.index need.part need.there of.0 of.1.0
              (heads-Iff need.part of.0 of.1.0 of.1.1);
        },
      ),
    )

pub said_at-said_at-second-requires : goal.said_at-said_at-second-requires
said_at-said_at-second-requires t c =
    let g = c.args.self.now.saying.graph.now in
    let need = c.requires.there in
    let found = c.in-Some.ensures.lookup in
    let l : c.args.index < length c.args.page.now = found.3.0 in
    let of = form_there g need.whole c.args.page.now need.is_page c.args.index
    c.in-Some.entry.now l found.1 need.part kind.Implication need.there c.in-Implication.is in
    let behind = heads-Implies need.part of.0 of.1.0 of.1.1 in
    let next : c.next_of.result ≡ c.args.index + 1 + length (heads_of of.0) =
    c.next_of.ensures g need.whole of.0 need.is_page
    (first_behind need.whole c.args.index need.part need.there of.0 of.1.0 behind) in (
      omega arith,
      (
        c.requires.ready,
        record {
          whole = need.whole;
          is_page = need.is_page;
          part = of.1.0;
          there = subst (λ i. slice_get (heads_of need.whole) i ≡ Some of.1.0) (sym next)
              (second_behind need.whole c.args.index need.part need.there of.0 of.1.0 behind);
        },
      ),
    )

pub said_at-said_at-second-requires-in-Equivalence :
    goal.said_at-said_at-second-requires-in-Equivalence
said_at-said_at-second-requires-in-Equivalence t c =
    let g = c.args.self.now.saying.graph.now in
    let need = c.requires.there in
    let found = c.in-Some.ensures.lookup in
    let l : c.args.index < length c.args.page.now = found.3.0 in
    let of = form_there g need.whole c.args.page.now need.is_page c.args.index
    c.in-Some.entry.now l found.1 need.part kind.Equivalence need.there c.in-Equivalence.is in
    let behind = heads-Iff need.part of.0 of.1.0 of.1.1 in
    let next : c.next_of-in-Equivalence.result ≡ c.args.index + 1 + length (heads_of of.0) =
    c.next_of-in-Equivalence.ensures g need.whole of.0 need.is_page
    (first_behind need.whole c.args.index need.part need.there of.0 of.1.0 behind) in (
      omega arith,
      (
        c.requires.ready,
        record {
          whole = need.whole;
          is_page = need.is_page;
          part = of.1.0;
          there = subst (λ i. slice_get (heads_of need.whole) i ≡ Some of.1.0) (sym next)
              (second_behind need.whole c.args.index need.part need.there of.0 of.1.0 behind);
        },
      ),
    )

pub said_at-returns-in-Conjunction : goal.said_at-returns-in-Conjunction
said_at-returns-in-Conjunction t c f s is there =
    let g = c.args.self.now.saying.graph.now in
    let found = c.in-Some.ensures.lookup in
    let of = form_there g f c.args.page.now is c.args.index c.in-Some.entry.now found.3.0 found.1
    s kind.Conjunction there c.in-Conjunction.is in
    said_of-parts c.args.self.now s true of.0 c.said_of_parts.result of.1
    (c.said_of_parts.ensures f of.0 is
    (parts_behind f c.args.index s there true of.0 c.in-Some.entry.now.next of.1
    (next_there g f c.args.page.now is c.args.index c.in-Some.entry.now s found.3.0 found.1
    there)))

pub said_at-returns-in-Disjunction : goal.said_at-returns-in-Disjunction
said_at-returns-in-Disjunction t c f s is there =
    let g = c.args.self.now.saying.graph.now in
    let found = c.in-Some.ensures.lookup in
    let of = form_there g f c.args.page.now is c.args.index c.in-Some.entry.now found.3.0 found.1
    s kind.Disjunction there c.in-Disjunction.is in
    said_of-parts c.args.self.now s false of.0 c.said_of_parts-in-Disjunction.result of.1
    (c.said_of_parts-in-Disjunction.ensures f of.0 is
    (parts_behind f c.args.index s there false of.0 c.in-Some.entry.now.next of.1
    (next_there g f c.args.page.now is c.args.index c.in-Some.entry.now s found.3.0 found.1
    there)))

pub said_at-returns-in-Negation : goal.said_at-returns-in-Negation
said_at-returns-in-Negation t c f s is there =
    let g = c.args.self.now.saying.graph.now in
    let found = c.in-Some.ensures.lookup in
    let of = form_there g f c.args.page.now is c.args.index c.in-Some.entry.now found.3.0 found.1
    s kind.Negation there c.in-Negation.is in
    said_of-Not c.args.self.now s of.0 c.said_at.result c.turned.result of.1
    (c.said_at.ensures f of.0 is
    (part_behind f c.args.index s there of.0 (heads-Not s of.0 of.1)))
    c.turned.ensures.holds c.turned.ensures.fails

pub said_at-returns-in-Labelled : goal.said_at-returns-in-Labelled
said_at-returns-in-Labelled t c f s is there =
    let g = c.args.self.now.saying.graph.now in
    let found = c.in-Some.ensures.lookup in
    let of = form_there g f c.args.page.now is c.args.index c.in-Some.entry.now found.3.0 found.1
    s kind.Labelled there c.in-Labelled.is in
    said_of-Labelled c.args.self.now s of.0 of.1.0 c.said_at-in-Labelled.result of.1.1
    (c.said_at-in-Labelled.ensures f of.0 is
    (part_behind f c.args.index s there of.0 (heads-Labelled s of.0 of.1.0 of.1.1)))

pub said_at-returns-in-Implication : goal.said_at-returns-in-Implication
said_at-returns-in-Implication t c f s is there =
    let g = c.args.self.now.saying.graph.now in
    let found = c.in-Some.ensures.lookup in
    let of = form_there g f c.args.page.now is c.args.index c.in-Some.entry.now found.3.0 found.1
    s kind.Implication there c.in-Implication.is in
    let behind = heads-Implies s of.0 of.1.0 of.1.1 in
    let here = first_behind f c.args.index s there of.0 of.1.0 behind in
    let next : c.next_of.result ≡ c.args.index + 1 + length (heads_of of.0) =
    c.next_of.ensures g f of.0 is here in
    let later = c.said_at-second.ensures f of.1.0 is
    (subst (λ i. slice_get (heads_of f) i ≡ Some of.1.0) (sym next)
    (second_behind f c.args.index s there of.0 of.1.0 behind)) in
    said_of-Implies c.args.self.now s of.0 of.1.0 c.said_at-first.result c.said_at-second.result
    (c.said_at-first.ensures f of.0 is here) later c.turned-in-Implication.result c.or.result
    of.1.1 c.turned-in-Implication.ensures.holds c.turned-in-Implication.ensures.fails
    c.or.ensures.holds c.or.ensures.fails

pub said_at-returns-in-Equivalence : goal.said_at-returns-in-Equivalence
said_at-returns-in-Equivalence t c f s is there =
    let g = c.args.self.now.saying.graph.now in
    let found = c.in-Some.ensures.lookup in
    let of = form_there g f c.args.page.now is c.args.index c.in-Some.entry.now found.3.0 found.1
    s kind.Equivalence there c.in-Equivalence.is in
    let behind = heads-Iff s of.0 of.1.0 of.1.1 in
    let here = first_behind f c.args.index s there of.0 of.1.0 behind in
    let next : c.next_of-in-Equivalence.result ≡ c.args.index + 1 + length (heads_of of.0) =
    c.next_of-in-Equivalence.ensures g f of.0 is here in
    let later = c.said_at-second-in-Equivalence.ensures f of.1.0 is
    (subst (λ i. slice_get (heads_of f) i ≡ Some of.1.0) (sym next)
    (second_behind f c.args.index s there of.0 of.1.0 behind)) in
    said_of-Iff c.args.self.now s of.0 of.1.0 c.said_at-first-in-Equivalence.result
    c.said_at-second-in-Equivalence.result
    (c.said_at-first-in-Equivalence.ensures f of.0 is here) later c.iff.result of.1.1
    c.iff.ensures.holds c.iff.ensures.fails

pub said_at-returns-in-Constant : goal.said_at-returns-in-Constant
said_at-returns-in-Constant t c f s is there =
    let g = c.args.self.now.saying.graph.now in
    let found = c.in-Some.ensures.lookup in
    let entry = c.in-Some.entry.now in
    c.said_of_kind.ensures s
    (kind_there g f c.args.page.now is c.args.index entry found.3.0 found.1 s there)
    (no_parts entry.kind c.in-Constant.is)

pub said_of_parts-parts-init : goal.said_of_parts-parts-init
said_of_parts-parts-init t c = record {
  onward = omega arith;
  left = λ f ps is between.
      left_starts c.args.self.now c.args.all (heads_of f) c.args.from c.args.to
      c.of_no_parts-said.result ps between c.of_no_parts-said.ensures;
}

pub said_of_parts-said_at-requires : goal.said_of_parts-said_at-requires
said_of_parts-said_at-requires t c =
    let need = c.requires.there in
    let j = c.args.self.now in
    let onward : c.args.from ≤ c.parts.index = c.parts.invariant.onward in
    let next = left_more j c.args.all (heads_of need.whole) c.parts.index c.args.to c.parts.said
    (cover_by j (of_parts c.args.all need.parts))
    (c.parts.invariant.left need.whole need.parts need.is_page need.between) c.parts-test.true in (
      omega arith,
      (
        c.requires.ready,
        record {
          whole = need.whole;
          is_page = need.is_page;
          part = next.part;
          there = next.there;
        },
      ),
    )

pub said_of_parts-parts-smaller : goal.said_of_parts-parts-smaller
said_of_parts-parts-smaller t c =
    let j = c.args.self.now in
    let need = c.requires.there in
    let more : c.parts.index < c.args.to = c.parts-test.true in
    let next = left_more j c.args.all (heads_of need.whole) c.parts.index c.args.to
    c.parts.said (cover_by j (of_parts c.args.all need.parts))
    (c.parts.invariant.left need.whole need.parts need.is_page need.between) more in
    let further : c.parts.index < c.parts.index + length (heads_of next.part) = next.further in
    let at_next : c.next_of-index.result ≡ c.parts.index + length (heads_of next.part) =
    c.next_of-index.ensures j.saying.graph.now need.whole next.part need.is_page next.there in
    omega arith

pub said_of_parts-parts-preserved : goal.said_of_parts-parts-preserved
said_of_parts-parts-preserved t c =
    let j = c.args.self.now in
    let g = j.saying.graph.now in
    let need = c.requires.there in
    let from_there : c.args.from ≤ c.parts.index = c.parts.invariant.onward in
    let next_needed = left_more j c.args.all (heads_of need.whole) c.parts.index c.args.to
    c.parts.said (cover_by j (of_parts c.args.all need.parts))
    (c.parts.invariant.left need.whole need.parts need.is_page need.between) c.parts-test.true in
    let at_next : c.next_of-index.result ≡ c.parts.index + length (heads_of next_needed.part) =
    c.next_of-index.ensures g need.whole next_needed.part need.is_page next_needed.there in
    record {
      onward = omega arith;
      left = λ f ps is between.
          let whole = cover_by j (of_parts c.args.all ps) in
          let next = left_more j c.args.all (heads_of f) c.parts.index c.args.to c.parts.said
          whole (c.parts.invariant.left f ps is between) c.parts-test.true in
          subst (λ i. IsLeft j c.args.all (heads_of f) i c.args.to c.with_part-said.result whole)
          (sym (c.next_of-index.ensures g f next.part is next.there))
          (next.left c.said_at.result c.with_part-said.result
          (c.said_at.ensures f next.part is next.there) c.with_part-said.ensures);
    }

pub said_of_parts-returns : goal.said_of_parts-returns
said_of_parts-returns t c f ps is between =
    let j = c.args.self.now in
    left_done j c.args.all (heads_of f) c.parts.index c.args.to c.parts.said
    (cover_by j (of_parts c.args.all ps)) (c.parts.invariant.left f ps is between)
    c.parts-test.false
