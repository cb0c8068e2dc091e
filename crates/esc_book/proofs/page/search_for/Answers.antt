use Rattle.std.proofs.Common.{rules, of_calls, ◌≡◌, ◌+◌, ◌-◌, nat_le, arith, ap, ◌∙◌}
use Rattle.std.specs.List.{slice_get}
use Rattle.std.proofs.lemmas.Fn.{always_returns_same}
use Rattle.std.proofs.lemmas.List.Sorted.{IsPartitionedBy-leb}
use Rattle.esc_book.specs.GroupInside.{node_pairs}
use Rattle.esc_book.specs.ReadingInside.{pair_place}
use Rattle.esc_book.specs.declared.entry.Entry.{Entry}
use Rattle.esc_book.proofs.Locating.{entry_located, nothing_before, nothing_there, pair_located}
use Rattle.esc_book.proofs.Locating.{begins_before}
use Rattle.esc_book.proofs.Reading.{begins_rise}
use Rattle.esc_book.proofs.page.search_for.Goals as goal

pub returns-then-behind-eq0 : goal.returns-then-behind-eq0
returns-then-behind-eq0 c g f is =
    let split = c.partition_point-behind.ensures.partitioned
    (λ (e : Entry). nat_le e.begin c.args.place)
    (always_returns_same _ _ _ (λ a r p k. search (rules, of_calls)))
    (IsPartitionedBy-leb (λ (e : Entry). e.begin) c.args.page.now c.args.place
    (begins_rise g f c.args.page.now is)) in
    nothing_before g f c.args.page.now is c.args.place c.partition_point-behind.result split
    c.partition_point-behind.ensures.bound (omega (arith, c.if-behind-eq0.true))

pub returns-then-place-entry : goal.returns-then-place-entry
returns-then-place-entry c g f is =
    let split = c.partition_point-behind.ensures.partitioned
    (λ (e : Entry). nat_le e.begin c.args.place)
    (always_returns_same _ _ _ (λ a r p k. search (rules, of_calls)))
    (IsPartitionedBy-leb (λ (e : Entry). e.begin) c.args.page.now c.args.place
    (begins_rise g f c.args.page.now is)) in
    let behind = c.partition_point-behind.result in
    let last : behind - 1 + 1 ≡ behind = omega (arith, c.if-behind-eq0.false) in
    absurd (omega (
      arith,
      c.if-place-entry.true,
      begins_before g f c.args.page.now is c.args.place behind split
          c.partition_point-behind.ensures.bound (behind - 1) c.index-page-behind.result last
          c.index-page-behind.is,
    ))

pub returns-then-entry-place : goal.returns-then-entry-place
returns-then-entry-place c g f is =
    let split = c.partition_point-behind.ensures.partitioned
    (λ (e : Entry). nat_le e.begin c.args.place)
    (always_returns_same _ _ _ (λ a r p k. search (rules, of_calls)))
    (IsPartitionedBy-leb (λ (e : Entry). e.begin) c.args.page.now c.args.place
    (begins_rise g f c.args.page.now is)) in
    let behind = c.partition_point-behind.result in
    let last : behind - 1 + 1 ≡ behind = omega (arith, c.if-behind-eq0.false) in
    entry_located g f c.args.page.now is c.args.place behind split
    c.partition_point-behind.ensures.bound (behind - 1) c.index-page-behind.result last
    c.index-page-behind.is c.if-entry-place.true

pub returns-in-Distinction : goal.returns-in-Distinction
returns-in-Distinction c g f is =
    let split = c.partition_point-behind.ensures.partitioned
    (λ (e : Entry). nat_le e.begin c.args.place)
    (always_returns_same _ _ _ (λ a r p k. search (rules, of_calls)))
    (IsPartitionedBy-leb (λ (e : Entry). e.begin) c.args.page.now c.args.place
    (begins_rise g f c.args.page.now is)) in
    let behind = c.partition_point-behind.result in
    let last : behind - 1 + 1 ≡ behind = omega (arith, c.if-behind-eq0.false) in
    let begin = c.index-page-behind.result.begin in
    let parted : c.args.place ≡ begin + 1 + (c.args.place - begin - 1) =
    omega (arith, c.if-place-entry.false, c.if-entry-place.false) in
    pair_located g f c.args.page.now is c.args.place behind split
    c.partition_point-behind.ensures.bound (behind - 1) c.index-page-behind.result last
    c.index-page-behind.is c.in-Distinction.group (c.args.place - begin - 1) c.pair_in.result
    c.in-Distinction.is parted
    (c.pair_in.ensures ∙ ap (λ nodes. pair_place (slice_get (node_pairs nodes)
    (c.args.place - begin - 1))) c.get.ensures)

pub returns-in_default : goal.returns-in_default
returns-in_default c g f is =
    let split = c.partition_point-behind.ensures.partitioned
    (λ (e : Entry). nat_le e.begin c.args.place)
    (always_returns_same _ _ _ (λ a r p k. search (rules, of_calls)))
    (IsPartitionedBy-leb (λ (e : Entry). e.begin) c.args.page.now c.args.place
    (begins_rise g f c.args.page.now is)) in
    let behind = c.partition_point-behind.result in
    let last : behind - 1 + 1 ≡ behind = omega (arith, c.if-behind-eq0.false) in
    nothing_there g f c.args.page.now is c.args.place behind split
    c.partition_point-behind.ensures.bound (behind - 1) c.index-page-behind.result last
    c.index-page-behind.is c.if-entry-place.false c.in_default.not-Distinction
