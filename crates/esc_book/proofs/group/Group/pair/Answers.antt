use Rattle.std.proofs.Common.{rules, of_calls, ◌≡◌, ◌+◌, ◌-◌, ◌<◌, nat_le, length}
use Rattle.std.proofs.Common.{None, Some, List, ℕ, drop, get_or, ap, ap₂, arith, sym, subst, ◌∙◌}
use Rattle.std.proofs.lemmas.Fn.{always_returns_same}
use Rattle.std.proofs.lemmas.List.{get_or_default}
use Rattle.std.proofs.lemmas.List.Sorted.{IsPartitionedBy-leb}
use Rattle.std.specs.List.{slice_get}
use Rattle.std.specs.List.Sorted.{IsNonDecreasingBy}
use Rattle.esc_book.specs.GroupInside.{node_pairs, rows_from}
use Rattle.esc_book.proofs.Pairs.{none_before, pair_is, rows_rise, start_within, length-rows_from}
use Rattle.esc_book.proofs.Pairs.{other_past, other_there}
use Rattle.std.proofs.lemmas.Bool.{ltb-false}
use Rattle.std.specs.Option.{option_map}
use Rattle.esc_book.proofs.group.Group.pair.Goals as goal

pub returns-then-row-eq0 : goal.returns-then-row-eq0
returns-then-row-eq0 c =
    let rows = c.deref.result.now in
    let are : rows ≡ rows_from 0 (length c.self.inside.nodes) =
    c.deref.ensures.value ∙ c.self.invariant.rows in
    let split = c.partition_point-row.ensures.partitioned (λ x. nat_le x c.args.number)
    (always_returns_same _ _ _ (λ a r f k. search (rules, of_calls)))
    (IsPartitionedBy-leb (λ x. x) rows c.args.number
    (subst (IsNonDecreasingBy (λ x. x)) (sym are) (rows_rise 0 (length c.self.inside.nodes)))) in
    subst (λ ns. ◌≡◌ None (slice_get (node_pairs ns) c.args.number)) c.self.view_is
    (sym (none_before c.self.inside.nodes rows c.args.number c.partition_point-row.result are split
    c.partition_point-row.ensures.bound (omega (arith, c.if-row-eq0.true))))

pub bounds-nodes-row : goal.bounds-nodes-row
bounds-nodes-row c =
    let are : length c.deref.result.now ≡ length c.self.inside.nodes =
    ap length (c.deref.ensures.value ∙ c.self.invariant.rows)
    ∙ length-rows_from 0 (length c.self.inside.nodes) in
    omega (
      arith,
      c.if-row-eq0.false,
      c.partition_point-row.ensures.bound,
      are,
      ap length c.as_slice-nodes.ensures,
    )

pub slice_bounds-others-count : goal.slice_bounds-others-count
slice_bounds-others-count c =
    let are : length c.deref.result.now ≡ length c.self.inside.nodes =
    ap length (c.deref.ensures.value ∙ c.self.invariant.rows)
    ∙ length-rows_from 0 (length c.self.inside.nodes) in
    omega (arith, c.partition_point-row.ensures.bound, are, ap length c.as_slice-nodes.ensures)

pub slice_bounds-others-start : goal.slice_bounds-others-start
slice_bounds-others-start c =
    let are : length c.deref.result.now ≡ length c.self.inside.nodes =
    ap length (c.deref.ensures.value ∙ c.self.invariant.rows)
    ∙ length-rows_from 0 (length c.self.inside.nodes) in
    omega (arith, c.partition_point-row.ensures.bound, are, ap length c.as_slice-nodes.ensures)

pub overflow_sub-number : goal.overflow_sub-number
overflow_sub-number c =
    let rows = c.deref.result.now in
    let row = c.partition_point-row.result in
    let are : rows ≡ rows_from 0 (length c.self.inside.nodes) =
    c.deref.ensures.value ∙ c.self.invariant.rows in
    let split = c.partition_point-row.ensures.partitioned (λ x. nat_le x c.args.number)
    (always_returns_same _ _ _ (λ a r f k. search (rules, of_calls)))
    (IsPartitionedBy-leb (λ x. x) rows c.args.number
    (subst (IsNonDecreasingBy (λ x. x)) (sym are) (rows_rise 0 (length c.self.inside.nodes)))) in
    let bound = c.partition_point-row.ensures.bound in
    let one : row - 1 + 1 ≡ row = omega (arith, c.if-row-eq0.false) in
    let l : row - 1 < length rows = omega (arith, c.if-row-eq0.false, bound) in
    let value : c.index.result.now ≡ get_or rows (row - 1) 0 =
    c.index.ensures ∙ (ap (λ rs. get_or rs (row - 1) c.index.result.now)
    (sym c.deref.ensures.value) ∙ get_or_default rows (row - 1) c.index.result.now 0 l) in
    omega (
      arith,
      value,
      start_within c.self.inside.nodes rows c.args.number row are split bound
          (row - 1) one,
    )

pub returns-in-Some : goal.returns-in-Some
returns-in-Some c =
    let rows = c.deref.result.now in
    let row = c.partition_point-row.result in
    let are : rows ≡ rows_from 0 (length c.self.inside.nodes) =
    c.deref.ensures.value ∙ c.self.invariant.rows in
    let split = c.partition_point-row.ensures.partitioned (λ x. nat_le x c.args.number)
    (always_returns_same _ _ _ (λ a r f k. search (rules, of_calls)))
    (IsPartitionedBy-leb (λ x. x) rows c.args.number
    (subst (IsNonDecreasingBy (λ x. x)) (sym are) (rows_rise 0 (length c.self.inside.nodes)))) in
    let bound = c.partition_point-row.ensures.bound in
    let one : row - 1 + 1 ≡ row = omega (arith, c.if-row-eq0.false) in
    let l : row - 1 < length rows = omega (arith, c.if-row-eq0.false, bound) in
    let value : c.index.result.now ≡ get_or rows (row - 1) 0 =
    c.index.ensures ∙ (ap (λ rs. get_or rs (row - 1) c.index.result.now)
    (sym c.deref.ensures.value) ∙ get_or_default rows (row - 1) c.index.result.now 0 l) in
    let many : length rows ≡ length c.self.inside.nodes =
    ap length are ∙ length-rows_from 0 (length c.self.inside.nodes) in
    let nodes = c.self.inside.nodes in
    let within : row - 1 < length nodes = omega (arith, l, many) in
    let first : c.index-nodes-row.result ≡ get_or nodes (row - 1) 0 =
    c.index-nodes-row.is ∙ (ap (λ ns. get_or ns (row - 1) c.index-nodes-row.result)
    c.as_slice-nodes.ensures ∙ get_or_default nodes (row - 1) c.index-nodes-row.result 0 within) in
    let pair = pair_is nodes rows c.args.number row are split bound (row - 1) one in
    let found = c.in-Some.ensures.lookup in
    let there : slice_get (drop row c.as_slice-nodes.result.now)
    (c.args.number - c.index.result.now) ≡ Some c.in-Some.other.now =
    other_there c.as_slice-nodes.result.now row (c.args.number - c.index.result.now)
    c.in-Some.other.now found.3.0 found.1 in
    subst (λ ns. Some (c.index-nodes-row.result, c.in-Some.other.now)
    ≡ slice_get (node_pairs ns) c.args.number) c.self.view_is
    (sym (pair ∙ (ap₂ (λ (ns : List ℕ) n. option_map (λ b. (get_or nodes (row - 1) 0, b))
    (slice_get (drop row ns) n)) (sym c.as_slice-nodes.ensures)
    (ap (λ x. c.args.number - x) (sym value))
    ∙ (ap (option_map (λ b. (get_or nodes (row - 1) 0, b))) there
    ∙ ap (λ x. Some (x, c.in-Some.other.now)) (sym first)))))

pub returns-in-None : goal.returns-in-None
returns-in-None c =
    let rows = c.deref.result.now in
    let row = c.partition_point-row.result in
    let are : rows ≡ rows_from 0 (length c.self.inside.nodes) =
    c.deref.ensures.value ∙ c.self.invariant.rows in
    let split = c.partition_point-row.ensures.partitioned (λ x. nat_le x c.args.number)
    (always_returns_same _ _ _ (λ a r f k. search (rules, of_calls)))
    (IsPartitionedBy-leb (λ x. x) rows c.args.number
    (subst (IsNonDecreasingBy (λ x. x)) (sym are) (rows_rise 0 (length c.self.inside.nodes)))) in
    let bound = c.partition_point-row.ensures.bound in
    let one : row - 1 + 1 ≡ row = omega (arith, c.if-row-eq0.false) in
    let l : row - 1 < length rows = omega (arith, c.if-row-eq0.false, bound) in
    let value : c.index.result.now ≡ get_or rows (row - 1) 0 =
    c.index.ensures ∙ (ap (λ rs. get_or rs (row - 1) c.index.result.now)
    (sym c.deref.ensures.value) ∙ get_or_default rows (row - 1) c.index.result.now 0 l) in
    let many : length rows ≡ length c.self.inside.nodes =
    ap length are ∙ length-rows_from 0 (length c.self.inside.nodes) in
    let nodes = c.self.inside.nodes in
    let within : row - 1 < length nodes = omega (arith, l, many) in
    let first : c.index-nodes-row.result ≡ get_or nodes (row - 1) 0 =
    c.index-nodes-row.is ∙ (ap (λ ns. get_or ns (row - 1) c.index-nodes-row.result)
    c.as_slice-nodes.ensures ∙ get_or_default nodes (row - 1) c.index-nodes-row.result 0 within) in
    let pair = pair_is nodes rows c.args.number row are split bound (row - 1) one in
    let found = c.in-None.ensures.lookup in
    let past : slice_get (drop row c.as_slice-nodes.result.now) (c.args.number - c.index.result.now)
    ≡ None =
    other_past c.as_slice-nodes.result.now row (c.args.number - c.index.result.now)
    (ltb-false _ _ (sym found.0)) in
    subst (λ ns. None ≡ slice_get (node_pairs ns) c.args.number) c.self.view_is
    (sym (pair ∙ (ap₂ (λ (ns : List ℕ) n. option_map (λ b. (get_or nodes (row - 1) 0, b))
    (slice_get (drop row ns) n)) (sym c.as_slice-nodes.ensures)
    (ap (λ x. c.args.number - x) (sym value))
    ∙ ap (option_map (λ b. (get_or nodes (row - 1) 0, b))) past)))
