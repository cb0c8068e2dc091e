use Rattle.std.proofs.Common.{◌≡◌, ◌-◌, [], ◌∷◌, ◌++◌, map, length, take, get_or, arith, ap, refl, ◌∙◌}
use Rattle.esc_union.specs.PartitionInside.{IsHeld}
use Rattle.esc_union.proofs.Holding.{read_root, was_merge, small_in, large_in, parting_alone, parting_fits, parted_held}
use Rattle.esc_union.proofs.partition.Partition.unmerge.Goals as goal
use Rattle.esc_union.proofs.partition.Partition.unmerge.Goals.{After-index-large}

held : (c : After-index-large) → IsHeld (c.pop.new.self.items ++ (c.in-Some.last ∷ []))
    c.self.inside.roots.items
    (map (λ v. v.items) c.self.inside.members.items) (c.pop-2.new.self.items
    ++ (c.in-Some-pop.small ∷ []))
held c = rw (c.in-Some.ensures.items, c.in-Some-pop.ensures.items) at c.self.invariant

large_is : (c : After-index-large) → c.index-large.result.now
    ≡ get_or c.self.inside.roots.items c.in-Some.last.1 0
large_is c = read_root c.self.inside.roots.items _ c.in-Some.last.1 _ c.index.ensures
    (was_merge _ _ _ _ _ _ (held c)).1 c.index-large.ensures

pub index-requires-2 : goal.index-requires-2
index-requires-2 c =
    let d = (goal.at.index-requires-2 c).After-index-large in
    omega (
      arith,
      small_in (λ v. v.items) _ _ _ _ _ _ _ (held d) (large_is d),
      c.self.inside.members.ok.0,
    )

pub set_roots-requires : goal.set_roots-requires
set_roots-requires c =
    let d = (goal.at.set_roots-requires c).After-index-large in
    rw c.as_slice-moving.ensures
    (parting_alone (λ v. v.items) _ _ _ _ c.self.inside.members.items _ _ (held d) (large_is d)
    c.index-2.result.now _ refl c.index-2.ensures)

pub index-requires-3 : goal.index-requires-3
index-requires-3 c =
    let d = (goal.at.index-requires-3 c).After-index-large in
    omega (
      arith,
      large_in (λ v. v.items) _ _ _ _ _ _ _ (held d) (large_is d),
      c.self.inside.members.ok.0,
    )

pub overflow_sub-kept : goal.overflow_sub-kept
overflow_sub-kept c =
    let d = (goal.at.overflow_sub-kept c).After-index-large in
    omega (
      arith,
      c.len.ensures.value,
      ap length c.as_slice-moving.ensures,
      parting_fits (λ v. v.items) _ _ _ _ c.self.inside.members.items _ _ (held d) (large_is d)
          c.index-2.result.now c.index-3.result.now _ _
          refl refl c.index-2.ensures c.index-3.ensures,
    )

pub index_mut-requires : goal.index_mut-requires
index_mut-requires c =
    let d = (goal.at.index_mut-requires c).After-index-large in
    omega (
      arith,
      large_in (λ v. v.items) _ _ _ _ _ _ _ (held d) (large_is d),
      c.self.inside.members.ok.0,
    )

pub invariant_of-self : goal.invariant_of-self
invariant_of-self c =
    let d = (goal.at.invariant_of-self c).After-index-large in
    let count : c.len.result - length c.as_slice-moving.result.now
    ≡ length c.index-3.result.now.items - length c.index-2.result.now.items =
    omega (
      arith,
      c.len.ensures.value,
      ap length
          c.as_slice-moving.ensures,
    ) in
    (parted_held (λ v. v.items) _ _ _ _ c.self.inside.members.items _ _ (held d) (large_is d)
    c.index-2.result.now c.index-3.result.now _ _
    refl refl c.index-2.ensures c.index-3.ensures
    c.set_roots.new.roots.items c.set_roots.ensures.count
    (rw c.as_slice-moving.ensures at c.set_roots.ensures.these)
    (rw c.as_slice-moving.ensures at c.set_roots.ensures.others)
    c.truncate.new.self c.index_mut.result.now _ refl c.index_mut.ensures.value
    (c.truncate.ensures.items ∙ ap (λ n. take n c.index_mut.result.now.items) count))
