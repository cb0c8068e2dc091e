use Rattle.std.proofs.Common.{◌≡◌, ◌<◌, [], ◌∷◌, ◌++◌, length, arith, ap, refl, sym, subst, ◌∙◌}
use Rattle.std.proofs.lemmas.Grind.{common_steps}
use Rattle.std.proofs.lemmas.List.{length-map}
use Rattle.esc_union.specs.Merges.{Merged, SameClass, class_number}
use Rattle.esc_union.proofs.Holding.{read_root, root_low, as_long_still, moving_low, merged_held}
use Rattle.esc_union.proofs.partition.Partition.merge.Goals as goal
use Rattle.esc_union.proofs.partition.Partition.merge.Goals.{In_ok-add_members}

from_there : (c : In_ok-add_members) → c.args.from < length c.self.inside.roots.items
from_there c = omega (arith, c.requires.from_is_there, ap (λ (h : Merged). h.count) c.self.view_is)

into_there : (c : In_ok-add_members) → c.args.into < length c.self.inside.roots.items
into_there c = omega (arith, c.requires.into_is_there, ap (λ (h : Merged). h.count) c.self.view_is)

apart : (c : In_ok-add_members) → SameClass (class_number c.self.inside.merges.items) c.args.from
    c.args.into → ⊥
apart c = subst (λ (h : Merged). SameClass (class_number h.merges) c.args.from c.args.into
    → ⊥) (sym c.self.view_is) c.requires.apart

small_is : (c : In_ok-add_members) → c.index-small.result.now
    ≡ class_number c.self.inside.merges.items c.args.from
small_is c =
    read_root c.self.inside.roots.items _ c.args.from _ c.index.ensures (from_there c)
    c.index-small.ensures
    ∙ c.self.invariant.numbered c.args.from (from_there c)

large_is : (c : In_ok-add_members) → c.index-large.result.now
    ≡ class_number c.self.inside.merges.items c.args.into
large_is c =
    read_root c.self.inside.roots.items _ c.args.into _ c.index-2.ensures (into_there c)
    c.index-large.ensures
    ∙ c.self.invariant.numbered c.args.into (into_there c)

long : (c : In_ok-add_members) → length c.add_members.new.members.items
    ≡ length c.self.inside.roots.items
long c =
    as_long_still (λ v. v.items) c.self.inside.merges.items c.self.inside.roots.items
    c.self.inside.absorbed.items
    c.self.inside.members.items c.add_members.new.members.items c.self.invariant
    (c.args.from, c.args.into) (from_there c) (into_there c) (apart c)
    _ _ (small_is c) (large_is c) c.in_ok-add_members.ensures.ok

pub add_members-requires-clause-from_is_there : goal.add_members-requires-clause-from_is_there
add_members-requires-clause-from_is_there c =
    let there : c.args.from < length c.self.inside.roots.items = omega
    (arith, c.requires.from_is_there, ap (λ (h : Merged). h.count) c.self.view_is) in
    omega (
      arith,
      read_root c.self.inside.roots.items _ c.args.from _ c.index.ensures there
          c.index-small.ensures,
      root_low _ _ _ _ c.self.invariant c.args.from there,
      c.self.invariant.as_long,
      length-map c.self.inside.members.items (λ v. v.items),
    )

pub add_members-requires-clause-into_is_there : goal.add_members-requires-clause-into_is_there
add_members-requires-clause-into_is_there c =
    let there : c.args.into < length c.self.inside.roots.items = omega
    (arith, c.requires.into_is_there, ap (λ (h : Merged). h.count) c.self.view_is) in
    omega (
      arith,
      read_root c.self.inside.roots.items _ c.args.into _ c.index-2.ensures there
          c.index-large.ensures,
      root_low _ _ _ _ c.self.invariant c.args.into there,
      c.self.invariant.as_long,
      length-map c.self.inside.members.items (λ v. v.items),
    )

pub index-requires-3 : goal.index-requires-3
index-requires-3 c =
    let d = (goal.at.index-requires-3 c).In_ok-add_members in
    let there : c.args.from < length c.self.inside.roots.items = from_there d in
    omega (
      arith,
      read_root c.self.inside.roots.items _ c.args.from _ c.index.ensures there
          c.index-small.ensures,
      root_low _ _ _ _ c.self.invariant c.args.from there,
      long d,
      c.add_members.new.members.ok.0,
    )

pub set_roots-requires : goal.set_roots-requires
set_roots-requires c =
    let d = (goal.at.set_roots-requires c).In_ok-add_members in
    rw c.as_slice-moving.ensures
    (moving_low (λ v. v.items) c.self.inside.merges.items c.self.inside.roots.items
    c.self.inside.absorbed.items
    c.self.inside.members.items c.add_members.new.members.items c.self.invariant
    (c.args.from, c.args.into) (from_there d) (into_there d) (apart d)
    _ _ (small_is d) (large_is d) d.in_ok-add_members.ensures.ok c.index-3.result.now _
    refl c.index-3.ensures)

pub invariant_of-self-2 : goal.invariant_of-self-2
invariant_of-self-2 c =
    let d = (goal.at.invariant_of-self-2 c).In_ok-add_members in
    let merges : c.push-2.new.self.items ≡ c.self.inside.merges.items
    ++ ((c.args.from, c.args.into) ∷ []) = grind (arith, common_steps) in
    let absorbed : c.push.new.self.items ≡ c.self.inside.absorbed.items
    ++ (c.index-small.result.now ∷ []) = grind (arith, common_steps) in
    rw (merges, absorbed)
    (merged_held (λ v. v.items) c.self.inside.merges.items c.self.inside.roots.items
    c.self.inside.absorbed.items
    c.self.inside.members.items c.add_members.new.members.items c.self.invariant
    (c.args.from, c.args.into) (from_there d) (into_there d) (apart d)
    _ _ (small_is d) (large_is d) d.in_ok-add_members.ensures.ok c.index-3.result.now _
    refl c.index-3.ensures
    c.set_roots.new.roots.items c.set_roots.ensures.count
    (rw c.as_slice-moving.ensures at c.set_roots.ensures.these)
    (rw c.as_slice-moving.ensures at c.set_roots.ensures.others))
