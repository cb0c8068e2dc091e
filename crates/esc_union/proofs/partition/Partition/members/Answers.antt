use Rattle.std.proofs.Common.{◌≡◌, ◌<◌, length, get_or, arith, ap, refl, ◌∙◌}
use Rattle.std.proofs.lemmas.List.{length-map}
use Rattle.esc_union.specs.Merges.{Merged}
use Rattle.esc_union.specs.Members.{members_of}
use Rattle.esc_union.proofs.Holding.{read_root, read_list, root_low, class_listed}
use Rattle.esc_union.proofs.partition.Partition.members.Goals as goal
use Rattle.esc_union.proofs.partition.Partition.members.Goals.{After-index-root}

there : (c : After-index-root) → c.args.node < length c.self.inside.roots.items
there c = omega (arith, c.requires, ap (λ (h : Merged). h.count) c.self.view_is)

root_is : (c : After-index-root) → c.index-root.result.now
    ≡ get_or c.self.inside.roots.items c.args.node 0
root_is c = read_root c.self.inside.roots.items _ c.args.node _ c.index.ensures (there c)
    c.index-root.ensures

root_in : (c : After-index-root) → c.index-root.result.now < length c.self.inside.members.items
root_in c =
    omega (
      arith,
      root_is c,
      root_low _ _ _ _ c.self.invariant c.args.node (there c),
      c.self.invariant.as_long,
      length-map c.self.inside.members.items (λ v. v.items),
    )

pub index-requires-2 : goal.index-requires-2
index-requires-2 c =
    let d = (goal.at.index-requires-2 c).After-index-root in
    omega (arith, root_in d, c.self.inside.members.ok.0)

pub returns-clause-class : goal.returns-clause-class
returns-clause-class c =
    let d = (goal.at.returns-clause-class c).After-index-root in
    rw (
      c.as_slice.ensures,
      ← c.self.view_is,
      read_list (λ v. v.items) c.self.inside.members.items _ c.index-root.result.now
          c.index-2.result.now refl (root_in d) c.index-2.ensures,
    )
    (class_listed _ _ _ _ c.self.invariant c.args.node c.index-root.result.now (there d)
    (root_is d))

pub returns-clause-list : goal.returns-clause-list
returns-clause-list c =
    let d = (goal.at.returns-clause-list c).After-index-root in
    let in_roots : c.index-root.result.now < length c.self.inside.roots.items =
    omega (arith, root_is d, root_low _ _ _ _ c.self.invariant c.args.node (there d)) in
    rw (c.as_slice.ensures, ← c.self.view_is)
    (read_list (λ v. v.items) c.self.inside.members.items _ c.index-root.result.now
    c.index-2.result.now refl (root_in d) c.index-2.ensures
    ∙ (c.self.invariant.listed c.index-root.result.now in_roots
    ∙ ap (members_of c.self.inside.merges.items) (root_is d
    ∙ c.self.invariant.numbered c.args.node (there d))))
