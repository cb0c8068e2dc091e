use Rattle.std.proofs.Common.{◌≡◌, ◌<◌, length, get_or, arith, ap, refl, ◌∙◌}
use Rattle.std.proofs.lemmas.List.{length-map, get_or_default}
use Rattle.esc_union.specs.Merges.{Merged}
use Rattle.esc_union.proofs.Moved.{moved_low, moved_read}
use Rattle.esc_union.proofs.partition.Partition.moved.Goals as goal
use Rattle.esc_union.proofs.partition.Partition.moved.Goals.{After-index-root}

there : (c : After-index-root) → c.args.merge < length c.self.inside.merges.items
there c = omega (arith, c.requires, ap (λ (h : Merged). length h.merges) c.self.view_is)

root_is : (c : After-index-root) → c.index-root.result.now
    ≡ get_or c.self.inside.absorbed.items c.args.merge 0
root_is c = c.index-root.ensures ∙ get_or_default c.self.inside.absorbed.items c.args.merge
    c.index-root.result.now 0
    (omega (arith, there c, c.self.invariant.as_many))

pub index-requires : goal.index-requires
index-requires c =
    let d = (goal.at.index-requires c).After-index-root in
    omega (
      arith,
      c.self.inside.members.ok.0,
      length-map c.self.inside.members.items (λ v. v.items),
      moved_low (λ v. v.items) _ _ _ c.self.inside.members.items c.self.invariant c.args.merge
          (there d) c.index-root.result.now (root_is d),
    )

pub returns : goal.returns
returns c =
    let d = (goal.at.returns c).After-index-root in
    rw (c.as_slice.ensures, ← c.self.view_is)
    (moved_read (λ v. v.items) _ _ _ c.self.inside.members.items c.self.invariant c.args.merge
    (there d) c.index-root.result.now (root_is d)
    _ c.index.result.now refl c.index.ensures)
