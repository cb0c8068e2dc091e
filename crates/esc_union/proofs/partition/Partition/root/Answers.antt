use Rattle.std.proofs.Common.{◌≡◌, ◌<◌, length, get_or, arith, ap}
use Rattle.esc_union.specs.Merges.{Merged}
use Rattle.esc_union.proofs.Holding.{read_root, root_low, root_own}
use Rattle.esc_union.proofs.partition.Partition.root.Goals as goal
use Rattle.esc_union.proofs.partition.Partition.root.Goals.{After-index-2}

there : (c : After-index-2) → c.args.node < length c.self.inside.roots.items
there c = omega (arith, c.requires, ap (λ (h : Merged). h.count) c.self.view_is)

root_is : (c : After-index-2) → c.index-2.result.now
    ≡ get_or c.self.inside.roots.items c.args.node 0
root_is c = read_root c.self.inside.roots.items _ c.args.node _ c.index.ensures (there c)
    c.index-2.ensures

pub returns-clause-there : goal.returns-clause-there
returns-clause-there c =
    let d = (goal.at.returns-clause-there c).After-index-2 in
    omega (
      arith,
      c.new.ensures,
      root_is d,
      root_low _ _ _ _ c.self.invariant c.args.node (there d),
      ap
          (λ (h : Merged). h.count) c.self.view_is,
    )

pub returns-clause-own : goal.returns-clause-own
returns-clause-own c =
    let d = (goal.at.returns-clause-own c).After-index-2 in
    rw (← c.self.view_is, c.new.ensures, root_is d)
    (root_own _ _ _ _ c.self.invariant c.args.node (there d))
