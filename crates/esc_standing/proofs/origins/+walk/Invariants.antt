use Rattle.std.proofs.Common.{◌≡◌, ◌+◌, length, take}
use Rattle.std.specs.List.{flat_map}
use Rattle.esc_rounds.specs.Origins.{outermost}
use Rattle.esc_standing.specs.Keeping.{Keeps, marked, outer_atoms}
use Rattle.esc_standing.proofs.origins.+walk.Given as goal

abbrev pub invariant-walk_all-parts : goal.invariant-walk_all-parts
invariant-walk_all-parts l =
    (l.passed ≡ l.fn.number + length (flat_map outermost (take l.part-index l.parts)))
    × Keeps l.depth (marked l.fn.number l.outer
    (flat_map outermost (take l.part-index l.parts)))
    (flat_map outer_atoms (take l.part-index l.parts)) l.fn.formulas l.formulas
