use Rattle.std.proofs.Common.{length}
use Rattle.esc_union.specs.Merges.{class_number}
use Rattle.esc_egraph.specs.SidesInside.{sides_of}
use Rattle.esc_egraph.proofs.ByClass.{entries_low, meets_from_sides, sides_from_meets}
use Rattle.esc_egraph.proofs.Sides.{sides_in, joins_from_sides, sides_from_joins}
use Rattle.esc_egraph.proofs.parts.Parts.has_side_in.Goals as goal

pub meets-requires-clause-low : goal.meets-requires-clause-low
meets-requires-clause-low c =
    entries_low c.args.self.now.classes.merges (sides_of c.args.self.now.forbidden.items)
    c.args.self.now.sides.entries c.args.self.now.classes.count
    (c.requires.sound.sided.held c.requires.whole)
    (sides_in c.args.self.now.classes.count (length c.args.self.now.nodes)
    c.args.self.now.forbidden.items c.requires.sound.as_many c.requires.sound.graph.paired)

pub returns : goal.returns
returns c =
    let ms = c.args.self.now.classes.merges in
    let pairs = c.args.self.now.forbidden.items in (
      λ yes. joins_from_sides (class_number ms) c.args.a c.args.b pairs
          (sides_from_meets ms (sides_of pairs) c.args.self.now.sides.entries
          (c.requires.sound.sided.held c.requires.whole) c.args.a c.args.b c.root-root.result
          c.root-root.ensures.root c.root-root.ensures.own (c.meets.ensures.0 yes)),
      λ joins. c.meets.ensures.1
          (meets_from_sides ms (sides_of pairs) c.args.self.now.sides.entries
          (c.requires.sound.sided.held c.requires.whole) c.args.a c.args.b c.root-root.result
          c.root-root.ensures.root c.root-root.ensures.own
          (sides_from_joins (class_number ms) c.args.a c.args.b pairs joins)),
    )
