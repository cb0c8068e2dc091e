use Rattle.std.proofs.Common.{ℕ, ◌<◌, All, sym, subst}
use Rattle.esc_union.specs.Merges.{class_number}
use Rattle.esc_egraph.proofs.Sides.{joins_back}
use Rattle.esc_egraph.proofs.parts.Parts.has_forbidden_between.Goals as goal

pub any_joins-requires-clause-low : goal.any_joins-requires-clause-low
any_joins-requires-clause-low c =
    rw c.as_slice.ensures.value
    (subst (λ n. All (λ (p : ℕ × ℕ). (p.0 < n) × (p.1 < n)) c.args.self.now.forbidden.items)
    (sym c.requires.sound.as_many) c.requires.sound.graph.paired)

pub returns-else-members : goal.returns-else-members
returns-else-members c =
    let number = class_number c.args.self.now.classes.merges in (
      λ yes. joins_back number c.args.b c.args.a c.args.self.now.forbidden.items
          (c.has_side_in-else-members.ensures.0 yes),
      λ joins. c.has_side_in-else-members.ensures.1
          (joins_back number c.args.a c.args.b c.args.self.now.forbidden.items joins),
    )
