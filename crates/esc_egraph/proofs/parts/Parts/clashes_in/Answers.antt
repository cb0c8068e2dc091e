use Rattle.std.proofs.Common.{◌<◌, length, refl, arith, sym, subst, ◌∙◌}
use Rattle.std.proofs.lemmas.List.{get_or_default}
use Rattle.esc_nodes.specs.Nodes.{shape_at}
use Rattle.esc_union.specs.Merges.{SameClass, class_number}
use Rattle.esc_egraph.specs.Congruence.{AreUnequalNumerals}
use Rattle.esc_egraph.proofs.parts.Parts.clashes_in.Goals as goal
use Rattle.esc_egraph.proofs.parts.Parts.clashes_in.Goals.{After-member-item}

member : (c : After-member-item) → (c.member-item.result < length c.args.self.now.nodes)
    × SameClass (class_number c.args.self.now.classes.merges) c.member-item.result c.args.b
member c =
    let h = (c.members-members.ensures.class.exact c.member-item.result).0
    (c.each.member-index, c.each-test.true, sym c.member-item.is) in
    (omega (arith, h.0, c.requires.sound.as_many), h.1)

pub top-requires-in-each : goal.top-requires-in-each
top-requires-in-each c = (member (goal.at.top-requires-in-each c).After-member-item).0

pub returns-then-are_unequal_numerals : goal.returns-then-are_unequal_numerals
returns-then-are_unequal_numerals c =
    let m = member (goal.at.returns-then-are_unequal_numerals c).After-member-item in (
      λ yes. (
        c.member-item.result,
        m.0,
        sym m.1,
        subst (λ t. AreUnequalNumerals t (shape_at c.args.self.now.nodes c.member-item.result).top)
            c.top.ensures
            (subst (λ t. AreUnequalNumerals c.top.result t) c.top-in-each.ensures
            (c.if-are_unequal_numerals.ensures.0 refl)),
      ),
      λ clash. refl,
    )

pub returns : goal.returns
returns c = (
  λ never. cc,
  λ clash.
      let there : clash.0 < c.args.self.now.classes.count = omega
      (arith, clash.1, c.requires.sound.as_many) in
      let at = (c.members-members.ensures.class.exact clash.0).1 (there, sym clash.2) in
      absurd (c.each.invariant at.0 (omega (arith, at.1, c.each-test.false))
      (subst (λ y. AreUnequalNumerals (shape_at c.args.self.now.nodes c.args.a).top
      (shape_at c.args.self.now.nodes y).top)
      (sym (get_or_default c.members-members.result.now at.0 0 clash.0 at.1 ∙ at.2)) clash.3)),
)
