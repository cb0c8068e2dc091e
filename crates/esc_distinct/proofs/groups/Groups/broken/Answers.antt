use Rattle.std.proofs.Common.{◌≡◌, [], get_or, IsTrue, false, below_more, sym, subst, ◌∙◌, arith}
use Rattle.std.proofs.lemmas.List.{get_or_default}
use Rattle.esc_egraph.specs.Graph.{number_of}
use Rattle.esc_distinct.specs.Groups.{HoldsTwice}
use Rattle.esc_distinct.proofs.groups.Groups.broken.Goals as goal

pub groups-preserved : goal.groups-preserved
groups-preserved c =
    below_more (λ k. HoldsTwice (number_of c.args.graph.now) (get_or c.args.self.now k []) →
    ⊥) c.groups.place c.groups.invariant
    (λ h. let found : IsTrue c.holds_twice.result =
    c.holds_twice.ensures.1
    (subst (HoldsTwice (number_of c.args.graph.now)) (sym c.group.ensures) h) in
    let not_found : c.holds_twice.result ≡ false = c.if-holds_twice.false in
    cc)

pub returns : goal.returns
returns c = (
  λ e. cc,
  λ any.
      absurd (c.groups.invariant any.0
      (omega (arith, any.2, c.groups-test.false, c.count-place-end.ensures))
      (subst (HoldsTwice (number_of c.args.graph.now)) (sym any.3
      ∙ get_or_default c.args.self.now any.0 any.1 [] any.2) any.4)),
)
