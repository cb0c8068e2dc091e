use Rattle.std.proofs.Common.{Ok, refl, sym, subst}
use Rattle.std.specs.List.{Contains}
use Rattle.esc_trail.proofs.Noting.{notes_nothing}
use Rattle.esc_cover.specs.Assignment.{asked}
use Rattle.esc_egraph.specs.declared.state.State.TheVariants.{Open}
use Rattle.esc_simplex.specs.SimplexUndo.{simplex_undo}
use Rattle.esc_simplex.specs.SimplexLaws.{simplex_lawful}
use Rattle.esc_simplex.specs.View.{Allows, numbers_in}
use Rattle.esc_sharing.specs.Admitted.{RestrictEnds}
use Rattle.esc_sharing.specs.Literals.{AreOrderSides, item_of, sides}
use Rattle.esc_sharing.specs.Numbers.{IsGapOf, arithmetic_among, number_terms, pair_terms}
use Rattle.esc_sharing.proofs.AskedOrders.{asked_apart, asked_at_most, asked_below, asked_equal}
use Rattle.esc_sharing.proofs.AskedOrders.{nothing_restricted}
use Rattle.esc_sharing.proofs.Restricting.{adds_nothing, unless_memory}
use Rattle.esc_sharing.proofs.arithmetic.SimplexTheory.assert.Goals as goal

pub returns-in-Equal-clause-ends : goal.returns-in-Equal-clause-ends
returns-in-Equal-clause-ends g c =
    let v = c.args.self.now in
    subst (λ l. RestrictEnds (Allows v) (Allows v) (asked (item_of c.args.graph.now l)) (Ok Open))
    (sym c.in-Equal.is)
    (subst (λ gaps. RestrictEnds (Allows v) (Allows v) gaps (Ok Open))
    (sym (asked_equal c.args.graph.now _ _)) (nothing_restricted v c.requires.sound))

pub returns-in-Equal-clause-made : goal.returns-in-Equal-clause-made
returns-in-Equal-clause-made g c = adds_nothing _ _ _ refl

pub returns-in-Equal-clause-undo : goal.returns-in-Equal-clause-undo
returns-in-Equal-clause-undo g c = notes_nothing simplex_undo g.R.Carries.carried
    c.args.trail.now.records c.args.trail.now.records c.args.self.now c.args.self.now refl
    (simplex_lawful.reflexive c.args.self.now)

pub returns-in-Apart-clause-ends : goal.returns-in-Apart-clause-ends
returns-in-Apart-clause-ends g c =
    let v = c.args.self.now in
    subst (λ l. RestrictEnds (Allows v) (Allows v) (asked (item_of c.args.graph.now l)) (Ok Open))
    (sym c.in-Apart.is)
    (subst (λ gaps. RestrictEnds (Allows v) (Allows v) gaps (Ok Open))
    (sym (asked_apart c.args.graph.now _ _)) (nothing_restricted v c.requires.sound))

pub returns-in-Apart-clause-made : goal.returns-in-Apart-clause-made
returns-in-Apart-clause-made g c = adds_nothing _ _ _ refl

pub returns-in-Apart-clause-undo : goal.returns-in-Apart-clause-undo
returns-in-Apart-clause-undo g c = notes_nothing simplex_undo g.R.Carries.carried
    c.args.trail.now.records c.args.trail.now.records c.args.self.now c.args.self.now refl
    (simplex_lawful.reflexive c.args.self.now)

pub restrict_gap-requires-clause-upper : goal.restrict_gap-requires-clause-upper
restrict_gap-requires-clause-upper g c = (subst (AreOrderSides (numbers_in c.args.self.now))
    c.in-Below.is c.requires.sides.order).1

pub restrict_gap-requires-clause-lower : goal.restrict_gap-requires-clause-lower
restrict_gap-requires-clause-lower g c = (subst (AreOrderSides (numbers_in c.args.self.now))
    c.in-Below.is c.requires.sides.order).0

pub returns-in-Below-clause-ends : goal.returns-in-Below-clause-ends
returns-in-Below-clause-ends g c =
    let v = c.args.self.now in
    let w = c.restrict_gap.new.simplex in
    let r = c.restrict_gap.result in
    subst (λ l. RestrictEnds (Allows v) (Allows w) (asked (item_of c.args.graph.now l)) r)
    (sym c.in-Below.is)
    (subst (λ gaps. RestrictEnds (Allows v) (Allows w) gaps r)
    (sym (asked_below c.args.graph.now c.in-Below.a c.in-Below.b)) c.restrict_gap.ensures.ends)

pub returns-in-Below-clause-stop : goal.returns-in-Below-clause-stop
returns-in-Below-clause-stop g c =
    let v = c.args.self.now in
    let terms = number_terms (numbers_in v) in
    unless_memory c.restrict_gap.new.simplex (λ t. ⊥)
    (Contains (arithmetic_among (numbers_in v)
    (pair_terms c.args.graph.now (sides c.args.lit))))
    (IsGapOf terms) (IsGapOf terms) (λ t k. absurd k) (λ f k. k) c.restrict_gap.result
    c.restrict_gap.ensures.stop

pub restrict_gap-requires-in-AtMost-clause-upper : goal.restrict_gap-requires-in-AtMost-clause-upper
restrict_gap-requires-in-AtMost-clause-upper g c =
    (subst (AreOrderSides (numbers_in c.args.self.now))
    c.in-AtMost.is c.requires.sides.order).1

pub restrict_gap-requires-in-AtMost-clause-lower : goal.restrict_gap-requires-in-AtMost-clause-lower
restrict_gap-requires-in-AtMost-clause-lower g c =
    (subst (AreOrderSides (numbers_in c.args.self.now))
    c.in-AtMost.is c.requires.sides.order).0

pub returns-in-AtMost-clause-ends : goal.returns-in-AtMost-clause-ends
returns-in-AtMost-clause-ends g c =
    let v = c.args.self.now in
    let w = c.restrict_gap-in-AtMost.new.simplex in
    let r = c.restrict_gap-in-AtMost.result in
    subst (λ l. RestrictEnds (Allows v) (Allows w) (asked (item_of c.args.graph.now l)) r)
    (sym c.in-AtMost.is)
    (subst (λ gaps. RestrictEnds (Allows v) (Allows w) gaps r)
    (sym (asked_at_most c.args.graph.now c.in-AtMost.a c.in-AtMost.b))
    c.restrict_gap-in-AtMost.ensures.ends)

pub returns-in-AtMost-clause-stop : goal.returns-in-AtMost-clause-stop
returns-in-AtMost-clause-stop g c =
    let v = c.args.self.now in
    let terms = number_terms (numbers_in v) in
    unless_memory c.restrict_gap-in-AtMost.new.simplex (λ t. ⊥)
    (Contains (arithmetic_among (numbers_in v)
    (pair_terms c.args.graph.now (sides c.args.lit))))
    (IsGapOf terms) (IsGapOf terms) (λ t k. absurd k) (λ f k. k) c.restrict_gap-in-AtMost.result
    c.restrict_gap-in-AtMost.ensures.stop
