use Rattle.std.proofs.Common.{◌≡◌, ℕ, ◌<◌, [], ◌∷◌, ◌++◌, take, get_or, ap, sym, subst, ◌∙◌, arith}
use Rattle.std.proofs.lemmas.List.{get_or_default, take_all, take_more}
use Rattle.std.proofs.lemmas.List.Elements.{All-get_or}
use Rattle.esc_egraph.specs.SidesInside.{AreByClass, sides_of}
use Rattle.esc_egraph.proofs.ByClass.{AreByClass-none}
use Rattle.esc_egraph.proofs.PairSteps.{held_paired}
use Rattle.esc_egraph.proofs.Sides.{sides_of-none}
use Rattle.esc_egraph.proofs.pairs.enter_sides.Goals as goal

pub pairs-init : goal.pairs-init
pairs-init c = rw (c.truncate.ensures, sides_of-none) (AreByClass-none c.args.classes.now.merges)

pub pairs-preserved : goal.pairs-preserved
pairs-preserved c =
    let ms = c.args.classes.now.merges in
    let i = c.pairs.pair-index in
    let item : get_or c.args.pairs.now c.pairs.pair-index (0, 0) ≡ c.pair-item.result =
    get_or_default c.args.pairs.now c.pairs.pair-index (0, 0) c.pair-item.result
    c.pairs-test.true ∙ sym c.pair-item.is in
    let low = subst (λ (p : ℕ × ℕ). (p.0 < c.args.classes.now.count)
    × (p.1 < c.args.classes.now.count)) item
    (All-get_or (λ (p : ℕ × ℕ). (p.0 < c.args.classes.now.count)
    × (p.1 < c.args.classes.now.count)) c.args.pairs.now c.pairs.pair-index (0, 0)
    c.pairs-test.true c.requires.low) in
    subst (λ ps. AreByClass ms (sides_of ps) c.push_sides.new.entries)
    (sym (take_more c.args.pairs.now i (0, 0) c.pairs-test.true
    ∙ ap (λ p. take i c.args.pairs.now ++ (p ∷ [])) item))
    (rw c.in_ok-push_sides.ensures.ok
    (held_paired c.args.classes.now.count ms (take i c.args.pairs.now) c.pairs.entries
    c.pair-item.result.0 c.pair-item.result.1 c.requires.merged low.0 low.1 c.pairs.invariant))

pub returns : goal.returns
returns c =
    subst (λ ps. AreByClass c.args.classes.now.merges (sides_of ps) c.pairs.entries)
    (take_all c.pairs.pair-index c.args.pairs.now
    (omega (arith, c.pairs-test.false, c.pairs.auto.pair-index-end))) c.pairs.invariant
