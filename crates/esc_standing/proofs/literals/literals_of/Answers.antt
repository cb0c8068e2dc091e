use Rattle.std.proofs.Common.{◌≡◌, ◌+◌, ◌∙◌, sym, subst, refl, true, take, Some}
use Rattle.std.specs.List.{AllZip, Any, filter}
use Rattle.esc_rounds.specs.Branch.{formula_kept, is_quantified}
use Rattle.esc_standing.specs.Literals.{IsKeptLiteral}
use Rattle.esc_standing.proofs.KeptPlaces.{kept_at, kept_within, place_there, zip_passed}
use Rattle.esc_standing.proofs.KeptPlaces.{zip_skipped}
use Rattle.esc_standing.proofs.literals.literals_of.Goals.{then-is_quantified+in-Some+in_ok-push}
use Rattle.esc_standing.proofs.literals.literals_of.Goals.{else-is_quantified}
use Rattle.esc_standing.proofs.literals.literals_of.Goals as goal

pub unreachable-requires : goal.unreachable-requires
unreachable-requires c =
    let item = c.item-item.result in
    let k = subst (λ i. is_quantified i ≡ true
    → Any (λ k. formula_kept c.args.base.now k ≡ Some i.formula) c.args.formulas.now.kept)
    (sym c.item-item.is)
    (c.requires.kept c.items.item-index item c.items-test.true)
    (sym c.is_quantified.ensures ∙ c.if-is_quantified.true) in
    c.in_default.ensures.none k.0
    (place_there c.args.base.now c.args.formulas.now.kept c.args.formulas.now.closed
    item.formula k.0 k.1 c.requires.beside k.2 k.3 k.4)

pub items-preserved : goal.items-preserved
items-preserved c =
    let item = c.item-item.result in
    let kept = c.args.formulas.now.kept in
    let closed = c.args.formulas.now.closed in
    let R = IsKeptLiteral c.args.base.now kept in
    let front = filter is_quantified (take (c.items.item-index + 1) c.args.items.now) in
    elim c.if-is_quantified.branch [
      | then-is_quantified+in-Some+in_ok-push w ↦
          subst (AllZip R front) (sym (w.literals-is ∙ w.in_ok-push.ensures.ok))
          (zip_passed R is_quantified c.args.items.now c.items.literals c.items.item-index item
          (record { formula = w.in-Some.place; holds = item.positive }) c.items-test.true
          c.item-item.is (sym c.is_quantified.ensures ∙ w.if-is_quantified.true) (
            kept_at c.args.base.now kept closed w.in-Some.place item.formula c.requires.beside
                w.in-Some.ensures.some,
            refl,
            kept_within c.args.base.now kept closed w.in-Some.place item.formula c.requires.beside
                w.in-Some.ensures.some,
          )
          c.items.invariant)
      | else-is_quantified w ↦
          subst (AllZip R front) (sym w.literals-is)
          (zip_skipped R is_quantified c.args.items.now c.items.literals c.items.item-index item
          c.items-test.true c.item-item.is
          (sym c.is_quantified.ensures ∙ w.if-is_quantified.false) c.items.invariant)
    ]
