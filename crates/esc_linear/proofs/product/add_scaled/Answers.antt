use Rattle.std.proofs.Common.{[], ◌++◌, ◌∷◌, ap, sym, ◌∙◌}
use Rattle.std.proofs.lemmas.List.Elements.{All-head}
use Rattle.esc_frac.specs.Rational.{is_zero}
use Rattle.esc_linear.specs.Forms.{part}
use Rattle.esc_linear.specs.Steps.{multiplies, StepFits, Yields}
use Rattle.esc_linear.proofs.ProductLemmas.{none_scaled, one_scaled}
use Rattle.esc_linear.proofs.StepLemmas.{AllFit-one, no_memory, spilled}
use Rattle.esc_linear.proofs.product.add_scaled.Goals as goal

pub returns-in_err-product : goal.returns-in_err-product
unfolding StepFits
returns-in_err-product c =
    spilled _ _ _ c.from_residual.ensures.1 (λ all. c.in_err-product.ensures
    (All-head StepFits (multiplies c.args.part.now.factor c.args.factor) [] all))

pub returns-then-is_zero : goal.returns-then-is_zero
unfolding Yields StepFits
returns-then-is_zero c =
    let none = ap is_zero (sym c.in_ok-product.ensures.1) ∙ sym c.is_zero.ensures
    ∙ c.if-is_zero.true in (
      AllFit-one (multiplies c.args.part.now.factor c.args.factor) c.in_ok-product.ensures.0,
      none_scaled c.args.products c.args.part.now c.args.factor none,
    )

pub returns-in_err-term : goal.returns-in_err-term
returns-in_err-term c = no_memory _ _ _ c.from_residual-in_err-term.ensures.1

pub returns-in_err-push : goal.returns-in_err-push
returns-in_err-push c = no_memory _ _ _ c.from_residual-in_err-push.ensures.1

pub returns : goal.returns
unfolding Yields StepFits
returns c =
    let some = ap is_zero (sym c.in_ok-product.ensures.1) ∙ sym c.is_zero.ensures
    ∙ c.if-is_zero.false in (
      AllFit-one (multiplies c.args.part.now.factor c.args.factor) c.in_ok-product.ensures.0,
      c.in_ok-push.ensures.ok
          ∙ ap (λ q. c.args.products ++ part c.in_ok-term.term q ∷ []) c.in_ok-product.ensures.1
          ∙ one_scaled c.args.products c.args.part.now c.args.factor c.in_ok-term.term some
          c.in_ok-term.ensures,
    )
