use Rattle.std.proofs.Common.{List, [], subst, ap₂}
use Rattle.std.proofs.lemmas.List.Elements.{All-head, All-append}
use Rattle.esc_frac.specs.Rational.{ℚ}
use Rattle.esc_linear.specs.declared.form.Part.{Part}
use Rattle.esc_linear.specs.Forms.{scaled_parts}
use Rattle.esc_linear.specs.Steps.{multiplies, StepFits, Yields, scaled_part_steps}
use Rattle.esc_linear.proofs.StepLemmas.{handed_on, spilled, AllFit-one, AllFit-back}
use Rattle.esc_linear.proofs.product.scaled.Goals as goal

pub returns-in_err-parts : goal.returns-in_err-parts
returns-in_err-parts c =
    let answered = subst (λ (qs : List Part). Yields c.scaled_parts.result
    (scaled_part_steps qs c.args.factor) (scaled_parts qs c.args.factor)) c.as_slice.ensures
    c.scaled_parts.ensures in
    handed_on _ c.scaled_parts.result _ (scaled_part_steps c.args.form.now.parts c.args.factor) _ _
    _ c.from_residual.ensures.1 c.in_err-parts.was answered

pub returns-in_err-constant : goal.returns-in_err-constant
unfolding StepFits
returns-in_err-constant c =
    spilled _ _ _ c.from_residual-in_err-constant.ensures.1
    (λ all. c.in_err-constant.ensures (All-head StepFits
    (multiplies c.args.form.now.constant c.args.factor) []
    (AllFit-back (scaled_part_steps c.args.form.now.parts c.args.factor) _ all)))

pub returns : goal.returns
unfolding Yields StepFits
returns c =
    let answered = subst (λ (qs : List Part). Yields c.scaled_parts.result
    (scaled_part_steps qs c.args.factor) (scaled_parts qs c.args.factor)) c.as_slice.ensures
    c.scaled_parts.ensures in
    let both = subst (λ r. Yields r (scaled_part_steps c.args.form.now.parts c.args.factor)
    (scaled_parts c.args.form.now.parts c.args.factor)) c.in_ok-parts.was answered in (
      All-append StepFits (scaled_part_steps c.args.form.now.parts c.args.factor) _ both.0
          (AllFit-one (multiplies c.args.form.now.constant c.args.factor)
          c.in_ok-constant.ensures.0),
      ap₂ (λ (ps : List Part) (q : ℚ). record { parts = ps; constant = q }) both.1
          c.in_ok-constant.ensures.1,
    )
