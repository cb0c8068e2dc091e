use Rattle.std.proofs.Common.{List, [], subst, ap₂}
use Rattle.std.proofs.lemmas.List.Elements.{All-head, All-append}
use Rattle.esc_frac.specs.Rational.{ℚ}
use Rattle.esc_linear.specs.declared.form.Part.{Part}
use Rattle.esc_linear.specs.Forms.{with_parts}
use Rattle.esc_linear.specs.Steps.{adds, StepFits, Yields, parts_steps}
use Rattle.esc_linear.proofs.StepLemmas.{handed_on, spilled, AllFit-one, AllFit-back}
use Rattle.esc_linear.proofs.sum.plus.Goals as goal

pub returns-in_err-parts : goal.returns-in_err-parts
returns-in_err-parts c =
    let answered = subst (λ (qs : List Part). Yields c.add_parts.result
    (parts_steps c.args.a.parts qs) (with_parts c.args.a.parts qs)) c.as_slice.ensures
    c.add_parts.ensures in
    handed_on _ c.add_parts.result _ (parts_steps c.args.a.parts c.args.b.now.parts) _ _ _
    c.from_residual.ensures.1 c.in_err-parts.was answered

pub returns-in_err-constant : goal.returns-in_err-constant
unfolding StepFits
returns-in_err-constant c =
    spilled _ _ _ c.from_residual-in_err-constant.ensures.1
    (λ all. c.in_err-constant.ensures (All-head StepFits
    (adds c.args.a.constant c.args.b.now.constant) []
    (AllFit-back (parts_steps c.args.a.parts c.args.b.now.parts) _ all)))

pub returns : goal.returns
unfolding Yields StepFits
returns c =
    let answered = subst (λ (qs : List Part). Yields c.add_parts.result
    (parts_steps c.args.a.parts qs) (with_parts c.args.a.parts qs)) c.as_slice.ensures
    c.add_parts.ensures in
    let both = subst (λ r. Yields r (parts_steps c.args.a.parts c.args.b.now.parts)
    (with_parts c.args.a.parts c.args.b.now.parts)) c.in_ok-parts.was answered in (
      All-append StepFits (parts_steps c.args.a.parts c.args.b.now.parts) _ both.0
          (AllFit-one (adds c.args.a.constant c.args.b.now.constant) c.in_ok-constant.ensures.0),
      ap₂ (λ (ps : List Part) (q : ℚ). record { parts = ps; constant = q }) both.1
          c.in_ok-constant.ensures.1,
    )
