use Rattle.std.proofs.Common.{List, get_or, set, sym, ap, ◌∙◌}
use Rattle.esc_frac.specs.Rational.{is_zero}
use Rattle.esc_linear.specs.declared.form.Part.{Part}
use Rattle.esc_linear.specs.Forms.{part}
use Rattle.esc_linear.specs.Steps.{Yields}
use Rattle.esc_linear.proofs.PlaceLemmas.{fits_at, fits_there, emptied, changed}
use Rattle.esc_linear.proofs.StepLemmas.{spilled}
use Rattle.esc_linear.proofs.sum.add_at.Goals as goal

pub returns-in_err-sum : goal.returns-in_err-sum
returns-in_err-sum c =
    let is = ap (λ (ps : List Part). (get_or ps c.args.place c.index-as_slice-place.result).factor)
    c.as_slice.ensures in
    spilled _ _ _ c.from_residual.ensures.1
    (λ all. c.in_err-sum.ensures (fits_there c.args.parts c.args.term.now c.args.factor c.args.place
    c.index-as_slice-place.result _ c.requires is all))

pub returns-then-is_zero : goal.returns-then-is_zero
unfolding Yields
returns-then-is_zero c =
    let is = ap (λ (ps : List Part). (get_or ps c.args.place c.index-as_slice-place.result).factor)
    c.as_slice.ensures in
    let none = ap is_zero (sym c.in_ok-sum.ensures.1) ∙ sym c.is_zero.ensures
    ∙ c.if-is_zero.true in (
      fits_at c.args.parts c.args.term.now c.args.factor c.args.place c.index-as_slice-place.result
          _ c.requires is c.in_ok-sum.ensures.0,
      c.remove.ensures.rest ∙ emptied c.args.parts c.args.term.now c.args.factor c.args.place
          c.index-as_slice-place.result _ c.requires is none,
    )

pub returns : goal.returns
unfolding Yields
returns c =
    let is = ap (λ (ps : List Part). (get_or ps c.args.place c.index-as_slice-place.result).factor)
    c.as_slice.ensures in
    let some = ap is_zero (sym c.in_ok-sum.ensures.1) ∙ sym c.is_zero.ensures
    ∙ c.if-is_zero.false in (
      fits_at c.args.parts c.args.term.now c.args.factor c.args.place c.index-as_slice-place.result
          _ c.requires is c.in_ok-sum.ensures.0,
      c.set.ensures ∙ ap (λ r. set c.args.parts c.args.place (part c.in_ok-term.term r))
          c.in_ok-sum.ensures.1 ∙ changed c.args.parts c.args.term.now c.in_ok-term.term
          c.args.factor c.args.place c.index-as_slice-place.result _ c.requires is some
          c.in_ok-term.ensures,
    )
