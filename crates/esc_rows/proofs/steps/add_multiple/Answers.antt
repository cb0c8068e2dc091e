use Rattle.std.proofs.Common.{◌≡◌, ◌<◌, length, get_or, refl, ap₂, ◌∙◌, arith, le_refl, below_more, get_or-set_other, get_or-set_same, sym}
use Rattle.esc_frac.specs.Rational.{ℚ, zero_ℚ, ◌+ℚ◌, ◌*ℚ◌}
use Rattle.esc_rows.proofs.RowLemmas.{same_from_sums, same_step, element_is, not_both}
use Rattle.esc_rows.proofs.steps.add_multiple.Goals as goal

pub returns-clause-value : goal.returns-clause-value
returns-clause-value c =
    same_from_sums c.args.factor c.args.row.now c.args.other.now c.loop-place.row c.requires
    c.loop-place.auto.row
    (λ j inside. c.loop-place.invariant.done j (omega arith))

pub returns-in_err-entry-clause-fits : goal.returns-in_err-entry-clause-fits
returns-in_err-entry-clause-fits c =
    let inside : c.loop-place.place < length c.loop-place.row = omega arith in
    let also : c.loop-place.place < length c.args.other.now = omega arith in
    let entry : get_or c.loop-place.row c.loop-place.place c.index-row-place.result
    ≡ get_or c.args.row.now c.loop-place.place zero_ℚ =
    sym c.index-row-place.is ∙ element_is c.loop-place.row _ _ inside c.index-row-place.is
    ∙ c.loop-place.invariant.left c.loop-place.place (le_refl c.loop-place.place) in
    let added = element_is c.args.other.now _ _ also c.index-other-place.is in (
      λ ok. absurd (not_both _ ok c.from_residual.ensures.0),
      λ fits. absurd (c.in_err-entry.ensures (same_step refl (sym entry) (sym added)
          (fits c.loop-place.place (omega arith)))),
    )

pub loop-place-preserved : goal.loop-place-preserved
loop-place-preserved c =
    let inside : c.loop-place.place < length c.loop-place.row = omega arith in
    let also : c.loop-place.place < length c.args.other.now = omega arith in
    let entry : get_or c.loop-place.row c.loop-place.place c.index-row-place.result
    ≡ get_or c.args.row.now c.loop-place.place zero_ℚ =
    sym c.index-row-place.is ∙ element_is c.loop-place.row _ _ inside c.index-row-place.is
    ∙ c.loop-place.invariant.left c.loop-place.place (le_refl c.loop-place.place) in
    let added = element_is c.args.other.now _ _ also c.index-other-place.is in record {
      done = below_more _ _
          (λ j below. get_or-set_other c.loop-place.row c.loop-place.place j c.in_ok-entry.field-0
          zero_ℚ (omega arith) ∙ c.loop-place.invariant.done j below)
          (get_or-set_same c.loop-place.row c.loop-place.place c.in_ok-entry.field-0 zero_ℚ inside
          ∙ c.in_ok-entry.ensures.1 ∙ ap₂ (λ (x y : ℚ). x +ℚ c.args.factor *ℚ y) entry added);
      fits = below_more _ _ c.loop-place.invariant.fits
          (same_step refl entry added c.in_ok-entry.ensures.0);
      left = λ j above. get_or-set_other c.loop-place.row c.loop-place.place j c.in_ok-entry.field-0
          zero_ℚ (omega arith) ∙ c.loop-place.invariant.left j (omega arith);
    }
