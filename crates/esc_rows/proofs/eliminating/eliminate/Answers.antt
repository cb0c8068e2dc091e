use Rattle.std.proofs.Common.{◌≢◌, get_or, set, pos, refl, sym, ap, ◌∙◌, subst₂, true≢false}
use Rattle.esc_frac.specs.Rational.{ℚ, zero_ℚ}
use Rattle.esc_rows.specs.Steps.{MultipleFits}
use Rattle.esc_rows.proofs.RowLemmas.{element_is, eliminated-zero}
use Rattle.esc_rows.proofs.eliminating.eliminate.Goals as goal

pub returns-then-is_zero : goal.returns-then-is_zero
returns-then-is_zero c =
    let factor = element_is c.args.row.now _ _ c.requires.inside c.index-row-column.is in
    sym (eliminated-zero c.args.row.now c.args.other.now c.args.column c.requires.lengths
    (ap (λ (x : ℚ). x.num) (sym factor) ∙ c.if-is_zero.ensures.0 refl))

pub unreachable-requires : goal.unreachable-requires
unreachable-requires c =
    let factor = element_is c.args.row.now _ _ c.requires.inside c.index-row-column.is in
    let nonzero : (get_or c.args.row.now c.args.column zero_ℚ).num ≢ pos 0 =
    λ e. true≢false (sym (c.if-is_zero.ensures.1 (ap (λ (x : ℚ). x.num) factor ∙ e))) in
    true≢false (sym (c.in-Err.ensures.fits.1 (subst₂
    (λ (x y : ℚ). MultipleFits x (set c.args.row.now c.args.column y) c.args.other.now)
    (sym factor) (sym c.whole.ensures) (c.requires.fits nonzero))))
