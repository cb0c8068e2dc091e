use Rattle.std.proofs.Common.{◌≡◌, List, [], map, get_or, refl, sym, ap, ap₂, ◌∙◌, subst₂, true≢false}
use Rattle.esc_frac.specs.Rational.{ℚ, zero_ℚ}
use Rattle.esc_rows.specs.Rows.{solved, solved_constant}
use Rattle.esc_rows.specs.Steps.{SolvingFits, EliminationsFit}
use Rattle.esc_rows.proofs.RowLemmas.{not_both}
use Rattle.esc_rows.proofs.pivoting.try_pivot_with.Goals as goal

pub returns-in_err-try_eliminate_rows : goal.returns-in_err-try_eliminate_rows
returns-in_err-try_eliminate_rows c =
    let rows : List (List ℚ) = map (λ es. es.items) c.args.rows.now in
    let constant : c.solved_constant-constant.result
    ≡ solved_constant (get_or rows c.args.row []) c.args.column
    (get_or c.args.constants.now c.args.row zero_ℚ) =
    c.solved_constant-constant.ensures ∙ ap₂ (λ (k : ℚ) (es : List ℚ). solved_constant es
    c.args.column k) c.requires.held c.requires.own in
    let row = ap (λ (es : List ℚ). solved es c.args.column) c.requires.own in (
      λ ok. absurd (not_both _ ok c.from_residual-in_err-try_eliminate_rows.ensures.0),
      λ fits. absurd (true≢false (sym (c.in_err-try_eliminate_rows.ensures.1
          (subst₂ (EliminationsFit rows c.args.constants.now c.args.row c.args.column) (sym row)
          (sym constant) fits.others)))),
    )

pub returns : goal.returns
returns c =
    let rows : List (List ℚ) = map (λ es. es.items) c.args.rows.now in
    let constant : c.solved_constant-constant.result
    ≡ solved_constant (get_or rows c.args.row []) c.args.column
    (get_or c.args.constants.now c.args.row zero_ℚ) =
    c.solved_constant-constant.ensures ∙ ap₂ (λ (k : ℚ) (es : List ℚ). solved_constant es
    c.args.column k) c.requires.held c.requires.own in
    let row = ap (λ (es : List ℚ). solved es c.args.column) c.requires.own in (
      λ ok. record {
        solving = subst₂ (λ (es : List ℚ) (k : ℚ). SolvingFits es k c.args.column) c.requires.own
            c.requires.held (c.in_ok-try_solve.ensures.0 refl);
        others = subst₂ (EliminationsFit rows c.args.constants.now c.args.row c.args.column) row
            constant (c.in_ok-try_eliminate_rows.ensures.0 refl);
      },
      λ fits. refl,
    )
