use Rattle.std.proofs.Common.{◌≡◌, ◌<◌, List, [], map, length, set, get_or, sym, ap, ap₂, ◌∙◌, arith}
use Rattle.std.proofs.lemmas.List.{length-map, get_or-map}
use Rattle.esc_frac.specs.Rational.{ℚ, zero_ℚ}
use Rattle.esc_rows.specs.Rows.{solved_constant, eliminated_constants}
use Rattle.esc_rows.proofs.PivotedLemmas.{constants_pivoted}
use Rattle.esc_rows.proofs.RowLemmas.{element_is}
use Rattle.esc_rows.proofs.pivoting.write_constants.Goals as goal

pub returns : goal.returns
returns c =
    let rows : List (List ℚ) = map (λ es. es.items) c.args.rows.now in
    let ks : List ℚ = c.args.constants.now in
    let within : c.args.row < length ks = omega (arith, c.requires.constants, c.requires.row) in
    let was : c.deref.result.now ≡ get_or rows c.args.row [] =
    c.deref.ensures.value ∙ ap (λ es. es.items) c.index-rows-row.is
    ∙ sym (get_or-map (λ es. es.items) c.args.rows.now c.args.row _ [] c.requires.row) in
    let constant : c.solved_constant-constant.result
    ≡ solved_constant (get_or rows c.args.row []) c.args.column (get_or ks c.args.row zero_ℚ) =
    c.solved_constant-constant.ensures ∙ ap₂ (λ (k : ℚ) (es : List ℚ). solved_constant es
    c.args.column k) (element_is ks _ _ within c.index-constants-row.is) was in
    constants_pivoted rows ks c.eliminate_constants.new.constants c.args.column c.args.row
    c.solved_constant-constant.result
    (length-map c.args.rows.now (λ es. es.items) ∙ sym c.requires.constants)
    c.eliminate_constants.auto.constants within
    (λ i h other. c.eliminate_constants.ensures.others i
    (omega (arith, length-map c.args.rows.now (λ es. es.items))) other)
    ∙ ap (λ (n : ℚ). set (eliminated_constants rows ks c.args.column n) c.args.row n) constant
