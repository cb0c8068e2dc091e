use Rattle.std.proofs.Common.{◌≡◌, ◌≢◌, ℕ, ◌<◌, pos, List, [], map, length, set, get_or, sym, ap, ap₂, ◌∙◌, subst, arith, length-set, get_or-set_other}
use Rattle.std.proofs.lemmas.List.{length-map, get_or-map, map-set}
use Rattle.esc_frac.specs.Rational.{ℚ, zero_ℚ}
use Rattle.esc_rows.specs.Rows.{solved, eliminated}
use Rattle.esc_rows.specs.Steps.{MultipleFits}
use Rattle.esc_rows.proofs.PivotedLemmas.{rows_pivoted}
use Rattle.esc_rows.proofs.RowLemmas.{items-with_items, length-solved}
use Rattle.esc_rows.proofs.pivoting.write_rows.Goals as goal

pub eliminate_rows-requires-clause-widths : goal.eliminate_rows-requires-clause-widths
eliminate_rows-requires-clause-widths c =
    let old : List (List ℚ) = map (λ es. es.items) c.args.rows.now in
    let own : List ℚ = get_or old c.args.row [] in
    let apart = λ (i : ℕ) (other : i ≢ c.args.row). ap (λ (xs : List (List ℚ)). get_or xs i [])
    (map-set (λ es. es.items) c.args.rows.now c.args.row c.swap.new.y)
    ∙ get_or-set_other old c.args.row i c.swap.new.y.items [] other in
    let was : c.deref_mut.result.now ≡ own =
    c.deref_mut.ensures.value ∙ ap (λ es. es.items) c.swap.ensures.x_after
    ∙ sym (get_or-map (λ es. es.items) c.args.rows.now c.args.row _ [] c.requires.row) in
    let row : c.deref.result.now ≡ solved own c.args.column =
    c.deref.ensures.value ∙ items-with_items c.swap.new.x c.solve.new.row (c.solve.auto.row
    ∙ ap length c.deref_mut.ensures.value) ∙ c.solve.ensures
    ∙ ap (λ (es : List ℚ). solved es c.args.column) was in
    λ i inside other. ap length (apart i other) ∙ c.requires.widths i
    (omega (arith, length-set c.args.rows.now c.args.row c.swap.new.y))
    ∙ sym (length-solved own c.args.column) ∙ sym (ap length row)

pub eliminate_rows-requires-clause-fits : goal.eliminate_rows-requires-clause-fits
eliminate_rows-requires-clause-fits c =
    let old : List (List ℚ) = map (λ es. es.items) c.args.rows.now in
    let own : List ℚ = get_or old c.args.row [] in
    let apart = λ (i : ℕ) (other : i ≢ c.args.row). ap (λ (xs : List (List ℚ)). get_or xs i [])
    (map-set (λ es. es.items) c.args.rows.now c.args.row c.swap.new.y)
    ∙ get_or-set_other old c.args.row i c.swap.new.y.items [] other in
    let was : c.deref_mut.result.now ≡ own =
    c.deref_mut.ensures.value ∙ ap (λ es. es.items) c.swap.ensures.x_after
    ∙ sym (get_or-map (λ es. es.items) c.args.rows.now c.args.row _ [] c.requires.row) in
    let row : c.deref.result.now ≡ solved own c.args.column =
    c.deref.ensures.value ∙ items-with_items c.swap.new.x c.solve.new.row (c.solve.auto.row
    ∙ ap length c.deref_mut.ensures.value) ∙ c.solve.ensures
    ∙ ap (λ (es : List ℚ). solved es c.args.column) was in
    λ i inside other.
    subst (λ (es : List ℚ). (get_or es c.args.column zero_ℚ).num ≢ pos 0
    → MultipleFits (get_or es c.args.column zero_ℚ) (set es c.args.column zero_ℚ)
    c.deref.result.now) (sym (apart i other))
    (subst (λ (ns : List ℚ). (get_or (get_or old i []) c.args.column zero_ℚ).num ≢ pos 0
    → MultipleFits (get_or (get_or old i []) c.args.column zero_ℚ)
    (set (get_or old i []) c.args.column zero_ℚ) ns) (sym row)
    (c.requires.fits i (omega (arith, length-set c.args.rows.now c.args.row c.swap.new.y)) other))

pub returns : goal.returns
returns c =
    let old : List (List ℚ) = map (λ es. es.items) c.args.rows.now in
    let own : List ℚ = get_or old c.args.row [] in
    let after : List (List ℚ) = map (λ es. es.items) c.eliminate_rows.new.rows in
    let apart = λ (i : ℕ) (other : i ≢ c.args.row). ap (λ (xs : List (List ℚ)). get_or xs i [])
    (map-set (λ es. es.items) c.args.rows.now c.args.row c.swap.new.y)
    ∙ get_or-set_other old c.args.row i c.swap.new.y.items [] other in
    let was : c.deref_mut.result.now ≡ own =
    c.deref_mut.ensures.value ∙ ap (λ es. es.items) c.swap.ensures.x_after
    ∙ sym (get_or-map (λ es. es.items) c.args.rows.now c.args.row _ [] c.requires.row) in
    let written = items-with_items c.swap.new.x c.solve.new.row (c.solve.auto.row
    ∙ ap length c.deref_mut.ensures.value) ∙ c.solve.ensures
    ∙ ap (λ (es : List ℚ). solved es c.args.column) was in
    let row : c.deref.result.now ≡ solved own c.args.column = c.deref.ensures.value ∙ written in
    let lengths : length after ≡ length old =
    length-map c.eliminate_rows.new.rows (λ es. es.items) ∙ c.eliminate_rows.auto.rows
    ∙ length-set c.args.rows.now c.args.row c.swap.new.y
    ∙ sym (length-map c.args.rows.now (λ es. es.items)) in
    let inside : c.args.row < length old = omega (
      arith,
      length-map c.args.rows.now
          (λ es. es.items),
      c.requires.row,
    ) in
    map-set (λ es. es.items) c.eliminate_rows.new.rows c.args.row c.swap-2.new.y
    ∙ ap (set after c.args.row) (ap (λ es. es.items) c.swap-2.ensures.y_after ∙ written)
    ∙ rows_pivoted old after (λ es. eliminated es c.args.column (solved own c.args.column))
    c.args.row (solved own c.args.column) lengths inside
    (λ i h other. c.eliminate_rows.ensures.others i
    (omega (
      arith,
      length-map c.args.rows.now (λ es. es.items),
      length-set c.args.rows.now
          c.args.row c.swap.new.y,
    )) other
    ∙ ap₂ (λ (es ns : List ℚ). eliminated es c.args.column ns) (apart i other) row)
