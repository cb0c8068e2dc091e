use Rattle.std.proofs.Common.{◌≡◌, ◌<◌, [], length, refl, sym, ap, ap₂, ◌∙◌, subst, arith, true≢false}
use Rattle.std.proofs.lemmas.List.{get_or-map, get_or_read, length-map}
use Rattle.esc_frac.specs.Rational.{ℚ, zero_ℚ, ◌+ℚ◌, ◌*ℚ◌}
use Rattle.esc_rows.specs.Rows.{plus_multiple}
use Rattle.esc_rows.specs.Steps.{MultipleFits, StepFits}
use Rattle.esc_rows.proofs.RowLemmas.{not_both}
use Rattle.esc_tableau.specs.Changes.{sum, plus_owner}
use Rattle.esc_tableau.specs.Grid.{table_of}
use Rattle.esc_tableau.specs.Table.{row_entries, row_constant}
use Rattle.esc_tableau.proofs.ChangeLaws.{OkIff-ok, OkIff-fits, OkIff-value, IfOk-weaker}
use Rattle.esc_tableau.proofs.grid.Grid.add_owner.Goals as goal

pub index-requires : goal.index-requires
index-requires c = omega (
  arith,
  c.requires.table.rows,
  length-map c.args.self.now.entries.items
      (λ es. es.items),
  c.args.self.now.entries.ok.0,
)

pub add_multiple-requires : goal.add_multiple-requires
add_multiple-requires c =
    let rows = c.args.self.now.entries.items in
    let inside : c.args.row < length rows = omega (
      arith,
      c.requires.table.rows,
      length-map rows
          (λ es. es.items),
    ) in
    let was : c.deref.result.now ≡ row_entries (table_of c.args.self.now) c.args.row
    = c.deref.ensures.value ∙ ap (λ es. es.items) c.index.ensures
    ∙ sym (get_or-map (λ es. es.items) rows c.args.row _ [] inside) in
    c.requires.lengths ∙ sym (ap length was ∙ c.requires.table.width c.args.row c.requires.row)

pub returns-in_err-add_multiple-clause-fits : goal.returns-in_err-add_multiple-clause-fits
returns-in_err-add_multiple-clause-fits c =
    let rows = c.args.self.now.entries.items in
    let inside : c.args.row < length rows = omega (
      arith,
      c.requires.table.rows,
      length-map rows
          (λ es. es.items),
    ) in
    let was : c.deref.result.now ≡ row_entries (table_of c.args.self.now) c.args.row
    = c.deref.ensures.value ∙ ap (λ es. es.items) c.index.ensures
    ∙ sym (get_or-map (λ es. es.items) rows c.args.row _ [] inside) in (
      λ ok. absurd (not_both _ ok c.from_residual.ensures.0),
      λ fits. absurd (true≢false (sym (c.in_err-add_multiple.ensures.fits.1
          (subst (MultipleFits c.args.factor c.args.entries.now) (sym was) fits.entries)))),
    )

pub index-requires-2 : goal.index-requires-2
index-requires-2 c = omega (arith, c.requires.table.constants, c.args.self.now.constants.ok.0)

pub returns-clause-fits : goal.returns-clause-fits
returns-clause-fits c =
    let rows = c.args.self.now.entries.items in
    let inside : c.args.row < length rows = omega (
      arith,
      c.requires.table.rows,
      length-map rows
          (λ es. es.items),
    ) in
    let was : c.deref.result.now ≡ row_entries (table_of c.args.self.now) c.args.row
    = c.deref.ensures.value ∙ ap (λ es. es.items) c.index.ensures
    ∙ sym (get_or-map (λ es. es.items) rows c.args.row _ [] inside) in
    let also : c.args.row < length c.args.self.now.constants.items = omega
    (arith, c.requires.table.constants) in
    let own : c.index-2.result.now ≡ row_constant (table_of c.args.self.now) c.args.row
    = get_or_read c.args.self.now.constants.items c.args.row _ also c.index-2.ensures zero_ℚ
    in (
      λ ok. record {
        entries = subst (MultipleFits c.args.factor c.args.entries.now) was
            (c.in_ok-add_multiple.ensures.fits.0 refl);
        constant = subst (StepFits c.args.factor c.args.held) own
            (OkIff-ok c.step.result _ _ c.step.ensures ok);
      },
      λ fits. OkIff-fits c.step.result _ _ c.step.ensures
          (subst (StepFits c.args.factor c.args.held) (sym own) fits.constant),
    )

pub returns-clause-ok : goal.returns-clause-ok
returns-clause-ok c =
    let rows = c.args.self.now.entries.items in
    let inside : c.args.row < length rows = omega (
      arith,
      c.requires.table.rows,
      length-map rows
          (λ es. es.items),
    ) in
    let was : c.deref.result.now ≡ row_entries (table_of c.args.self.now) c.args.row
    = c.deref.ensures.value ∙ ap (λ es. es.items) c.index.ensures
    ∙ sym (get_or-map (λ es. es.items) rows c.args.row _ [] inside) in
    let also : c.args.row < length c.args.self.now.constants.items = omega
    (arith, c.requires.table.constants) in
    let own : c.index-2.result.now ≡ row_constant (table_of c.args.self.now) c.args.row
    = get_or_read c.args.self.now.constants.items c.args.row _ also c.index-2.ensures zero_ℚ in
    let entries = c.in_ok-add_multiple.ensures.value
    ∙ ap (plus_multiple c.args.factor c.args.entries.now) was in
    IfOk-weaker (λ x. x ≡ c.args.held +ℚ c.args.factor *ℚ c.index-2.result.now)
    (λ k. sum c.add_multiple.new.row k ≡ plus_owner (table_of c.args.self.now)
    (sum c.args.entries.now c.args.held) c.args.factor c.args.row)
    (λ x e. ap₂ sum entries (e ∙ ap (λ (q : ℚ). c.args.held +ℚ c.args.factor *ℚ q) own))
    c.step.result (OkIff-value c.step.result _ _ c.step.ensures)
