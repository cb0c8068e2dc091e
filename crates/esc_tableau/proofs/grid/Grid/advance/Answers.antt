use Rattle.std.proofs.Common.{◌≡◌, refl, sym, ap, ◌∙◌, subst, true≢false}
use Rattle.esc_tableau.specs.Grid.{table_of}
use Rattle.esc_tableau.specs.Run.{after_next, Advances, StepJams}
use Rattle.esc_tableau.specs.declared.answers.Step.{Step}
use Rattle.esc_tableau.proofs.PeakLaws.{good_pivot}
use Rattle.esc_tableau.proofs.RunLaws.{err_is, next_fits}
use Rattle.esc_tableau.proofs.grid.Grid.advance.Goals as goal

pub named_pivot-requires-clause-row : goal.named_pivot-requires-clause-row
named_pivot-requires-clause-row c = (good_pivot (table_of c.args.self.now) c.requires c.args.unknown
    c.in-Pivots.row c.in-Pivots.column (sym c.in_ok-peak.ensures.next ∙ c.in-Pivots.is)).row

pub named_pivot-requires-clause-column : goal.named_pivot-requires-clause-column
named_pivot-requires-clause-column c = (good_pivot (table_of c.args.self.now) c.requires
    c.args.unknown c.in-Pivots.row c.in-Pivots.column (sym c.in_ok-peak.ensures.next
    ∙ c.in-Pivots.is)).column

pub named_pivot-requires-clause-nonzero : goal.named_pivot-requires-clause-nonzero
named_pivot-requires-clause-nonzero c = (good_pivot (table_of c.args.self.now) c.requires
    c.args.unknown c.in-Pivots.row c.in-Pivots.column (sym c.in_ok-peak.ensures.next
    ∙ c.in-Pivots.is)).some

pub returns-in_err-named_pivot-in-Pivots-clause-advances :
    goal.returns-in_err-named_pivot-in-Pivots-clause-advances
returns-in_err-named_pivot-in-Pivots-clause-advances c =
    let old = table_of c.args.self.now in
    let new = table_of c.named_pivot.new.self in
    let failed = c.in_err-named_pivot-in-Pivots.ensures in
    subst (Advances old new c.args.unknown) (sym (err_is _ c.in_err-named_pivot-in-Pivots.field-0.0
    c.from_residual-in_err-named_pivot-in-Pivots.ensures))
    (subst (λ (s : Step). (new ≡ old) × StepJams old c.args.unknown s) (sym failed.step) (
      failed.err,
      record {
        ratios = c.in_ok-peak.ensures.fits refl;
        row = c.in-Pivots.row;
        column = c.in-Pivots.column;
        chosen = sym c.in_ok-peak.ensures.next ∙ c.in-Pivots.is;
        leaver = refl;
        entrant = refl;
        jams = λ fits. true≢false (sym (failed.fits.1 fits));
      },
    ))

pub returns-in-Stops-clause-advances : goal.returns-in-Stops-clause-advances
returns-in-Stops-clause-advances c = (
  refl,
  c.in_ok-peak.ensures.fits refl,
  sym
      c.in_ok-peak.ensures.next ∙ c.in-Stops.is,
)

pub returns-in_ok-named_pivot-in-Pivots-clause-advances :
    goal.returns-in_ok-named_pivot-in-Pivots-clause-advances
returns-in_ok-named_pivot-in-Pivots-clause-advances c =
    let old = table_of c.args.self.now in
    let chosen = sym c.in_ok-peak.ensures.next ∙ c.in-Pivots.is in record {
      is = c.in_ok-named_pivot-in-Pivots.ensures.ok ∙ ap (after_next old) (sym chosen);
      goes_on = (c.in-Pivots.row, c.in-Pivots.column, chosen);
      ratios = c.in_ok-peak.ensures.fits refl;
      pivots = next_fits old c.args.unknown c.in-Pivots.row c.in-Pivots.column chosen
          (c.in_ok-named_pivot-in-Pivots.ensures.fits.0 refl);
    }
