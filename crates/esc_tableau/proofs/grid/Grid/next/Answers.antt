use Rattle.std.proofs.Common.{◌≡◌, false, refl, sym, ap, ◌∙◌, arith, Some}
use Rattle.std.proofs.lemmas.List.{get_or_read}
use Rattle.esc_tableau.specs.Grid.{table_of}
use Rattle.esc_tableau.specs.Rule.{is_positive}
use Rattle.esc_tableau.specs.Table.{nobody, sample}
use Rattle.esc_tableau.specs.declared.answers.Peak.TheVariants.{Positive}
use Rattle.esc_tableau.specs.declared.owner.Owner.{Owner}
use Rattle.esc_tableau.specs.declared.rule.Next.TheVariants.{Stops}
use Rattle.esc_tableau.proofs.PeakLaws.{entering_some}
use Rattle.esc_tableau.proofs.RunLaws.{rule_fits, next_after_move}
use Rattle.esc_tableau.proofs.grid.Grid.next.Goals as goal

pub index-requires : goal.index-requires
index-requires c =
    let enters = entering_some (table_of c.args.self.now) c.args.unknown c.in-Some.entrant
    (sym c.in-Some.ensures) in
    omega (arith, enters.inside, c.args.self.now.columns.ok.0)

pub leaving-requires-clause-column : goal.leaving-requires-clause-column
leaving-requires-clause-column c = (entering_some (table_of c.args.self.now) c.args.unknown
    c.in-Some.entrant (sym c.in-Some.ensures)).inside

pub returns-in-Ok-Some-clause-fits : goal.returns-in-Ok-Some-clause-fits
returns-in-Ok-Some-clause-fits c = λ _. rule_fits (table_of c.args.self.now) c.args.unknown
    c.in-Some.entrant c.in-Some.ensures (c.in-Ok-Some.ensures.fits refl)

pub returns-in-Ok-None-clause-fits : goal.returns-in-Ok-None-clause-fits
returns-in-Ok-None-clause-fits c = λ _. rule_fits (table_of c.args.self.now) c.args.unknown
    c.in-Some.entrant c.in-Some.ensures (c.in-Ok-None.ensures.fits refl)

pub returns-in-Ok-None-clause-next : goal.returns-in-Ok-None-clause-next
returns-in-Ok-None-clause-next c =
    let t = table_of c.args.self.now in
    let enters = entering_some t c.args.unknown c.in-Some.entrant (sym c.in-Some.ensures) in
    let low : is_positive (sample t c.args.unknown) ≡ false = ap is_positive (sym c.value.ensures)
    ∙ sym c.is_above.ensures ∙ c.if-is_above.false in
    ap (λ (o : Owner). Stops (Positive (Some o.unknown)))
    (get_or_read c.args.self.now.columns.items c.in-Some.entrant.column _ enters.inside
    c.index.ensures nobody)
    ∙ next_after_move t c.args.unknown c.in-Some.entrant _ low c.in-Some.ensures
    (sym c.in-Ok-None.field-0-is ∙ c.in-Ok-None.ensures.leaving)
