use Rattle.esc_form.proofs.Closed.{commands_are_closed}
use Rattle.esc_form.proofs.Numberings.{readings_stay, tables_are_numbered}
use Rattle.esc_form.proofs.laws.reading_laws.Goals as goal

pub returns : goal.returns
returns c = record {
  closed = commands_are_closed;
  numbered = tables_are_numbered;
  stay = readings_stay;
}
