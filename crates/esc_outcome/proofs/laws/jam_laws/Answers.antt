use Rattle.esc_outcome.proofs.Following.{told_follows}
use Rattle.esc_outcome.proofs.Giving.{given_after_call, given_by_more}
use Rattle.esc_outcome.proofs.Jamming.{stop_is_jam, stops_is_stopped}
use Rattle.esc_outcome.proofs.NoJam.{free_has_no_jam}
use Rattle.esc_outcome.proofs.laws.jam_laws.Goals as goal

pub returns : goal.returns
returns c = record {
  jam = stop_is_jam;
  stopped = stops_is_stopped;
  told = told_follows;
  more = given_by_more;
  after_call = given_after_call;
  free = free_has_no_jam;
}
