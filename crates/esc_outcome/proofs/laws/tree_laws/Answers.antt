use Rattle.esc_outcome.proofs.Decided.{decided_stays, refuted_by_more, refuted_stays, root_closes}
use Rattle.esc_outcome.proofs.Decided.{sides_close}
use Rattle.esc_outcome.proofs.Growing.{new_sides_are_free, tree_grows, tree_stays}
use Rattle.esc_outcome.proofs.Paths.{path_below, paths_stay}
use Rattle.esc_outcome.proofs.SmallTrees.{tree_is_small}
use Rattle.esc_outcome.proofs.laws.tree_laws.Goals as goal

pub returns : goal.returns
returns c = record {
  below = path_below;
  paths = paths_stay;
  decided = decided_stays;
  more = refuted_by_more;
  stays = refuted_stays;
  closes = sides_close;
  root = root_closes;
  grows = tree_grows;
  tree_stays = tree_stays;
  free = new_sides_are_free;
  small = tree_is_small;
}
