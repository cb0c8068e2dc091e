use Rattle.std.proofs.Common.{◌≡◌, [], map, take}
use Rattle.std.specs.List.{fold}
use Rattle.esc_outcome.specs.Labels.{with_name_once}
use Rattle.esc_context.specs.JudgingInside.{told_names}
use Rattle.esc_context.proofs.labelling.told_once.Given as goal

abbrev pub invariant-labels : goal.invariant-labels
invariant-labels l = record {
  keys : l.seen.keys ≡ map (λ name. name.0) l.names;
  names : l.names ≡ fold with_name_once [] (told_names (take l.label-index l.labels));
}
