-- What a survey gives a round to begin with.
use Rattle.std.specs.Prelude.{List}
use Rattle.esc_egraph.specs.Graph.{Graph}
use Rattle.esc_rounds.specs.Standing.{Standing}
use Rattle.esc_rounds.specs.declared.draw.Draw.{Draw}
use Rattle.esc_standing.specs.declared.survey.Survey.{Survey}

-- how a branch stands by this graph and what was found in its live facts
abbrev pub standing_in : Graph → Survey → Standing
standing_in g s = record {
  graph = g;
  depths = s.depths;
  formulas = s.formulas.kept;
  literals = s.literals;
}

-- what the live facts besides those of the base are drawn from
abbrev pub live_in : Survey → List Draw
live_in s = s.live
