-- What is found of a goal that is not valid.
use Rattle.std.specs.Prelude.{◌≡◌, List}
use Rattle.esc_cover.specs.Counterexample.{Counterexample as IsCounterexample}
use Rattle.esc_fact.specs.Depth.{IsWithinLimits}
use Rattle.esc_fact.specs.Fact.{formulas_of}
use Rattle.esc_fact.specs.declared.base.Base.{Base}
use Rattle.esc_options.specs.declared.options.Limits.{Limits}
use Rattle.esc_outcome.specs.Found.{members_of, values_of}
use Rattle.esc_outcome.specs.Labels.{labels_of}
use Rattle.esc_outcome.specs.declared.counterexample.Counterexample.{Counterexample}
use Rattle.esc_verdict.specs.Rounds.{AreRounds, IsSaturated}
use Rattle.esc_verdict.specs.declared.cause.Start.{Start}

-- facts within limits that rounds gave, and to which no round adds any, with a counterexample to
-- their formulas and its labels
pub record IsInvalid (base : Base) (limits : Limits) (found : Counterexample) : Type 0 where
  pub within : IsWithinLimits base limits.depth limits.facts found.facts
  pub counterexample : IsCounterexample found.literals (members_of found.classes)
      (values_of found.classes) (formulas_of base found.facts)
  -- where each round began
  pub starts : List Start
  pub rounds : AreRounds base limits.depth found.facts found.literals starts
  pub saturated : IsSaturated base limits.depth found.facts found.literals
  pub labels : found.labels
      ≡ labels_of found.literals (members_of found.classes) (formulas_of base found.facts)
