use Rattle.std.proofs.Common.{◌≡◌, ◌≤◌, ◌-◌, length, map}
use Rattle.std.specs.List.{range_with_len}
use Rattle.esc_fact.specs.declared.fact.Fact.TheVariants.{Given}
use Rattle.esc_session.proofs.reporting.named_facts.Given as goal

-- so many formulas of the background are named
abbrev pub invariant-background : goal.invariant-background
invariant-background l = record {
  named : l.facts ≡ map Given (range_with_len 0 (length l.facts));
  few : length l.facts ≤ length l.base.background;
}

abbrev pub decreases-background : goal.decreases-background
decreases-background l = length l.base.background - length l.facts
