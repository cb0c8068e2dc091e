-- What holds of a branch that stopped.
use Rattle.std.specs.Prelude.{◌≡◌, Bool, true, false, if◌then◌else◌, List, length}
use Rattle.std.specs.List.{All}
use Rattle.esc_term.specs.declared.formula.Formula.{Formula}
use Rattle.esc_term.specs.declared.formula.Formula.TheVariants.{Eq, Not}
use Rattle.esc_term.specs.declared.formula.Item.{Item}
use Rattle.esc_term.specs.Refuted.{Follows}
use Rattle.esc_clause.specs.declared.occurrence.Occurrence.{Occurrence}
use Rattle.esc_fact.specs.Fact.{formulas_of}
use Rattle.esc_fact.specs.Legal.{IsLegal}
use Rattle.esc_fact.specs.declared.base.Base.{Base}
use Rattle.esc_simplex.specs.declared.stop.Stop.{Stop}
use Rattle.esc_simplex.specs.declared.stop.Stop.TheVariants as stop
use Rattle.esc_outcome.specs.Grown.{Grown}
use Rattle.esc_outcome.specs.Jam.{IsJam}
use Rattle.esc_outcome.specs.Tree.{IsFree, IsOccurrence, IsUndecidedAt, formulas_at}
use Rattle.esc_outcome.specs.declared.branch.Branch.{Branch}
use Rattle.esc_options.specs.declared.options.Limits.{Limits}
use Rattle.esc_outcome.specs.declared.stuck.Stuck.{Stuck}

-- the item as a formula
abbrev pub stated : Item → Formula
stated item = if item.positive then item.formula else Not item.formula

-- each literal follows from the formulas
abbrev pub AllFollow : List Formula → List Item → Type 0
AllFollow fs = All (λ item. Follows fs (stated item))

-- what the log says with what is decided on the branch
abbrev pub formulas_on : Base → Branch → List Formula
formulas_on base branch = formulas_at (formulas_of base branch.log) branch.splits branch.under

-- ---- arithmetic

-- a step does not fit
abbrev pub is_overflow : Stop → Bool
is_overflow (stop.Spill jammed) = true
is_overflow (stop.Form t) = true
is_overflow (stop.Pivots jammed) = false
is_overflow stop.Memory = false

-- a maximising goes on after its limit
abbrev pub is_endless : Stop → Bool
is_endless (stop.Spill jammed) = false
is_endless (stop.Form t) = false
is_endless (stop.Pivots jammed) = true
is_endless stop.Memory = false

-- the arithmetic stopped on what follows from the log and the branch
pub record IsStuck (base : Base) (limits : Limits) (branch : Branch) (stuck : Stuck) : Type 0 where
  pub grown : Grown base limits.depth branch
  pub jam : IsJam (formulas_of base branch.log) limits.pivots stuck
  pub literals : AllFollow (formulas_on base branch) stuck.literals
  pub told : All (λ pair. Follows (formulas_on base branch) (Eq pair.0 pair.1)) stuck.told

-- ---- splits

-- there are as many splits as may be, and this one could come where the branch is
pub record IsOutOfSplits (base : Base) (limits : Limits) (branch : Branch) (next : Occurrence) :
    Type 0 where
  pub grown : Grown base limits.depth branch
  pub legal : IsLegal base branch.log
  pub spent : length branch.splits ≡ limits.splits
  pub free : IsFree branch.splits branch.under
  pub next_there : IsOccurrence (formulas_of base branch.log) next
  pub next_new : IsUndecidedAt branch.splits branch.under next
