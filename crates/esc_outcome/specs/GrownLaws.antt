-- How a branch of a search grows.
use Rattle.std.specs.Prelude.{◌≡◌, ◌⊎◌, ◌<◌, ℕ, ◌^◌, true, IsTrue, List, [], ◌∷◌, ◌++◌, length}
use Rattle.std.specs.Prelude.{Some, None}
use Rattle.esc_clause.specs.declared.occurrence.Occurrence.{Occurrence}
use Rattle.esc_fact.specs.Fact.{formulas_of}
use Rattle.esc_fact.specs.Legal.{IsLegal, IsLegalFront, first_facts, is_first}
use Rattle.esc_fact.specs.declared.base.Base.{Base}
use Rattle.esc_fact.specs.declared.fact.Fact.{Fact}
use Rattle.esc_outcome.specs.Causes.{IsOutOfSplits}
use Rattle.esc_outcome.specs.Grown.{AreMet, Grown, IsDoneIn, IsPlace, IsShallowAmong, makers_of}
use Rattle.esc_outcome.specs.Tree.{IsFree, IsOccurrence, IsUndecidedAt, Side, path_formulas}
use Rattle.esc_outcome.specs.TreeLaws.{occurrences_in}
use Rattle.esc_outcome.specs.declared.branch.Branch.{Branch}
use Rattle.esc_options.specs.declared.options.Limits.{Limits}

-- ---- the beginning

-- the facts that name a formula of the base are a legal list
abbrev pub FirstIsLegal : Type 0
FirstIsLegal = (base : Base) → IsLegal base (first_facts base)

abbrev pub empty_branch : Branch
empty_branch = record { log = []; sides = []; splits = []; under = None }

abbrev pub EmptyIsGrown : Type 0
EmptyIsGrown = (base : Base) (depth : ℕ) → Grown base depth empty_branch

-- ---- one more fact

-- the fact was added where the branch is
abbrev pub with_fact : Branch → Fact → Branch
with_fact branch fact = record branch {
  log = branch.log ++ fact ∷ [];
  sides = branch.sides ++ branch.under ∷ [];
}

-- what makes the fact is met where the branch is
abbrev pub IsMadeOn : Base → Branch → Fact → Type 0
IsMadeOn base branch fact =
    AreMet (formulas_of base branch.log)
    (path_formulas (formulas_of base branch.log) branch.splits branch.under) (makers_of base fact)

abbrev pub GrownByFact : Type 0
GrownByFact = (base : Base) (depth : ℕ) (branch : Branch) (fact : Fact) → Grown base depth branch
    → IsLegalFront base (branch.log ++ fact ∷ []) → IsMadeOn base branch fact
    → IsTrue (is_first fact) ⊎ IsShallowAmong base depth (branch.log ++ fact ∷ []) fact
    → Grown base depth (with_fact branch fact)

-- a fact that names a formula of the base may come where it stands among those
abbrev pub GrownByFirst : Type 0
GrownByFirst = (base : Base) (depth : ℕ) (branch : Branch) (fact : Fact) (rest : List Fact)
    → Grown base depth branch → first_facts base ≡ branch.log ++ fact ∷ rest
    → Grown base depth (with_fact branch fact)

-- ---- one more split

-- the occurrence is split where the branch is, and the branch goes on to the side on which it has
-- its sign
abbrev pub with_split_of : Branch → Occurrence → Branch
with_split_of branch at = record branch {
  splits = branch.splits ++ record { under = branch.under; at = at } ∷ [];
  under = Some (length branch.splits, true);
}

abbrev pub GrownBySplit : Type 0
GrownBySplit = (base : Base) (depth : ℕ) (branch : Branch) (at : Occurrence)
    → Grown base depth branch → IsFree branch.splits branch.under
    → IsOccurrence (formulas_of base branch.log) at
    → IsUndecidedAt branch.splits branch.under at → Grown base depth (with_split_of branch at)

-- ---- another side

-- the branch may go to any side whose turn has come
abbrev pub GrownElsewhere : Type 0
GrownElsewhere = (base : Base) (depth : ℕ) (branch : Branch) (side : Side)
    → Grown base depth branch → IsPlace (IsDoneIn base branch) branch.splits side
    → Grown base depth (record branch { under = side })

-- ---- limits

-- splits run out only where fewer are allowed than such a tree can have
abbrev pub SplitsRunOutEarly : Type 0
SplitsRunOutEarly = (base : Base) (limits : Limits) (branch : Branch) (next : Occurrence)
    → IsOutOfSplits base limits branch next
    → limits.splits < 2 ^ occurrences_in (formulas_of base branch.log)
