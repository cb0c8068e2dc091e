-- What holds of a branch that stopped, by the cause that is told.
use Rattle.std.specs.Prelude.{◌≡◌, IsTrue, List, [], ◌∷◌, ◌++◌, length}
use Rattle.std.specs.List.{All, Contains}
use Rattle.esc_term.specs.declared.term.Term.{Term}
use Rattle.esc_cover.specs.Arithmetic.{play_of}
use Rattle.esc_cover.specs.Counterexample.{AreLiteralsOf, IsConsistent}
use Rattle.esc_cover.specs.Least.{IsLeast}
use Rattle.esc_fact.specs.Depth.{IsWithinLimits}
use Rattle.esc_fact.specs.Fact.{formulas_of}
use Rattle.esc_fact.specs.Legal.{IsLegal, made_facts}
use Rattle.esc_fact.specs.declared.base.Base.{Base}
use Rattle.esc_fact.specs.declared.fact.Fact.{Fact}
use Rattle.esc_options.specs.declared.options.Limits.{Limits}
use Rattle.esc_outcome.specs.Causes.{AllFollow, IsOutOfSplits, IsStuck, is_endless, is_overflow}
use Rattle.esc_outcome.specs.Grown.{Grown}
use Rattle.esc_outcome.specs.GrownLaws.{with_fact}
use Rattle.esc_outcome.specs.Tree.{path_formulas}
use Rattle.esc_outcome.specs.declared.branch.Branch.{Branch}
use Rattle.esc_verdict.specs.Rounds.{AreRounds, IsRoundOf}
use Rattle.esc_verdict.specs.declared.cause.Cause.{Cause}
use Rattle.esc_verdict.specs.declared.cause.Cause.TheVariants as cause
use Rattle.esc_verdict.specs.declared.cause.RoundsMade.{RoundsMade}

-- ---- rounds

-- the live facts are those of as many rounds as may be, and another round would begin with this one
pub record IsOutOfRounds (base : Base) (limits : Limits) (branch : Branch) (made : RoundsMade) :
    Type 0 where
  pub grown : Grown base limits.depth branch
  pub within : IsWithinLimits base limits.depth limits.facts made.live
  pub logged : All (Contains branch.log) made.live
  pub spent : length made.starts ≡ limits.rounds
  pub rounds : AreRounds base limits.depth made.live made.literals made.starts
  pub rest : List Fact
  pub next : IsRoundOf base limits.depth made.live made.literals (made.next ∷ rest)
  -- the literals agree with each other and with the finest classes that they ask for
  pub classes : List (List Term)
  pub least : IsLeast made.literals (play_of (formulas_of base made.live)) classes
  pub consistent : IsConsistent made.literals classes
  pub literals_are : AreLiteralsOf (formulas_of base made.live) made.literals
  pub follow : AllFollow (formulas_of base made.live
      ++ path_formulas (formulas_of base branch.log) branch.splits branch.under) made.literals

-- ---- facts

-- the log has as many facts as may be besides those of the base, and this one could come where the
-- branch is
pub record IsOutOfFacts (base : Base) (limits : Limits) (branch : Branch) (next : Fact) : Type 0
  where
    pub legal : IsLegal base branch.log
    pub spent : length (made_facts branch.log) ≡ limits.facts
    pub next_new : Contains branch.log next → ⊥
    pub next_legal : IsLegal base (branch.log ++ next ∷ [])
    pub grown : Grown base limits.depth (with_fact branch next)

-- ---- all causes

abbrev pub IsCause : Base → Limits → Cause → Type 0
IsCause base limits (cause.Overflow branch stuck) =
    IsStuck base limits branch stuck × IsTrue (is_overflow stuck.jam)
IsCause base limits (cause.Pivots branch stuck) =
    IsStuck base limits branch stuck × IsTrue (is_endless stuck.jam)
IsCause base limits (cause.Splits branch next) = IsOutOfSplits base limits branch next
IsCause base limits (cause.Rounds branch made) = IsOutOfRounds base limits branch made
IsCause base limits (cause.Facts branch next) = IsOutOfFacts base limits branch next
