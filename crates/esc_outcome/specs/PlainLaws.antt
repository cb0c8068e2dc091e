-- Bases from which nothing is drawn: what is told of their goals is sharp.
use Rattle.std.specs.Prelude.{◌≡◌, ◌<◌, ◌^◌, IsTrue, List, []}
use Rattle.std.specs.List.{Contains, flat_map, list_all}
use Rattle.esc_term.specs.declared.term.Term.{Term}
use Rattle.esc_term.specs.declared.formula.Formula.{Formula}
use Rattle.esc_term.specs.Formula.{terms_of}
use Rattle.esc_term.specs.Refuted.{Refuted}
use Rattle.esc_clause.specs.declared.occurrence.Occurrence.{Occurrence}
use Rattle.esc_cover.specs.Laws.{is_free_of_arithmetic}
use Rattle.esc_fact.specs.Base.{formulas_in, quantified_in}
use Rattle.esc_fact.specs.Fact.{store}
use Rattle.esc_fact.specs.Legal.{IsLegal, first_facts}
use Rattle.esc_fact.specs.declared.base.Base.{Base}
use Rattle.esc_fact.specs.declared.fact.Fact.{Fact}
use Rattle.esc_outcome.specs.Causes.{IsOutOfSplits, IsStuck}
use Rattle.esc_outcome.specs.Found.{IsValid}
use Rattle.esc_outcome.specs.FreeLaws.{NumeralsAreSmall}
use Rattle.esc_outcome.specs.TreeLaws.{occurrences_in}
use Rattle.esc_outcome.specs.declared.branch.Branch.{Branch}
use Rattle.esc_outcome.specs.declared.stuck.Stuck.{Stuck}
use Rattle.esc_options.specs.declared.options.Limits.{Limits}

-- no quantified formula, and no map with a new value
pub record IsPlain (base : Base) : Type 0 where
  pub unquantified : quantified_in base ≡ []
  pub no_stores : (m i x : Term)
      → Contains (flat_map terms_of (formulas_in base)) (store m i x) → ⊥

-- nor arithmetic but small numerals
pub record IsPlainAndFree (base : Base) : Type 0 where
  pub plain : IsPlain base
  pub free : IsTrue (list_all is_free_of_arithmetic (formulas_in base))
  pub numerals : NumeralsAreSmall (formulas_in base)

-- its only facts are the formulas of the base
abbrev pub PlainHasFirstFacts : Type 0
PlainHasFirstFacts = (base : Base) (facts : List Fact) → IsPlain base → IsLegal base facts
    → facts ≡ first_facts base

-- a valid log refutes the base
abbrev pub PlainValidIsRefuted : Type 0
PlainValidIsRefuted = (base : Base) (log : List Fact) (formulas : List Formula) → IsPlain base
    → IsValid base log formulas → Refuted (formulas_in base)

-- on a base without arithmetic none of it is stuck
abbrev pub PlainIsNotStuck : Type 0
PlainIsNotStuck = (base : Base) (limits : Limits) (branch : Branch) (stuck : Stuck)
    → IsPlainAndFree base → IsStuck base limits branch stuck → ⊥

-- splits run out only where fewer are allowed than a tree over the base can have
abbrev pub PlainRunsOutOfSplits : Type 0
PlainRunsOutOfSplits = (base : Base) (limits : Limits) (branch : Branch) (next : Occurrence)
    → IsPlain base → IsOutOfSplits base limits branch next
    → limits.splits < 2 ^ occurrences_in (formulas_in base)
