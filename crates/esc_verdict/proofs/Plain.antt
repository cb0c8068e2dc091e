-- From a base without quantified formulas and maps with new values nothing is drawn.
use Rattle.std.proofs.Common.{◌≡◌, true, List, [], ◌∷◌, ◌++◌, length, sym, ap, subst}
use Rattle.std.proofs.Common.{◌∙◌, arith, length-append}
use Rattle.std.specs.List.{list_all}
use Rattle.esc_cover.specs.Laws.{is_free_of_arithmetic}
use Rattle.esc_fact.specs.Fact.{formulas_of}
use Rattle.esc_fact.specs.Legal.{IsLegal}
use Rattle.esc_fact.specs.declared.base.Base.{Base}
use Rattle.esc_fact.specs.declared.fact.Fact.{Fact}
use Rattle.esc_options.specs.declared.options.Limits.{Limits}
use Rattle.esc_outcome.specs.FoundLaws.{CounterexampleIsNotRefuted}
use Rattle.esc_outcome.specs.PlainLaws.{IsPlain, PlainHasFirstFacts, PlainIsNotStuck}
use Rattle.esc_outcome.specs.PlainLaws as plain
use Rattle.esc_outcome.proofs.PlainBases.{formulas_first}
use Rattle.esc_rounds.specs.Laws.{RoundsAreLegal}
use Rattle.esc_verdict.specs.Causes.{IsOutOfFacts, IsOutOfRounds}
use Rattle.esc_verdict.specs.Laws.{PlainIsNotRefuted, PlainRunsOutOfSplits}
use Rattle.esc_verdict.specs.declared.cause.Cause.TheVariants as cause

-- ---- nothing is drawn

no_more : (xs ys : List Fact) (y : Fact) → xs ++ (y ∷ ys) ≡ xs → ⊥
no_more xs ys y e =
    let longer = ap length e in
    let long = length-append xs (y ∷ ys) in
    omega (arith, longer, long)

module _ (first : PlainHasFirstFacts) (base : Base) (is : IsPlain base) where
  not_longer : (facts more : List Fact) (next : Fact) → IsLegal base facts
      → IsLegal base (facts ++ (next ∷ more)) → ⊥
  not_longer facts more next legal longer =
      no_more facts more next
      (first base (facts ++ (next ∷ more)) is longer ∙ sym (first base facts is legal))

  pub no_rounds : (rounds : RoundsAreLegal) (limits : Limits) → (branch : _) → (made : _)
      → IsOutOfRounds base limits branch made → ⊥
  no_rounds rounds limits branch made out =
      let r = out.next in
      let legal = out.within.legal in
      not_longer made.live out.rest made.next legal
      (subst (λ list. IsLegal base (made.live ++ list)) (sym r.facts_are)
      (rounds base made.live made.literals r.s r.live limits.depth r.drawn legal
      r.stands.standing r.stands.ready r.round))

  pub no_facts : (limits : Limits) → (branch : _) → (next : Fact)
      → IsOutOfFacts base limits branch next → ⊥
  no_facts limits branch next out = not_longer branch.log [] next out.legal out.next_legal

-- ---- what is told of such a base

pub is_not_refuted : PlainHasFirstFacts → CounterexampleIsNotRefuted → PlainIsNotRefuted
is_not_refuted first not_refuted base limits found is invalid =
    not_refuted base found invalid.within.legal invalid.counterexample
    (subst (λ fs. list_all is_free_of_arithmetic fs ≡ true)
    (sym (ap (formulas_of base) (first base found.facts is.plain invalid.within.legal)
    ∙ formulas_first base)) is.free)

pub runs_out_of_splits : PlainHasFirstFacts → PlainIsNotStuck → plain.PlainRunsOutOfSplits
    → RoundsAreLegal → PlainRunsOutOfSplits
runs_out_of_splits first free splits rounds base limits (cause.Overflow branch stuck) is h =
    absurd (free base limits branch stuck is h.0)
runs_out_of_splits first free splits rounds base limits (cause.Pivots branch stuck) is h =
    absurd (free base limits branch stuck is h.0)
runs_out_of_splits first free splits rounds base limits (cause.Splits branch next) is h =
    splits base limits branch next is.plain h
runs_out_of_splits first free splits rounds base limits (cause.Rounds branch made) is h =
    absurd (no_rounds first base is.plain rounds limits branch made h)
runs_out_of_splits first free splits rounds base limits (cause.Facts branch next) is h =
    absurd (no_facts first base is.plain limits branch next h)
