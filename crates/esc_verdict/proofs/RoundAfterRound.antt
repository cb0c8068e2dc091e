-- One round after another, and a log that grows by their facts.
use Rattle.std.proofs.Common.{List, [], ◌∷◌, ◌++◌, length, sym, ap, subst, subst₂}
use Rattle.std.proofs.Common.{arith, length-append}
use Rattle.std.proofs.lemmas.List.{take-append-le}
use Rattle.std.proofs.Math.Seq.{take-append_seam}
use Rattle.esc_fact.specs.Legal.{first_facts}
use Rattle.esc_fact.specs.declared.fact.Fact.{Fact}
use Rattle.esc_verdict.specs.RoundLaws.{RoundsGrow, RoundsStay}
use Rattle.esc_verdict.specs.Rounds.{AreRoundsBehind, IsRoundOf}
use Rattle.esc_verdict.specs.declared.cause.Start.{Start}

pub rounds_stay : RoundsStay
rounds_stay base depth facts items more starts = go starts (first_facts base)
  where
    go : (starts : List Start) (before : List Fact)
        → AreRoundsBehind base depth facts items before starts
        → AreRoundsBehind base depth facts (items ++ more) before starts
    go [] before h = h
    go (start ∷ starts) before h = (
      h.0,
      omega (arith, h.1, length-append items more),
      h.2,
      h.3,
      subst (λ first. IsRoundOf base depth before first h.2)
          (sym (take-append-le start.literals items more h.1)) h.4,
      go starts (before ++ h.2) h.5,
    )

pub rounds_grow : RoundsGrow
rounds_grow base depth facts list items more starts rounds some r = go starts (first_facts base)
    rounds
  where
    last : Start
    last = record { facts = length facts; literals = length items }

    go : (starts : List Start) (before : List Fact)
        → AreRoundsBehind base depth facts items before starts
        → AreRoundsBehind base depth (facts ++ list) (items ++ more) before (starts ++ last ∷ [])
    go [] before h = (
      ap length h,
      omega (arith, length-append items more),
      list,
      some,
      subst₂ (λ front first. IsRoundOf base depth front first list) h
          (sym (take-append_seam items more)) r,
      ap (λ front. front ++ list) h,
    )
    go (start ∷ starts) before h = (
      h.0,
      omega (arith, h.1, length-append items more),
      h.2,
      h.3,
      subst (λ first. IsRoundOf base depth before first h.2)
          (sym (take-append-le start.literals items more h.1)) h.4,
      go starts (before ++ h.2) h.5,
    )
