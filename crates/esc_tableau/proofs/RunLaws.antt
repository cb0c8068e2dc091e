-- A run pivot by pivot, and what it keeps.
use Rattle.std.proofs.Common.{◌≡◌, ℕ, zero, suc, ◌+◌, ◌<◌, ◌≤◌, Result, Ok, Err, refl, sym, ap, ◌∙◌, subst, arith, below_more, add-one}
use Rattle.esc_tableau.specs.Table.{Table, IsTable, IsWithin, OwnsRow, SameSystem, sample, pivoted}
use Rattle.esc_tableau.specs.Rule.{next}
use Rattle.esc_tableau.specs.Run.{after_next, pivot_run, GoesOn, RatiosFit, RuleFits, NextFits, RuleJams, StepJams, HasPivoted, Advanced, EndsIn, EndsNow, Ends, PeakHolds}
use Rattle.esc_rows.specs.Steps.{PivotFits}
use Rattle.std.specs.Result.{IsErr, IsErrAnd, IfOk}
use Rattle.esc_tableau.specs.Rule.{is_positive, entering, leaving, next_by_move, next_by_row}
use Rattle.esc_tableau.specs.Table.{size}
use Rattle.esc_tableau.specs.declared.answers.Peak.TheVariants.{Positive}
use Rattle.esc_tableau.specs.declared.rule.Move.{Move}
use Rattle.esc_tableau.specs.declared.rule.Next.{Next}
use Rattle.esc_tableau.specs.declared.rule.Next.TheVariants.{Stops, Pivots}
use Rattle.std.proofs.Common.{false, Option, Some, None}
use Rattle.std.proofs.lemmas.Bool.{cond-false}
use Rattle.esc_tableau.specs.declared.answers.Peak.{Peak}
use Rattle.esc_tableau.specs.declared.answers.Jam.{Jam}
use Rattle.esc_tableau.specs.declared.answers.Jam.TheVariants.{Spill, Pivots as Spent}
use Rattle.esc_tableau.specs.declared.answers.Step.{Step}
use Rattle.esc_tableau.specs.declared.answers.Step.TheVariants.{Row, Ratio, Pivot}
use Rattle.esc_tableau.proofs.OwnerLaws.{stays_after}
use Rattle.esc_tableau.proofs.Pivoted.{IsTable-pivoted}
use Rattle.esc_tableau.proofs.PivotLaws.{SameSystem-pivoted, SameSystem_refl, SameSystem_trans}
use Rattle.esc_tableau.proofs.PeakLaws.{GoodPivot, good_pivot, peak_holds}

pub reached_none : (t : Table) (u : ℕ) → HasPivoted t t u 0
reached_none t u = record {
  is = refl;
  goes_on = λ k below. absurd (omega arith);
  ratios
      = λ k below. absurd (omega arith);
  pivots = λ k below. absurd (omega arith);
}

pub reached_more : (old mid new : Table) (u n : ℕ) → HasPivoted old mid u n → Advanced mid new u
    → HasPivoted old new u (n + 1)
reached_more old mid new u n h step = record {
  is = step.is ∙ ap (λ (t : Table). after_next t (next t u)) h.is
      ∙ ap (pivot_run old u) (sym (add-one n));
  goes_on = below_more (λ k. GoesOn (pivot_run old u k) u) n h.goes_on
      (subst (λ (t : Table). GoesOn t u) h.is step.goes_on);
  ratios = below_more (λ k. RuleFits (pivot_run old u k) u) n h.ratios
      (subst (λ (t : Table). RuleFits t u) h.is step.ratios);
  pivots = below_more (λ k. NextFits (pivot_run old u k) u) n h.pivots
      (subst (λ (t : Table). NextFits t u) h.is step.pivots);
}

-- what each pivot of a run keeps
pub record Keeps (old new : Table) (u : ℕ) : Type 0 where
  pub table : IsTable new
  pub same : SameSystem old new
  pub within : IsWithin old (sample old) → IsWithin new (sample new)
  pub row : OwnsRow old u → OwnsRow new u

keeps_more : (old t : Table) (u : ℕ) → Keeps old t u → GoesOn t u
    → Keeps old (after_next t (next t u)) u
keeps_more old t u h on = subst (λ s. Keeps old (after_next t s) u) (sym on.2)
    (by_pivot (good_pivot t h.table u on.0 on.1 on.2))
  where
    by_pivot : GoodPivot t on.0 on.1 → Keeps old (pivoted t on.0 on.1) u
    by_pivot g = record {
      table = IsTable-pivoted t h.table on.0 on.1 g.row g.column;
      same = SameSystem_trans old t (pivoted t on.0 on.1) h.same
          (SameSystem-pivoted t h.table on.0 on.1 g.row g.column g.some);
      within = λ w. g.within (h.within w);
      row = λ row. stays_after t h.table u on.0 on.1 (h.row row) on.2;
    }

run_keeps : (t : Table) (u n : ℕ) → IsTable t → ((k : ℕ) → k < n → GoesOn (pivot_run t u k) u)
    → Keeps t (pivot_run t u n) u
run_keeps t u zero ok on = record {
  table = ok;
  same = SameSystem_refl t;
  within = λ w. w;
  row
      = λ row. row;
}
run_keeps t u (suc n) ok on = keeps_more t (pivot_run t u n) u
    (run_keeps t u n ok (λ k below. on k (omega arith))) (on n (omega arith))

pub reached_keeps : (old new : Table) (u n : ℕ) → IsTable old → HasPivoted old new u n
    → Keeps old new u
reached_keeps old new u n ok h = subst (λ (t : Table). Keeps old t u) (sym h.is)
    (run_keeps old u n ok h.goes_on)

pub ends_keeps : (old new : Table) (u limit : ℕ) (r : Result Peak Jam) → IsTable old
    → Ends old new u limit r → Keeps old new u
ends_keeps old new u limit (Ok peak) ok h = reached_keeps old new u h.n ok h.reached
ends_keeps old new u limit (Err Spent) ok h = reached_keeps old new u limit ok h.reached
ends_keeps old new u limit (Err (Spill Row)) ok h = absurd h
ends_keeps old new u limit (Err (Spill (Ratio w x))) ok h = reached_keeps old new u h.n ok h.reached
ends_keeps old new u limit (Err (Spill (Pivot w x))) ok h = reached_keeps old new u h.n ok h.reached

-- ---- the steps of the code

-- what `?` hands on
pub err_is : {V E : Type 0} (r : Result V E) (e : E) → IsErr r × IsErrAnd r (λ y. y ≡ e) → r ≡ Err e
err_is (Ok x) e h = absurd h.1
err_is (Err y) e h = ap Err h.1

pub rule_fits : (t : Table) (u : ℕ) (m : Move) → Some m ≡ entering t u → RatiosFit t m (size t)
    → RuleFits t u
rule_fits t u m is fits low n e = subst (λ (k : Move). RatiosFit t k (size t))
    (ap move_in (is ∙ e)) fits
  where
    move_in : Option Move → Move
    move_in None = m
    move_in (Some k) = k

pub next_after_move : (t : Table) (u : ℕ) (m : Move) (o : Option ℕ) → is_positive (sample t u)
    ≡ false → Some m ≡ entering t u → o ≡ leaving t m → next_by_row t m o ≡ next t u
next_after_move t u m o low enters leaves =
    ap (next_by_row t m) leaves ∙ ap (next_by_move t) enters
    ∙ sym (cond-false (is_positive (sample t u)) (Stops (Positive None))
    (next_by_move t (entering t u)) low)

pub next_fits : (t : Table) (u r c : ℕ) → next t u ≡ Pivots r c
    → PivotFits t.entries t.constants r c → NextFits t u
next_fits t u r c e fits x y d = subst (λ (k : ℕ). PivotFits t.entries t.constants k y)
    (ap row_in (sym e ∙ d)) (subst (λ (k : ℕ). PivotFits t.entries t.constants r k)
    (ap column_in (sym e ∙ d)) fits)
  where
    row_in : Next → ℕ
    row_in (Stops peak) = 0
    row_in (Pivots i j) = i

    column_in : Next → ℕ
    column_in (Stops peak) = 0
    column_in (Pivots i j) = j

pub ends_in : (old now new : Table) (u limit n : ℕ) (peak : Peak) → HasPivoted old now u n
    → n ≤ limit
    → (new ≡ now) × RuleFits now u × (next now u ≡ Stops peak) → EndsIn old new u limit peak
ends_in old now new u limit n peak reached few h =
    subst (λ (t : Table). EndsIn old t u limit peak) (sym h.0)
    (record { n = n; allowed = few; reached = reached; ratios = h.1; stops = h.2 })

pub ends_at : (old now new : Table) (u limit n : ℕ) (step : Step) → HasPivoted old now u n
    → n < limit
    → (new ≡ now) × StepJams now u step → Ends old new u limit (Err (Spill step))
ends_at old now new u limit n Row reached few h = absurd h.1
ends_at old now new u limit n (Ratio w x) reached few h =
    subst (λ (t : Table). Ends old t u limit (Err (Spill (Ratio w x)))) (sym h.0)
    (record { n = n; allowed = omega arith; reached = reached; jams = h.1 })
ends_at old now new u limit n (Pivot w x) reached few h =
    subst (λ (t : Table). Ends old t u limit (Err (Spill (Pivot w x)))) (sym h.0)
    (record { n = n; allowed = few; reached = reached; jams = h.1 })

pub ends_last : (old now : Table) (u limit n : ℕ) (step : Step) → HasPivoted old now u n → n ≤ limit
    → RuleJams now u step → Ends old now u limit (Err (Spill step))
ends_last old now u limit n Row reached few h = absurd h
ends_last old now u limit n (Ratio w x) reached few h = record
    { n = n; allowed = few; reached = reached; jams = h }
ends_last old now u limit n (Pivot w x) reached few h = absurd h

pub ends_now : (old now : Table) (u limit n : ℕ) (r : Result Peak Jam) → HasPivoted old now u n → n
    ≡ limit → EndsNow now u r → Ends old now u limit r
ends_now old now u limit n (Ok peak) reached full h = record
    { n = n; allowed = omega arith; reached = reached; ratios = h.0; stops = h.1 }
ends_now old now u limit n (Err Spent) reached full h = record
    { reached = subst (HasPivoted old now u) full reached; ratios = h.0; goes_on = h.1 }
ends_now old now u limit n (Err (Spill step)) reached full h = ends_last old now u limit n step
    reached (omega arith) h

pub step_jams : (t : Table) (u : ℕ) (step : Step) → RuleJams t u step → StepJams t u step
step_jams t u Row h = h
step_jams t u (Ratio w x) h = h
step_jams t u (Pivot w x) h = absurd h

-- ---- what the peak says

pub ends_peak : (old new : Table) (u limit : ℕ) (r : Result Peak Jam) → IsTable old → u < size old
    → IsWithin old (sample old) → Ends old new u limit r → IfOk r (PeakHolds new u)
ends_peak old new u limit (Ok peak) ok below within h =
    let keeps = ends_keeps old new u limit (Ok peak) ok h in
    peak_holds new keeps.table u peak (omega (arith, keeps.same.size)) (keeps.within within) h.stops
ends_peak old new u limit (Err jam) ok below within h = tt
