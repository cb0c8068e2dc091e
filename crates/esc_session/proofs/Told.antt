-- What is told of a goal, by what its search came to.
use Rattle.std.proofs.Common.{◌≡◌, ℕ, true, inl, inr, List, [], ◌∷◌, ◌++◌, length, map, refl, sym, ap, ap₂}
use Rattle.std.proofs.Common.{◌∙◌, arith}
use Rattle.std.specs.Prelude.{IfOk, Result, Ok, Err}
use Rattle.std.specs.List.{range_with_len}
use Rattle.std.proofs.lemmas.List.{length_push}
use Rattle.std.proofs.lemmas.List.FromFn.{map-range_with_len_more}
use Rattle.esc_fact.specs.declared.fact.Fact.{Fact}
use Rattle.esc_fact.specs.declared.fact.Fact.TheVariants.{Given}
use Rattle.esc_report.specs.declared.report.Report.{Report}
use Rattle.esc_report.specs.declared.report.Report.TheVariants as report
use Rattle.esc_search.specs.Proving.{tallied}
use Rattle.esc_search.specs.declared.outcome.Outcome.{Outcome}
use Rattle.esc_search.specs.declared.outcome.Outcome.TheVariants as outcome
use Rattle.esc_search.specs.declared.tally.Tally.{Tally}
use Rattle.esc_session.specs.ReportingInside.{GoalTallies, IsToldOf, SearchTallies}

pub tally_told : {E : Type 0} (r : Result Report E) (came : Outcome) (before after : Tally)
    → IfOk r (IsToldOf came) → after ≡ tallied before came → SearchTallies r before after
tally_told (Ok (report.Valid goal log formulas)) came before after told h =
    h ∙ ap (tallied before) told
tally_told (Ok (report.Invalid goal found)) came before after told h =
    (refl, h ∙ ap (tallied before) told)
tally_told (Ok (report.Unknown goal cause)) came before after told h =
    (refl, h ∙ ap (tallied before) told)
tally_told (Ok (report.Memory goal place)) came before after told h = absurd told
tally_told (Ok (report.Refused place why)) came before after told h = absurd told
tally_told (Ok report.Done) came before after told h = absurd told
tally_told (Err e) came before after told h = inr (came, refl, h)

-- where what is assumed is refuted, the search is not asked
pub tally_assumed : {E : Type 0} (r : Result Report E) (before after : Tally)
    → IfOk r (IsToldOf outcome.Closed) → after ≡ before → GoalTallies true r before after
tally_assumed (Ok (report.Valid goal log formulas)) before after told h = h
tally_assumed (Ok (report.Invalid goal found)) before after told h = absurd cc
tally_assumed (Ok (report.Unknown goal cause)) before after told h = absurd cc
tally_assumed (Ok (report.Memory goal place)) before after told h = absurd told
tally_assumed (Ok (report.Refused place why)) before after told h = absurd told
tally_assumed (Ok report.Done) before after told h = absurd told
tally_assumed (Err e) before after told h = inl h

-- one more formula of the background is named
pub one_more_named : (facts more : List Fact) (n : ℕ) → n ≡ length facts
    → facts ≡ map Given (range_with_len 0 (length facts)) → more ≡ facts ++ Given n ∷ []
    → more ≡ map Given (range_with_len 0 (length more))
one_more_named facts more n number named added =
    added
    ∙ (ap₂ (λ xs k. xs ++ Given k ∷ []) named number
    ∙ (sym (map-range_with_len_more Given 0 (length facts) (length facts) (omega arith))
    ∙ ap (λ k. map Given (range_with_len 0 k))
    (sym (ap length added ∙ length_push facts (Given n)))))
