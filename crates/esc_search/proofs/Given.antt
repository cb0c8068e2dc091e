-- One more formula of a background is asserted.
use Rattle.std.proofs.Common.{◌≡◌, ◌≤◌, ◌+◌, List, [], ◌∷◌, ◌++◌, Result, Ok, Err, length, ap, sym}
use Rattle.std.proofs.Common.{◌∙◌, arith}
use Rattle.std.specs.Prelude.{OnOk}
use Rattle.std.specs.List.{range_with_len}
use Rattle.std.proofs.lemmas.List.{length_push}
use Rattle.std.proofs.lemmas.List.Elements.{All-nil}
use Rattle.esc_fact.specs.declared.base.Base.{Base}
use Rattle.esc_fact.specs.declared.fact.Fact.{Fact}
use Rattle.esc_fact.specs.declared.fact.Fact.TheVariants as fact
use Rattle.esc_verdict.specs.declared.cause.Cause.TheVariants as cause
use Rattle.esc_search.specs.Levels.{KeepsLevels}
use Rattle.esc_search.specs.Proving.{ComesTo, GivenEnds, IsReady, LogsGiven}
use Rattle.esc_search.specs.SearchInside.{IsArithmeticStop, IsBegun, IsKept, IsLoggedNext}
use Rattle.esc_search.specs.declared.open_split.OpenSplit.{OpenSplit}
use Rattle.esc_search.specs.declared.outcome.Outcome.{Outcome}
use Rattle.esc_search.specs.declared.outcome.Outcome.TheVariants as outcome
use Rattle.esc_search.specs.declared.search.Search.{Search}
use Rattle.esc_search.specs.declared.tally.Tally.{Tally}

-- it is logged
pub logged_next : {X E : Type 0} (base : Base) (s w : Search) (f : Fact) (r : Result X E)
    → length s.branch.book.live ≡ length s.log → length s.log + 1 ≤ length base.background
    → w.branch.book.live ≡ s.branch.book.live → OnOk r (IsBegun base w)
    → OnOk r (w.log ≡ s.log ++ f ∷ []) → OnOk r (IsLoggedNext base w)
logged_next base s w f (Ok x) all few live begun log = record {
  begun = begun;
  last = omega (arith, all, ap length live, ap length log, length_push s.log f);
  without_goal = omega (arith, few, ap length log, length_push s.log f);
}
logged_next base s w f (Err e) all few live begun log = tt

-- all of the log are live
pub ready_begun : (base : Base) (s : Search) → IsBegun base s
    → length s.log ≡ length s.branch.book.live → length s.log ≤ length base.background
    → IsReady base s
ready_begun base s begun all few = record {
  log = begun.log;
  without_goal = few;
  formulas = begun.formulas;
  live = begun.live ∙ ap (range_with_len 0) (sym all);
  sides = begun.sides;
  splits = begun.splits;
  under = begun.under;
  branch = begun.branch;
  given = begun.given;
  sound = begun.sound;
  limit = begun.limit;
}

pub given_stops : (base : Base) (s : Search) (o : Outcome) → ComesTo base s o
    → IsArithmeticStop o → GivenEnds base s o
given_stops base s outcome.Closed comes none = absurd none
given_stops base s outcome.Open comes none = absurd none
given_stops base s (outcome.Stopped why) comes arithmetic = (comes, arithmetic)
given_stops base s outcome.Memory comes arithmetic = tt

pub logs_given : (old new : List Fact) (o : Outcome) → new ≡ old ++ fact.Given (length old) ∷ []
    → LogsGiven old new o
logs_given old new outcome.Closed is = is
logs_given old new outcome.Open is = is
logs_given old new (outcome.Stopped why) is = is
logs_given old new outcome.Memory is = tt

-- what is kept without open splits
pub levels_kept : (base : Base) (s w : Search) → IsKept base s [] w [] → KeepsLevels s w
levels_kept base s w kept t back =
    (kept.levels t (All-nil (λ (o : OpenSplit). length t.trail.records ≤ o.mark)) back).0

-- ---- the tally stands beside all this

pub comes_tallied : (base : Base) (s : Search) (t : Tally) (o : Outcome) → ComesTo base s o
    → ComesTo base (record s { tally = t }) o
comes_tallied base s t outcome.Closed is = record { legal = is.legal; refuted = is.refuted }
comes_tallied base s t outcome.Open is = record {
  branch = is.branch;
  done = is.done;
  within = is.within;
  left = is.left;
  follow = is.follow;
  saturated = is.saturated;
  starts = is.starts;
  rounds = is.rounds;
}
comes_tallied base s t (outcome.Stopped (cause.Overflow b stuck)) is = record {
  cause_is = is.cause_is;
  tells = is.tells;
  follow = is.follow;
}
comes_tallied base s t (outcome.Stopped (cause.Pivots b stuck)) is = record {
  cause_is = is.cause_is;
  tells = is.tells;
  follow = is.follow;
}
comes_tallied base s t (outcome.Stopped (cause.Splits b next)) is = record {
  cause_is = is.cause_is;
  tells = is.tells;
  follow = is.follow;
}
comes_tallied base s t (outcome.Stopped (cause.Rounds b made)) is = record {
  cause_is = is.cause_is;
  tells = is.tells;
  follow = is.follow;
}
comes_tallied base s t (outcome.Stopped (cause.Facts b next)) is = record {
  cause_is = is.cause_is;
  tells = is.tells;
  follow = is.follow;
}
comes_tallied base s t outcome.Memory is = tt

pub back_tallied : (s : Search) (t : Tally) → KeepsLevels s (record s { tally = t })
back_tallied s t u back = record {
  newest = back.newest;
  records = back.records;
  undoable = back.undoable;
  same = back.same;
  meanings = back.meanings;
  formulas = back.formulas;
  log = back.log;
  sides = back.sides;
  splits = back.splits;
  limits = back.limits;
}
