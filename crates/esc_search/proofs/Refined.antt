-- The branch is refined while facts are being asserted.
use Rattle.std.proofs.Common.{◌≡◌, ◌≤◌, true, Result, Ok, Err, length, sym, ap, subst, ◌∙◌}
use Rattle.std.specs.Prelude.{slice_get}
use Rattle.std.specs.List.{All, filter_map, range_with_len}
use Rattle.std.proofs.lemmas.List.Elements.{All-contains}
use Rattle.esc_term.specs.declared.formula.Formula.{Formula}
use Rattle.esc_term.specs.Interpretation.{truth}
use Rattle.esc_term.specs.Model.{Model, read_in}
use Rattle.esc_term.specs.Refuted.{AllTrue}
use Rattle.esc_term.proofs.Models.{Refuted-from_models}
use Rattle.esc_cover.specs.Laws.{HoldsIn}
use Rattle.esc_trail.specs.Records.{Records}
use Rattle.esc_egraph.specs.declared.state.State.{State}
use Rattle.esc_egraph.specs.declared.state.State.TheVariants as state
use Rattle.esc_simplex.specs.declared.stop.Stop.{Stop}
use Rattle.esc_simplex.specs.declared.stop.Stop.TheVariants as stop
use Rattle.esc_fact.specs.Fact.{formula_of, formulas_of}
use Rattle.esc_fact.specs.declared.base.Base.{Base}
use Rattle.esc_book.specs.Book.{BookView, live_formulas}
use Rattle.esc_live.specs.Calls.{Ends, GoesOn, IsStoppedAt}
use Rattle.esc_live.specs.Promises.{IsBranch, IsGiven, IsSoundIn}
use Rattle.esc_live.specs.View.{literals_on, live_on, logged}
use Rattle.esc_live.specs.declared.branch.LiveBranch.{LiveBranch}
use Rattle.esc_live.specs.declared.record.LiveRec.{LiveRec}
use Rattle.esc_sharing.proofs.Lists.{All-append_left}
use Rattle.esc_search.specs.Proving.{decided_on, live_facts}
use Rattle.esc_search.specs.SearchInside.{GoesLive, IsBegun, IsHalted}
use Rattle.esc_search.specs.declared.search.Search.{Search}
use Rattle.esc_search.proofs.Asserting.{front_named}
use Rattle.esc_search.proofs.FrontFacts.{begun_grown}
use Rattle.esc_search.proofs.LiveFacts.{All-filter_map, filter_map-read, slice_get-contained}

module _ (base : Base) (s : Search) (begun : IsBegun base s) (w : LiveBranch) (t : Records LiveRec)
    (goes : GoesOn s.branch w) (given : IsGiven w) where
  abbrev pub after : Search
  after = record s { branch = w; trail = t }

  abbrev IsTrueIn : Model → Formula → Type 0
  IsTrueIn M f = truth (read_in M) f ≡ true

  formulas : logged w ≡ formulas_of base s.log
  formulas = ap (λ (b : BookView). b.logged) goes.book ∙ begun.formulas

  -- in a model of the live facts, and so in one of the log
  from_live : (M : Model) → AllTrue (read_in M) (live_on w) → IsSoundIn M s.branch
  from_live M all = begun.sound M
      (subst (λ (b : BookView). AllTrue (read_in M) (live_formulas b)) goes.book all)

  from_log : (M : Model) → AllTrue (read_in M) (logged s.branch) → IsSoundIn M s.branch
  from_log M all = begun.sound M
      (All-filter_map (slice_get (logged s.branch)) (IsTrueIn M) s.branch.book.live (λ k f h e.
      All-contains (IsTrueIn M) (logged s.branch) f all
      (slice_get-contained (logged s.branch) k f e)))

  begun_still : IsBranch w → ((M : Model) → IsSoundIn M s.branch → IsSoundIn M w)
      → IsBegun base after
  begun_still branch sound = record {
    log = begun.log;
    formulas = formulas;
    live = subst (λ (b : BookView). b.live ≡ range_with_len 0 (length b.live)) (sym goes.book)
        begun.live;
    few = subst (λ (b : BookView). length b.live ≤ length s.log) (sym goes.book) begun.few;
    sides = begun.sides;
    splits = begun.splits;
    under = begun.under;
    branch = branch;
    given = given;
    sound = λ M all. sound M (from_live M all);
    limit = goes.limit ∙ begun.limit;
  }

  live_read : live_on w ≡ formulas_of base (live_facts after)
  live_read =
      ap (λ gs. filter_map (slice_get gs) w.book.live) formulas
      ∙ filter_map-read (formula_of base) s.log (front_named base s begun) w.book.live

  halted : (why : Stop) → IsStoppedAt w why
      → ((M : Model) → IsSoundIn M s.branch → All (HoldsIn M) (literals_on w))
      → IsHalted base after why
  halted why stopped hold = record {
    grown = begun_grown base s begun;
    formulas = formulas;
    limit = goes.limit ∙ begun.limit;
    stopped = stopped;
    follow = λ M all. hold M (from_live M (subst (AllTrue (read_in M)) (sym live_read)
        (All-append_left (IsTrueIn M) (formulas_of base (live_facts after))
        (decided_on base after) all)));
  }

  pub refines : (r : Result State Stop) → Ends w (λ M. IsSoundIn M s.branch) r
      → GoesLive base after r
  refines (Ok state.Open) ends = begun_still ends.0 ends.1
  refines (Ok state.Closed) ends =
      Refuted-from_models (formulas_of base s.log) (record {
        none = λ M all. ends M (from_log M
            (subst (AllTrue (read_in M)) (sym begun.formulas) all));
      })
  refines (Err stop.Memory) ends = tt
  refines (Err (stop.Spill j)) ends = halted (stop.Spill j) ends.0 ends.1
  refines (Err (stop.Form x)) ends = halted (stop.Form x) ends.0 ends.1
  refines (Err (stop.Pivots j)) ends = halted (stop.Pivots j) ends.0 ends.1
