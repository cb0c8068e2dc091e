-- A branch without items that fail.
use Rattle.std.proofs.Common.{◌≡◌, inl, inr, Bool, true, false, not, ◌&&◌, List, [], ◌∷◌}
use Rattle.std.proofs.Common.{Any, zero, suc, is_some, refl, ap, sym, subst, ◌∙◌, arith}
use Rattle.std.specs.List.{All, AllPairs, Contains, filter}
use Rattle.std.proofs.lemmas.List.Elements.{All-contains}
use Rattle.esc_term.proofs.Members.{Contains-here}
use Rattle.esc_term.specs.declared.formula.Formula.{Formula}
use Rattle.esc_term.specs.Interpretation.{truth}
use Rattle.esc_term.specs.Model.{Model, read_in}
use Rattle.esc_cover.specs.Arithmetic.{InPlay, play_of}
use Rattle.esc_cover.specs.Laws.{CoverIsSound, HoldsIn, IsSaidIn}
use Rattle.esc_cover.proofs.TestLemmas.{kept, of_kept}
use Rattle.esc_sharing.proofs.Lists.{All-each, Any-contains, Contains-map}
use Rattle.esc_sharing.specs.ModelLaws.{LeastStays}
use Rattle.esc_sharing.specs.Shared.{literals_in, play_in}
use Rattle.esc_outcome.specs.JamLaws.{shared_in}
use Rattle.esc_trail.specs.Undo.{Notes}
use Rattle.esc_trail.proofs.Noting.{IsPart, notes_within}
use Rattle.esc_book.specs.Book.{IsLiveOccurrence}
use Rattle.esc_clause.specs.ClauseContext.{ClauseContext, items_left, left_in}
use Rattle.esc_clause.specs.ClausesUndo.{clauses_undo}
use Rattle.esc_clause.specs.Laws.{IsSo}
use Rattle.esc_clause.specs.Refinement.{is_no, is_same_place}
use Rattle.esc_clause.specs.Refinement.{lighter, refined}
use Rattle.esc_clause.specs.declared.decision.Decision.{Decision}
use Rattle.esc_clause.specs.declared.occurrence.Occurrence.{Occurrence}
use Rattle.esc_clause.specs.declared.truth.Refined.{Refined}
use Rattle.esc_clause.specs.declared.truth.Refined.TheVariants.{Empty, Quiet, Unit}
use Rattle.esc_clause.specs.declared.truth.Truth.{Truth}
use Rattle.esc_clause.specs.declared.truth.Truth.TheVariants.{Yes, No, Open}
use Rattle.esc_live.specs.Expanded.{IsKept, covered, parts, split}
use Rattle.esc_live.specs.LiveUndo.{live_lawful, live_undo}
use Rattle.esc_live.specs.Promises.{IsBranch, IsMade, IsSharedOn, IsSoundIn}
use Rattle.esc_live.specs.Promises.{IsUndecided, WasExpanded, decided_as, whole_at}
use Rattle.esc_live.specs.View.{classes_on, judge_on, literals_on, live_on, logged}
use Rattle.esc_live.specs.declared.branch.LiveBranch.{LiveBranch}
use Rattle.esc_live.specs.declared.record.LiveRec.{LiveRec}
use Rattle.esc_live.specs.declared.record.LiveRec.TheVariants.{Clauses}
use Rattle.esc_refine.specs.ThinningInside.{Comes, Tells, truth_on}
use Rattle.esc_refine.specs.ThinningInside.{with_clauses}
use Rattle.esc_refine.proofs.Judged.{judged_not}
use Rattle.esc_refine.proofs.Parts.{clause_part}
use Rattle.esc_refine.proofs.Told.{Waits, left_open, waits_empty, waits_unit}
use Rattle.esc_refine.proofs.Truths.{decided_not, judged_cases, open_undecided, some_there}
use Rattle.esc_refine.proofs.Waiting.{AreLighter, filter-filter, lighter-among, newer_of, older_of}
use Rattle.esc_refine.proofs.Waiting.{refined-lighter}

-- ---- what fails is not so in a model

-- what is said is so
abbrev pub SaysSo : LiveBranch → Type 0
SaysSo v = (M : Model) → IsSoundIn M v → (f : Formula)
    → IsSaidIn M (literals_on v) (classes_on v) f

pub says_so : (v : LiveBranch) → IsSharedOn v → LeastStays
    → ((play : InPlay) → CoverIsSound play) → SaysSo v
says_so v shared least sound M so =
    sound (play_of (live_on v)) (literals_on v) (classes_on v)
    (least (literals_in (shared_in v.sharing)) (literals_on v) (play_in (shared_in v.sharing))
    (play_of (live_on v)) (classes_on v) shared.asserted shared.play shared.shared.least)
    M so.literals

is_failed_truth : (t : Truth) → is_no t ≡ true → t ≡ No
is_failed_truth Yes e = cc
is_failed_truth No e = refl
is_failed_truth Open e = cc

module _ (v : LiveBranch) (says : SaysSo v) (M : Model) (so : IsSoundIn M v) where
  pub failed_not : (item : Occurrence) → truth_on v item ≡ No
      → IsSo (HoldsIn M) (logged v) item → ⊥
  failed_not item e holds =
      elim (judged_cases (judge_on v) v.clauses.decisions item) [
        | inl left ↦ judged_not v M (says M so) item (sym left.says ∙ e) holds
        | inr by ↦
            decided_not (truth (read_in M)) (logged v) by.decision item by.here (sym by.says ∙ e)
            (All-contains (λ d. IsSo (HoldsIn M) (logged v) (decided_as d)) v.clauses.decisions
            by.decision so.decisions by.among) holds
      ]

  -- what is so does not fail
  pub so_not_failed : (item : Occurrence) → IsSo (HoldsIn M) (logged v) item
      → is_no (truth_on v item) ≡ false
  so_not_failed item holds = go (is_no (truth_on v item)) refl
    where
      go : (b : Bool) → is_no (truth_on v item) ≡ b → is_no (truth_on v item) ≡ false
      go true e = absurd (failed_not item (is_failed_truth (truth_on v item) e) holds)
      go false e = e

  -- one that is so is left where none goes that does not fail
  pub any_left : (items : List Occurrence) (test : Occurrence → Bool)
      → ((item : Occurrence) → is_no (truth_on v item) ≡ false → test item ≡ true)
      → Any (IsSo (HoldsIn M) (logged v)) items
      → Any (IsSo (HoldsIn M) (logged v)) (filter test items)
  any_left items test keeps (k, item, l, is, holds) =
      Any-contains (IsSo (HoldsIn M) (logged v)) (filter test items) item
      (kept test items item (k, l, is) (keeps item (so_not_failed item holds))) holds

  -- of a clause that waits, one that is left is so
  pub waits_so : (items : List Occurrence) → Waits (truth_on v) v.clauses.clauses items
      → Any (IsSo (HoldsIn M) (logged v)) items
  waits_so items waits =
      subst (Any (IsSo (HoldsIn M) (logged v))) waits.left
      (any_left (items_left waits.clause) (λ i. not (is_no (truth_on v i))) (λ i e. ap not e)
      (All-contains (Any (IsSo (HoldsIn M) (logged v))) (left_in v.clauses)
      (items_left waits.clause) so.clauses
      (Contains-map items_left v.clauses.clauses waits.clause waits.among)))

no_any : {X : Type 0} (P : X → Type 0) → Any P [] → ⊥
no_any P (k, x, l, is, holds) = absurd (omega (arith, l))

only_one : {X : Type 0} (P : X → Type 0) (x : X) → Any P (x ∷ []) → P x
only_one P x (zero, y, l, is, holds) = subst P (sym is) holds
only_one P x (suc k, y, l, is, holds) = absurd (omega (arith, l))

-- ---- what may be decided

-- an item that is left of a clause that waits is one of a live fact, and was not decided
pub record MayBeDecided (v : LiveBranch) (at : Occurrence) : Type 0 where
  pub live : IsLiveOccurrence v.book at
  pub undecided : IsUndecided v at

item_live : (v : LiveBranch) (at : Occurrence) (items : List Occurrence) → IsMade v items
    → Contains items at → IsLiveOccurrence v.book at
item_live v at items made h =
    let among =
    (of_kept made.test made.whole at (subst (λ is. Contains is at) made.left h)).0 in
    let whole = some_there (logged v) made.part made.live.there in
    let part =
    clause_part (logged v) made.part whole.0 whole.1 made.whole made.made at among in
    record {
      live = subst (Contains v.book.live) (sym part.fact) made.live.live;
      there = ap is_some part.there;
    }

pub may_be_decided : (v : LiveBranch) → IsBranch v → (at : Occurrence) (items : List Occurrence)
    → Waits (truth_on v) v.clauses.clauses items → Contains items at → MayBeDecided v at
may_be_decided v is at items waits h =
    let open_there =
    left_open (truth_on v) (items_left waits.clause) at waits.unsatisfied
    (subst (λ xs. Contains xs at) (sym waits.left) h) in
    record {
      live = item_live v at (items_left waits.clause)
          (All-contains (IsMade v) (left_in v.clauses) (items_left waits.clause) is.clauses
          (Contains-map items_left v.clauses.clauses waits.clause waits.among))
          open_there.0;
      undecided = open_undecided (judge_on v) v.clauses.decisions at open_there.1;
    }

-- ---- the branch with lighter clauses

module _ (v : LiveBranch) (clauses : ClauseContext)
    (lighter : AreLighter (truth_on v) v.clauses.clauses clauses.clauses)
    (decisions : clauses.decisions ≡ v.clauses.decisions) where
  abbrev w : LiveBranch
  w = with_clauses v clauses

  kept_still : (c : List Occurrence) → IsKept (left_in v.clauses) c
      → IsKept (left_in clauses) c
  kept_still c is =
      let newer =
      newer_of (truth_on v) v.clauses.clauses clauses.clauses lighter (filter is.test c)
      is.left in
      record {
        test = λ i. is.test i && newer.test i;
        left = subst (Contains (left_in clauses)) (filter-filter is.test newer.test c) newer.left;
      }

  expanded_still : (at : Occurrence) → WasExpanded v at → WasExpanded w at
  expanded_still at (covered o so) = covered o so
  expanded_still at (parts o ps is each) =
      parts o ps is (λ p h. expanded_still p (each p h))
  expanded_still at (split o cs is each) =
      split o cs is (λ c h. kept_still c (each c h))

  made_still : All (IsMade v) (left_in v.clauses) → All (IsMade w) (left_in clauses)
  made_still all =
      All-each (IsMade w) (left_in clauses) (λ items h.
      let older = older_of (truth_on v) v.clauses.clauses clauses.clauses lighter items h in
      let made =
      All-contains (IsMade v) (left_in v.clauses) (items_left older.clause) all
      (Contains-map items_left v.clauses.clauses older.clause older.among) in
      record {
        part = made.part;
        live = made.live;
        whole = made.whole;
        made = made.made;
        test = λ i. made.test i && older.test i;
        left = older.left ∙ (ap (filter older.test) made.left
            ∙ filter-filter made.test older.test made.whole);
      })

  shared_still : IsSharedOn v → IsSharedOn w
  shared_still is = record {
    shared = is.shared;
    play = is.play;
    asserted = is.asserted;
    asks = is.asks;
    consistent = is.consistent;
    literals_are = is.literals_are;
    occur = is.occur;
  }

  pub branch_still : IsBranch v → IsBranch w
  branch_still is = record {
    closed = is.closed;
    book = is.book;
    shared = shared_still is.shared;
    clauses = made_still is.clauses;
    decisions = record {
      live = subst (All (λ (d : Decision). IsLiveOccurrence v.book d.at)) (sym decisions)
          is.decisions.live;
      differ = subst (AllPairs (λ (a b : Decision). is_same_place a.at b.at ≡ false))
          (sym decisions) is.decisions.differ;
    };
    facts = λ place live. expanded_still (whole_at place) (is.facts place live);
    decided = subst (All (λ d. WasExpanded w (decided_as d))) (sym decisions)
        (All-each (λ d. WasExpanded w (decided_as d)) v.clauses.decisions
        (λ d h. expanded_still (decided_as d)
        (All-contains (λ e. WasExpanded v (decided_as e)) v.clauses.decisions d is.decided h)));
  }

  pub sound_still : SaysSo v → (M : Model) → IsSoundIn M v → IsSoundIn M w
  sound_still says M so = record {
    literals = so.literals;
    decisions = subst (All (λ d. IsSo (HoldsIn M) (logged v) (decided_as d))) (sym decisions)
        so.decisions;
    clauses = All-each (Any (IsSo (HoldsIn M) (logged v))) (left_in clauses) (λ items h.
        let older = older_of (truth_on v) v.clauses.clauses clauses.clauses lighter items h in
        subst (Any (IsSo (HoldsIn M) (logged v))) (sym older.left)
        (any_left v says M so (items_left older.clause) older.test older.keeps
        (All-contains (Any (IsSo (HoldsIn M) (logged v))) (left_in v.clauses)
        (items_left older.clause) so.clauses
        (Contains-map items_left v.clauses.clauses older.clause older.among))));
  }

-- ---- what is told

module _ (v : LiveBranch) (is : IsBranch v) (says : SaysSo v) where
  abbrev lightened_branch : LiveBranch
  lightened_branch = with_clauses v (lighter (judge_on v) v.clauses)

  lighter_is : AreLighter (truth_on v) v.clauses.clauses (lighter (judge_on v) v.clauses).clauses
  lighter_is = lighter-among (truth_on v) v.clauses.clauses

  comes_to : (told : Refined) → told ≡ refined (judge_on v) v.clauses
      → Comes v lightened_branch told
  comes_to Empty e = λ M so. no_any (IsSo (HoldsIn M) (logged v))
      (waits_so v says M so [] (waits_empty (truth_on v) v.clauses.clauses (sym e)))
  comes_to Quiet e = refined-lighter (judge_on v) v.clauses ∙ sym e
  comes_to (Unit at) e =
      let waits = waits_unit (truth_on v) v.clauses.clauses at (sym e) in
      let may = may_be_decided v is at (at ∷ []) waits (Contains-here at []) in
      record {
        live = may.live;
        undecided = may.undecided;
        so = λ M so. only_one (IsSo (HoldsIn M) (logged v)) at
            (waits_so v says M so (at ∷ []) waits);
      }

  pub thinned_branch : IsBranch lightened_branch
  thinned_branch = branch_still v (lighter (judge_on v) v.clauses) lighter_is refl is

  pub thinned_tells : (told : Refined) → told ≡ refined (judge_on v) v.clauses
      → Tells v lightened_branch told
  thinned_tells told e = record {
    comes = comes_to told e;
    sound = sound_still v (lighter (judge_on v) v.clauses) lighter_is refl says;
  }

-- ---- undo

clauses_part : (v : LiveBranch) → IsPart clauses_undo live_undo (with_clauses v) Clauses
clauses_part v = record {
  back_there = λ clauses rec. refl;
  can_there = λ clauses rec can. can;
  same_there = λ c d same. record {
    sharing = (live_lawful.reflexive v).sharing;
    clauses = same;
    live = refl;
    pages = refl;
    literals = refl;
    alloc = refl;
  };
}

pub notes_clauses : (v : LiveBranch) (before after : List LiveRec) (exit : ClauseContext)
    → Notes clauses_undo (λ rec. Clauses rec) before after v.clauses exit
    → Notes live_undo (λ rec. rec) before after v (with_clauses v exit)
notes_clauses v before after exit noted =
    notes_within clauses_undo live_undo (with_clauses v) Clauses (clauses_part v)
    (λ rec. Clauses rec) (λ rec. rec) (λ rec. refl) before after v.clauses exit noted
