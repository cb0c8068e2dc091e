-- Open splits wait while the branch goes on, is split, and goes back.
use Rattle.std.proofs.Common.{◌≡◌, ◌≢◌, ℕ, ◌<◌, ◌≤◌, Bool, true, false, List, [], ◌∷◌, ◌++◌, Some}
use Rattle.std.proofs.Common.{None}
use Rattle.std.proofs.Common.{length, map, drop, take, append-nil, refl, sym, ap, subst, ◌∙◌, arith}
use Rattle.std.proofs.Common.{length-append}
use Rattle.std.specs.List.{All, Contains}
use Rattle.std.proofs.lemmas.List.{drop-append-le, length-take-le, take-append-drop, take-append-le}
use Rattle.std.proofs.lemmas.List.{take_all}
use Rattle.std.proofs.lemmas.List.Elements.{All-push}
use Rattle.std.proofs.lemmas.Option.{slice_get_within}
use Rattle.std.proofs.Math.Seq.{drop-append_seam}
use Rattle.esc_term.specs.declared.formula.Formula.{Formula}
use Rattle.esc_term.specs.Model.{read_in}
use Rattle.esc_term.specs.Refuted.{AllTrue}
use Rattle.esc_clause.specs.declared.occurrence.Occurrence.{Occurrence}
use Rattle.esc_trail.specs.Records.{Records}
use Rattle.esc_trail.specs.Undo.{CanRewind, Notes, rewind}
use Rattle.esc_trail.proofs.Noting.{keeps_mark}
use Rattle.esc_trail.proofs.Rewinding.{CanRewind-split, rewind-append}
use Rattle.esc_fact.specs.Fact.{formulas_of}
use Rattle.esc_fact.specs.declared.base.Base.{Base}
use Rattle.esc_fact.specs.declared.fact.Fact.{Fact}
use Rattle.esc_live.specs.LiveUndo.{AreSame, live_lawful, live_undo}
use Rattle.esc_live.specs.View.{live_on}
use Rattle.esc_live.specs.declared.branch.LiveBranch.{LiveBranch}
use Rattle.esc_live.specs.declared.record.LiveRec.{LiveRec}
use Rattle.esc_outcome.specs.Tree.{IsFree, IsSideAmong, Side, formulas_at}
use Rattle.esc_outcome.specs.declared.branch.Split.{Split}
use Rattle.esc_outcome.proofs.Paths.{paths_stay, slice_get_append_left, slice_get_push}
use Rattle.esc_outcome.specs.Tree.{said_by}
use Rattle.std.specs.List.{filter_map}
use Rattle.esc_search.specs.SearchInside.{IsOlder, IsWaiting, WasSplit, said_under}
use Rattle.esc_verdict.specs.declared.cause.Start.{Start}
use Rattle.esc_search.specs.declared.open_split.OpenSplit.{OpenSplit}
use Rattle.esc_search.specs.declared.search.Search.{Search}

-- ---- sides

abbrev bit : Side → Bool
bit None = false
bit (Some side) = side.1

abbrev number : Side → ℕ
number None = 0
number (Some side) = side.0

not_false : true ≡ false → ⊥
not_false e = cc

pub first_is_other : (n m : ℕ) → ◌≡◌ {A = Side} (Some (n, true)) (Some (m, false)) → ⊥
first_is_other n m e = not_false (ap bit e)

numbers_differ : (a b : ℕ) → b < a → ◌≡◌ {A = Side} (Some (a, false)) (Some (b, false)) → ⊥
numbers_differ a b less e =
    let same : a ≡ b = ap number e in
    omega (arith, less, same)

-- ---- the branch goes on

module _ (base : Base) (s : Search) (w : LiveBranch) (t : Records LiveRec)
    (notes : Notes live_undo (λ rec. rec) s.trail.records t.records s.branch w) where
  pub waits_on : (starts : List Start) (o : OpenSplit) → IsWaiting base s starts o
      → IsWaiting base (record s { branch = w; trail = t }) starts o
  waits_on starts o h =
      let keeps = keeps_mark live_undo live_lawful (λ rec. rec) (λ rec. refl) o.mark
      s.trail.records t.records s.branch w notes h.within h.undoable in
      record {
        there = h.there;
        free = h.free;
        elsewhere = h.elsewhere;
        within = omega (
          arith,
          h.within,
          ap length notes.noted,
          length-append s.trail.records (map (λ (rec : LiveRec). rec) notes.recs),
        );
        undoable = keeps.undoable;
        begun = h.begun;
        before = h.before;
        same = live_lawful.transitive _ _ _ keeps.view h.same;
        split = h.split;
      }

-- ---- a split

-- what is said on the way to a side stays
pub formulas_at-more : (fs : List Formula) (splits more : List Split) (side : Side)
    → IsSideAmong (length splits) side
    → formulas_at fs (splits ++ more) side ≡ formulas_at fs splits side
formulas_at-more fs splits more side among =
    ap (λ path. fs ++ filter_map (said_by fs) path) (paths_stay splits more side among)

pub said_under-more : (fs : List Formula) (w : LiveBranch) (splits more : List Split) (side : Side)
    → IsSideAmong (length splits) side
    → said_under fs w (splits ++ more) side ≡ said_under fs w splits side
said_under-more fs w splits more side among =
    ap (λ path. live_on w ++ filter_map (said_by fs) path) (paths_stay splits more side among)

pub was_split : (base : Base) (depth : ℕ) (log : List Fact) (splits more : List Split)
    (starts : List Start) (split : Split) (w : LiveBranch)
    → IsSideAmong (length splits) split.under
    → WasSplit base depth log splits starts split w
    → WasSplit base depth log (splits ++ more) starts split w
was_split base depth log splits more starts split w among h = record {
  branch = h.branch;
  formulas = h.formulas;
  gathered = h.gathered;
  sound = λ M all. h.sound M (subst (AllTrue (read_in M))
      (said_under-more (formulas_of base log) w splits more split.under among) all);
  decided = subst (All (Contains w.clauses.decisions))
      (sym (paths_stay splits more split.under among)) h.decided;
  occurs = h.occurs;
  undecided = h.undecided;
}

module _ (base : Base) (s : Search) (starts : List Start) (at : Occurrence) where
  abbrev pub split_here : Split
  split_here = record { under = s.under; at = at }

  -- with the split, on its first side
  abbrev pub at_split : Search
  at_split = record s {
    splits = s.splits ++ split_here ∷ [];
    under = Some (length s.splits, true);
  }

  abbrev pub new_open : OpenSplit
  new_open = record {
    mark = length s.trail.records;
    number = length s.splits;
    rounds = length starts;
    split = split_here;
  }

  pub waits_split : (o : OpenSplit) → IsSideAmong (length s.splits) o.split.under
      → IsWaiting base s starts o → IsWaiting base at_split starts o
  waits_split o among h = record {
    there = slice_get_append_left s.splits (split_here ∷ []) o.number
        (slice_get_within s.splits o.number o.split h.there)
        ∙ h.there;
    free = All-push (λ (p : Split). ◌≢◌ {A = Side} p.under (Some (o.number, false))) s.splits
        split_here h.free h.elsewhere;
    elsewhere = λ e. first_is_other (length s.splits) o.number e;
    within = h.within;
    undoable = h.undoable;
    begun = h.begun;
    before = h.before;
    same = h.same;
    split = was_split base s.limits.depth s.log s.splits (split_here ∷ []) (take o.rounds starts)
        o.split h.before among h.split;
  }

  nothing_newer : drop (length s.trail.records) s.trail.records ≡ []
  nothing_newer =
      ap (λ list. drop (length s.trail.records) list) (sym (append-nil s.trail.records))
      ∙ drop-append_seam s.trail.records []

  -- the new one
  pub waits_new : IsSideAmong (length s.splits) s.under
      → IsFree at_split.splits (Some (length s.splits, false))
      → WasSplit base s.limits.depth s.log s.splits starts split_here s.branch
      → IsWaiting base at_split starts new_open
  waits_new among free was = record {
    there = slice_get_push s.splits split_here;
    free = free;
    elsewhere = λ e. first_is_other (length s.splits) (length s.splits) e;
    within = omega arith;
    undoable = subst (CanRewind live_undo s.branch) (sym nothing_newer) tt;
    begun = omega arith;
    before = s.branch;
    same = subst (λ recs. AreSame (rewind live_undo s.branch recs) s.branch) (sym nothing_newer)
        (live_lawful.reflexive s.branch);
    split = subst (λ list. WasSplit base s.limits.depth s.log at_split.splits list split_here
        s.branch) (sym (take_all (length starts) starts (omega arith)))
        (was_split base s.limits.depth s.log s.splits (split_here ∷ []) starts split_here s.branch
        among was);
  }

-- ---- going back

module _ (base : Base) (s : Search) (starts : List Start) (t : Records LiveRec) (n : OpenSplit)
    (is : IsWaiting base s starts n) (records : t.records ≡ take n.mark s.trail.records) where
  -- as it was where the split was made, on its other side
  abbrev pub at_other : Search
  at_other = record s {
    branch = rewind live_undo s.branch (drop n.mark s.trail.records);
    trail = t;
    under = Some (n.number, false);
  }

  -- the rounds before the split
  abbrev pub earlier : List Start
  earlier = take n.rounds starts

  pub few_earlier : length earlier ≡ n.rounds
  few_earlier = length-take-le n.rounds starts is.begun

  -- of which those before an older one are the same
  earlier_still : (k : ℕ) → k ≤ n.rounds → take k earlier ≡ take k starts
  earlier_still k fewer =
      sym (take-append-le k earlier (drop n.rounds starts) (omega (arith, fewer, few_earlier)))
      ∙ ap (take k) (take-append-drop n.rounds starts)

  pub waits_back : (o : OpenSplit) → IsOlder o n → IsWaiting base s starts o
      → IsWaiting base at_other earlier o
  waits_back o older h =
      let all = s.trail.records in
      let kept : length (take n.mark all) ≡ n.mark = length-take-le n.mark all is.within in
      let short : o.mark ≤ length (take n.mark all) = omega (arith, older.mark, kept) in
      let parts : drop o.mark all ≡ drop o.mark (take n.mark all) ++ drop n.mark all =
      ap (λ list. drop o.mark list) (sym (take-append-drop n.mark all))
      ∙ drop-append-le o.mark (take n.mark all) (drop n.mark all) short in
      let can = CanRewind-split live_undo s.branch (drop o.mark (take n.mark all))
      (drop n.mark all) (subst (CanRewind live_undo s.branch) parts h.undoable) in
      let view = ap (rewind live_undo s.branch) parts
      ∙ rewind-append live_undo s.branch (drop o.mark (take n.mark all)) (drop n.mark all) in
      record {
        there = h.there;
        free = h.free;
        elsewhere = λ e. numbers_differ n.number o.number older.number e;
        within = omega (arith, ap length records, short);
        undoable = subst (λ list. CanRewind live_undo at_other.branch (drop o.mark list))
            (sym records) can.1;
        begun = omega (arith, older.rounds, few_earlier);
        before = h.before;
        same = subst (λ list. AreSame (rewind live_undo at_other.branch (drop o.mark list))
            h.before) (sym records) (subst (λ v. AreSame v h.before) view h.same);
        split = subst (λ list. WasSplit base s.limits.depth s.log s.splits list o.split h.before)
            (sym (earlier_still o.rounds older.rounds)) h.split;
      }
