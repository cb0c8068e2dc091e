-- What a search can go back to, it can after calls on the branch at hand, and once it went back
-- some of the way.
use Rattle.std.proofs.Common.{◌≡◌, ℕ, ◌≤◌, ◌+◌, ◌-◌, List, [], ◌∷◌, ◌++◌, length, map, take, drop}
use Rattle.std.proofs.Common.{refl, sym, ap, subst, ◌∙◌, append_assoc, append-nil, arith}
use Rattle.std.proofs.Common.{length-append}
use Rattle.std.proofs.Math.Seq.{drop-append-add, take-append-add}
use Rattle.std.proofs.lemmas.List.{take-append-drop}
use Rattle.std.proofs.lemmas.List.Elements.{All-contains, All-nil, All-push, Contains-push}
use Rattle.esc_trail.specs.Records.{Records}
use Rattle.esc_trail.specs.Undo.{CanRewind, Notes, rewind}
use Rattle.esc_trail.proofs.Noting.{notes_nothing}
use Rattle.esc_trail.proofs.Rewinding.{CanRewind-append, CanRewind-split, rewind-alike}
use Rattle.esc_trail.proofs.Rewinding.{rewind-append}
use Rattle.esc_fact.specs.Fact.{formulas_of}
use Rattle.esc_fact.specs.declared.base.Base.{Base}
use Rattle.esc_fact.specs.declared.fact.Fact.{Fact}
use Rattle.esc_simplex.specs.View.{senses_in}
use Rattle.esc_live.specs.Calls.{MeansMore}
use Rattle.esc_live.specs.Laws.{LeavesLog, RewoundIsGiven}
use Rattle.esc_live.specs.LiveUndo.{AreSame, live_lawful, live_undo}
use Rattle.esc_live.specs.Promises.{IsGiven}
use Rattle.esc_live.specs.View.{logged}
use Rattle.esc_live.specs.declared.branch.LiveBranch.{LiveBranch}
use Rattle.esc_live.specs.declared.record.LiveRec.{LiveRec}
use Rattle.esc_outcome.specs.Tree.{Side}
use Rattle.esc_outcome.specs.declared.branch.Split.{Split}
use Rattle.esc_play.specs.Play.{HasMore}
use Rattle.esc_play.proofs.MoreBehind.{more_both, more_none}
use Rattle.esc_sharing.proofs.Lists.{All-append_left}
use Rattle.esc_search.specs.Levels.{GoesBackTo, meanings_of}
use Rattle.esc_search.specs.SearchInside.{IsBehind, IsKept}
use Rattle.esc_search.specs.declared.open_split.OpenSplit.{OpenSplit}
use Rattle.esc_search.specs.declared.search.Search.{Search}

pub back_here : (s : Search) → GoesBackTo s s
back_here s = record {
  newest = [];
  records = sym (append-nil s.trail.records);
  undoable = tt;
  same = live_lawful.reflexive s.branch;
  meanings = more_none (meanings_of s) (meanings_of s) refl;
  formulas = more_none (logged s.branch) (logged s.branch) refl;
  log = more_none s.log s.log refl;
  sides = more_none s.sides s.sides refl;
  splits = more_none s.splits s.splits refl;
  limits = refl;
}

-- ---- calls on the branch at hand

-- the branch goes back to what it was, and what is not taken back only grew
pub record Since (s w : Search) : Type 0 where
  pub notes : Notes live_undo (λ rec. rec) s.trail.records w.trail.records s.branch w.branch
  pub means : MeansMore s.branch w.branch
  pub formulas : HasMore (logged s.branch) (logged w.branch)
  pub log : HasMore s.log w.log
  pub sides : HasMore s.sides w.sides
  pub splits : HasMore s.splits w.splits
  pub limits : w.limits ≡ s.limits

-- nothing changed
pub since_here : (s : Search) → Since s s
since_here s =
    let here = back_here s in
    record {
      notes = notes_nothing live_undo (λ rec. rec) s.trail.records s.trail.records s.branch s.branch
          refl (live_lawful.reflexive s.branch);
      means = here.meanings;
      formulas = here.formulas;
      log = here.log;
      sides = here.sides;
      splits = here.splits;
      limits = refl;
    }

-- a call on the branch leaves the rest
pub since_call : (s : Search) (w : LiveBranch) (t : Records LiveRec)
    → Notes live_undo (λ rec. rec) s.trail.records t.records s.branch w → MeansMore s.branch w
    → logged w ≡ logged s.branch → Since s (record s { branch = w; trail = t })
since_call s w t notes means same =
    let here = back_here s in
    record {
      notes = notes;
      means = means;
      formulas = more_none (logged s.branch) (logged w) same;
      log = here.log;
      sides = here.sides;
      splits = here.splits;
      limits = refl;
    }

-- a formula was logged, or its fact or side alone
pub since_logged : (s : Search) (b : LiveBranch) (log : List Fact) (sides : List Side)
    → b ≡ record s.branch { book = record s.branch.book { logged = logged b } }
    → HasMore (logged s.branch) (logged b) → HasMore s.log log → HasMore s.sides sides
    → Since s (record s { branch = b; log = log; sides = sides })
since_logged s b log sides rest formulas logs more_sides = record {
  notes = notes_nothing live_undo (λ rec. rec) s.trail.records s.trail.records s.branch b refl
      (subst (λ v. AreSame v s.branch) (sym rest) (record {
        sharing = (live_lawful.reflexive s.branch).sharing;
        clauses = refl;
        live = refl;
        pages = refl;
        literals = refl;
        alloc = refl;
      }));
  means = more_none (meanings_of s) (senses_in b.sharing.theory)
      (ap (λ (v : LiveBranch). senses_in v.sharing.theory) rest);
  formulas = formulas;
  log = logs;
  sides = more_sides;
  splits = more_none s.splits s.splits refl;
  limits = refl;
}

-- a split was made, or not
pub since_split : (s : Search) (splits : List Split) (side : Side) → HasMore s.splits splits
    → Since s (record s { splits = splits; under = side })
since_split s splits side more =
    let here = since_here s in
    record {
      notes = here.notes;
      means = here.means;
      formulas = here.formulas;
      log = here.log;
      sides = here.sides;
      splits = more;
      limits = refl;
    }

map_same : {X : Type 0} (xs : List X) → map (λ x. x) xs ≡ xs
map_same [] = refl
map_same (x ∷ xs) = ap (λ ys. x ∷ ys) (map_same xs)

pub back_on : (s w t : Search) → Since s w → GoesBackTo s t → GoesBackTo w t
back_on s w t since back =
    let recs = since.notes.recs in
    let earlier = rewind-alike live_undo live_lawful (rewind live_undo w.branch recs) s.branch
    back.newest since.notes.undone back.undoable in
    record {
      newest = back.newest ++ recs;
      records = since.notes.noted ∙ (ap (λ list. s.trail.records ++ list) (map_same recs)
          ∙ (ap (λ list. list ++ recs) back.records
          ∙ append_assoc t.trail.records back.newest recs));
      undoable = CanRewind-append live_undo w.branch back.newest recs since.notes.undoable
          earlier.0;
      same = live_lawful.transitive _ _ _
          (subst (λ v. AreSame v (rewind live_undo s.branch back.newest))
          (sym (rewind-append live_undo w.branch back.newest recs)) earlier.1) back.same;
      meanings = more_both (meanings_of t) (meanings_of s) (meanings_of w) back.meanings
          since.means;
      formulas = more_both (logged t.branch) (logged s.branch) (logged w.branch) back.formulas
          since.formulas;
      log = more_both t.log s.log w.log back.log since.log;
      sides = more_both t.sides s.sides w.sides back.sides since.sides;
      splits = more_both t.splits s.splits w.splits back.splits since.splits;
      limits = since.limits ∙ back.limits;
    }

-- ---- some of the way back

module _ (rewound : RewoundIsGiven) (s t : Search) (mark : ℕ) (r : Records LiveRec) (side : Side)
    (records : r.records ≡ take mark s.trail.records)
    (can : CanRewind live_undo s.branch (drop mark s.trail.records)) (given : IsGiven s.branch)
    (older : length t.trail.records ≤ mark) (back : GoesBackTo s t) where
  abbrev popped : Search
  popped = record s {
    branch = rewind live_undo s.branch (drop mark s.trail.records);
    trail = r;
    under = side;
  }

  abbrev k : ℕ
  k = mark - length t.trail.records

  reaches : length t.trail.records + k ≡ mark
  reaches = omega (arith, older)

  taken : take mark s.trail.records ≡ t.trail.records ++ take k back.newest
  taken = ap (λ n. take n s.trail.records) (sym reaches)
      ∙ (ap (take (length t.trail.records + k)) back.records
      ∙ take-append-add t.trail.records back.newest k)

  dropped : drop mark s.trail.records ≡ drop k back.newest
  dropped = ap (λ n. drop n s.trail.records) (sym reaches)
      ∙ (ap (drop (length t.trail.records + k)) back.records
      ∙ drop-append-add t.trail.records back.newest k)

  parts : back.newest ≡ take k back.newest ++ drop k back.newest
  parts = sym (take-append-drop k back.newest)

  cans : CanRewind live_undo s.branch (drop k back.newest)
      × CanRewind live_undo (rewind live_undo s.branch (drop k back.newest)) (take k back.newest)
  cans = CanRewind-split live_undo s.branch (take k back.newest) (drop k back.newest)
      (subst (CanRewind live_undo s.branch) parts back.undoable)

  from_there : popped.branch ≡ rewind live_undo s.branch (drop k back.newest)
  from_there = ap (rewind live_undo s.branch) dropped

  leaves : LeavesLog s.branch popped.branch
  leaves = rewound s.branch (drop mark s.trail.records) can given

  pub back_popped : GoesBackTo popped t
  back_popped = record {
    newest = take k back.newest;
    records = records ∙ taken;
    undoable = subst (λ v. CanRewind live_undo v (take k back.newest)) (sym from_there) cans.1;
    same = subst (λ v. AreSame (rewind live_undo v (take k back.newest)) t.branch)
        (sym from_there)
        (subst (λ v. AreSame v t.branch) (ap (rewind live_undo s.branch) parts
        ∙ rewind-append live_undo s.branch (take k back.newest) (drop k back.newest)) back.same);
    meanings = subst (HasMore (meanings_of t)) (sym leaves.means) back.meanings;
    formulas = subst (HasMore (logged t.branch)) (sym leaves.log) back.formulas;
    log = back.log;
    sides = back.sides;
    splits = back.splits;
    limits = back.limits;
  }

-- ---- what is kept

module _ (base : Base) (s : Search) (os : List OpenSplit) where
  pub kept_same : IsGiven s.branch → logged s.branch ≡ formulas_of base s.log
      → IsKept base s os s os
  kept_same given formulas = record {
    given = given;
    formulas = formulas;
    limits = refl;
    tally = refl;
    levels = λ t behind back. (back, behind);
  }

  module _ (w : Search) (given : IsGiven w.branch)
      (formulas : logged w.branch ≡ formulas_of base w.log) (tally : w.tally ≡ s.tally)
      (since : Since s w) where
    pub kept_since : IsKept base s os w os
    kept_since = record {
      given = given;
      formulas = formulas;
      limits = since.limits;
      tally = tally;
      levels = λ t behind back. (back_on s w t since back, behind);
    }

    -- where a split was opened
    pub kept_open : (o : OpenSplit) (ps : List OpenSplit) → ps ≡ os ++ o ∷ []
        → o.mark ≡ length s.trail.records → IsKept base s os w ps
    kept_open o ps pushed mark = record {
      given = given;
      formulas = formulas;
      limits = since.limits;
      tally = tally;
      levels = λ t behind back. (
        back_on s w t since back,
        subst (IsBehind t) (sym pushed) (All-push (λ (p : OpenSplit). length t.trail.records
            ≤ p.mark) os o behind
            (omega (
              arith,
              mark,
              ap length back.records,
              length-append t.trail.records back.newest,
            ))),
      );
    }

pub kept_both : {xs ys zs : List OpenSplit} (base : Base) (a b c : Search)
    → IsKept base a xs b ys → IsKept base b ys c zs → IsKept base a xs c zs
kept_both base a b c first second = record {
  given = second.given;
  formulas = second.formulas;
  limits = second.limits ∙ first.limits;
  tally = second.tally ∙ first.tally;
  levels = λ t behind back.
      let mid = first.levels t behind back in
      second.levels t mid.1 mid.0;
}

-- where the search went to the other side of the last open split
-- where no split is open any more
pub kept_ended : (base : Base) (a b : Search) (os : List OpenSplit) → IsKept base a [] b os
    → IsKept base a [] b []
kept_ended base a b os kept = record {
  given = kept.given;
  formulas = kept.formulas;
  limits = kept.limits;
  tally = kept.tally;
  levels = λ t behind back. (
    (kept.levels t behind back).0,
    All-nil (λ (o : OpenSplit). length t.trail.records ≤ o.mark),
  );
}

pub behind_front : (t : Search) (os : List OpenSplit) (o : OpenSplit) → IsBehind t (os ++ o ∷ [])
    → IsBehind t os × (length t.trail.records ≤ o.mark)
behind_front t os o behind = (
  All-append_left (λ (p : OpenSplit). length t.trail.records ≤ p.mark) os (o ∷ []) behind,
  All-contains (λ (p : OpenSplit). length t.trail.records ≤ p.mark) (os ++ o ∷ []) o behind
      (Contains-push os o),
)
