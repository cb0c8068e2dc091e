-- A search ends a level, and is as it was where the level began.
use Rattle.std.proofs.Common.{◌≡◌, ℕ, ◌<◌, ◌≤◌, List, [], length, map, take, drop, sym, ap, ap₂}
use Rattle.std.proofs.Common.{refl, subst, ◌∙◌, append-nil, arith, length-append}
use Rattle.std.specs.Prelude.{IsTrue, None, slice_get}
use Rattle.std.specs.List.{All, filter_map, range_with_len}
use Rattle.std.proofs.Math.Seq.{drop-append_seam, take-append_seam}
use Rattle.esc_term.specs.declared.formula.Formula.{Formula}
use Rattle.esc_term.specs.Formula.{is_closed}
use Rattle.esc_term.specs.Model.{read_in}
use Rattle.esc_term.specs.Refuted.{AllTrue}
use Rattle.esc_tableau.specs.Listed.{tabled}
use Rattle.esc_tableau.specs.Table.{size}
use Rattle.esc_trail.specs.Undo.{CanRewind, rewind}
use Rattle.esc_trail.proofs.Rewinding.{rewind-alike}
use Rattle.esc_fact.specs.Fact.{formulas_of}
use Rattle.esc_fact.specs.Legal.{first_facts}
use Rattle.esc_fact.specs.declared.base.Base.{Base}
use Rattle.esc_fact.specs.declared.fact.Fact.{Fact}
use Rattle.esc_simplex.specs.Calls.{AreRowsFor}
use Rattle.esc_simplex.specs.Senses.{senses_of}
use Rattle.esc_simplex.specs.SimplexUndo.{AreSame as SameTheory}
use Rattle.esc_simplex.specs.View.{IsSimplex, senses_in}
use Rattle.esc_simplex.specs.declared.simplex.Simplex.{Simplex}
use Rattle.esc_sharing.specs.declared.sharing.Sharing.{Sharing}
use Rattle.esc_book.specs.Book.{BookView}
use Rattle.esc_sharing.specs.Numbers.{number_terms}
use Rattle.esc_live.specs.Laws.{BackIsBranch, BackIsSound, IsBackAt, LeavesLog, RewoundIsGiven}
use Rattle.esc_live.specs.LiveUndo.{AreSame, live_lawful, live_undo}
use Rattle.esc_live.specs.Promises.{IsBranch, IsGiven}
use Rattle.esc_live.specs.View.{live_on, logged}
use Rattle.esc_live.specs.declared.branch.LiveBranch.{LiveBranch}
use Rattle.esc_live.specs.declared.record.LiveRec.{LiveRec}
use Rattle.esc_options.specs.declared.options.Limits.{Limits}
use Rattle.esc_outcome.specs.Jam.{IsNumberOf, IsSenseOf}
use Rattle.esc_outcome.specs.JamLaws.{IsGivenBy}
use Rattle.esc_outcome.specs.Tree.{Side}
use Rattle.esc_play.specs.Play.{HasMore}
use Rattle.esc_search.specs.Levels.{GoesBackTo, IsAsBefore, IsBegunAt, arithmetic_of}
use Rattle.esc_search.specs.Levels.{IsBackAt as IsBackAtLevel}
use Rattle.esc_search.specs.Levels.{meanings_of}
use Rattle.esc_search.specs.Proving.{IsReady}
use Rattle.esc_search.specs.declared.level.Level.{Level}
use Rattle.esc_search.specs.declared.search.Search.{Search}
use Rattle.esc_search.proofs.RowsPut.{rows_still_fit, senses_back}

-- ---- fronts

pub front_within : {X : Type 0} (xs ys : List X) (n : ℕ) → n ≡ length xs → HasMore xs ys
    → n ≤ length ys
front_within xs ys n is more = omega (arith, is, ap length more.1, length-append xs more.0)

pub front_taken : {X : Type 0} (xs ys : List X) (n : ℕ) → n ≡ length xs → HasMore xs ys
    → take n ys ≡ xs
front_taken xs ys n is more = ap (λ k. take k ys) is
    ∙ (ap (take (length xs)) more.1 ∙ take-append_seam xs more.0)

-- ---- a search that is as before

-- can go back to what it could
pub back_alike : (w t u : Search) → IsAsBefore w t → GoesBackTo t u → GoesBackTo w u
back_alike w t u before back =
    let wound = rewind-alike live_undo live_lawful w.branch t.branch back.newest before.branch
    back.undoable in
    record {
      newest = back.newest;
      records = before.records ∙ back.records;
      undoable = wound.0;
      same = live_lawful.transitive _ _ _ wound.1 back.same;
      meanings = subst (HasMore (meanings_of u)) (sym before.meanings) back.meanings;
      formulas = subst (HasMore (logged u.branch)) (sym before.formulas) back.formulas;
      log = subst (HasMore u.log) (sym before.log) back.log;
      sides = subst (HasMore u.sides) (sym before.sides) back.sides;
      splits = subst (HasMore u.splits) (sym before.splits) back.splits;
      limits = before.limits ∙ back.limits;
    }

module _ (w t : Search) (before : IsAsBefore w t) where
  pub given_alike : IsSimplex (arithmetic_of w) → IsGiven t.branch → IsGiven w.branch
  given_alike sound given = record {
    sound = sound;
    given = subst (λ fs. IsGivenBy fs (arithmetic_of w)) (sym before.formulas) (record {
      numbers = subst (All (IsNumberOf (logged t.branch)))
          (sym (ap number_terms before.branch.sharing.theory.numbers)) given.given.numbers;
      made = subst (All (IsSenseOf (logged t.branch))) (sym before.meanings) given.given.made;
    });
  }

  module _ (branch : IsBranch t.branch) where
    is_back : IsBackAt w.branch t.branch
    is_back = record {
      same = before.branch;
      more = [];
      log = before.formulas ∙ sym (append-nil (logged t.branch));
      closed = subst (All (λ (f : Formula). IsTrue (is_closed f))) (sym before.formulas)
          branch.closed;
    }

    pub branch_alike : BackIsBranch → IsGiven w.branch → IsBranch w.branch
    branch_alike back_branch given = back_branch w.branch t.branch is_back given branch

    live_alike : live_on w.branch ≡ live_on t.branch
    live_alike = ap₂ (λ fs ks. filter_map (slice_get fs) ks) before.formulas before.branch.live

    pub ready_alike : BackIsBranch → BackIsSound → IsGiven w.branch → (base : Base)
        → IsReady base t → IsReady base w
    ready_alike back_branch back_sound given base ready = record {
      log = before.log ∙ (ready.log
          ∙ ap (λ (facts : List Fact). take (length facts) (first_facts base)) (sym before.log));
      without_goal = subst (λ (facts : List Fact). length facts ≤ length base.background)
          (sym before.log) ready.without_goal;
      formulas = before.formulas ∙ (ready.formulas ∙ ap (formulas_of base) (sym before.log));
      live = before.branch.live ∙ (ready.live
          ∙ ap (λ (facts : List Fact). range_with_len 0 (length facts)) (sym before.log));
      sides = before.sides ∙ (ready.sides
          ∙ ap (λ (facts : List Fact). map (λ f. the_root) facts) (sym before.log));
      splits = before.splits ∙ ready.splits;
      under = before.under ∙ ready.under;
      branch = branch_alike back_branch given;
      given = given;
      sound = λ M all. back_sound w.branch t.branch is_back branch M
          (ready.sound M (subst (AllTrue (read_in M)) live_alike all));
      limit = before.branch.sharing.theory.limit ∙ (ready.limit
          ∙ ap (λ (limits : Limits). limits.pivots) (sym before.limits));
    }
      where
        the_root : Side
        the_root = None

-- ---- where rows are put and the log is cut

abbrev pub rewound_to : Search → Level → LiveBranch
rewound_to s level = rewind live_undo s.branch (drop level.mark s.trail.records)

pub cut_same : (u there : LiveBranch) (sharing : Sharing Simplex) (book : BookView) (n : ℕ)
    → u ≡ there → sharing ≡ record u.sharing { theory = sharing.theory }
    → SameTheory sharing.theory u.sharing.theory
    → book ≡ record u.book { logged = take n u.book.logged }
    → AreSame (record u { sharing = sharing; book = book }) there
cut_same u there sharing book n is rest theory cut =
    subst (AreSame (record u { sharing = sharing; book = book })) is (record {
      sharing = record {
        graph = ap (λ (x : Sharing Simplex). x.graph) rest;
        groups = ap (λ (x : Sharing Simplex). x.groups) rest;
        asserted = ap (λ (x : Sharing Simplex). x.asserted) rest;
        told = ap (λ (x : Sharing Simplex). x.told) rest;
        theory = theory;
      };
      clauses = refl;
      live = ap (λ (b : BookView). b.live) cut;
      pages = ap (λ (b : BookView). b.pages) cut;
      literals = refl;
      alloc = refl;
    })

-- the first search was taken back to the level and cut, and is the second now
pub record IsCut (s : Search) (level : Level) (w : Search) : Type 0 where
  pub same : AreSame w.branch (rewound_to s level)
  pub rows : (arithmetic_of w).tableau ≡ tabled level.rows
  pub made : (arithmetic_of w).made
      ≡ take (size (tabled level.rows)) (rewound_to s level).sharing.theory.made
  pub formulas : logged w.branch ≡ take level.formulas (logged (rewound_to s level))
  pub log : w.log ≡ take level.facts s.log
  pub sides : w.sides ≡ take level.sides s.sides
  pub splits : w.splits ≡ take level.splits s.splits
  pub under : w.under ≡ level.under
  pub records : w.trail.records ≡ take level.mark s.trail.records
  pub limits : w.limits ≡ s.limits

-- ---- the level

module _ (s t : Search) (level : Level) (begun : IsBegunAt level t) (back : GoesBackTo s t) where
  abbrev pub newest : List LiveRec
  newest = drop level.mark s.trail.records

  pub mark_within : level.mark ≤ length s.trail.records
  mark_within = front_within t.trail.records s.trail.records level.mark begun.mark
      (back.newest, back.records)

  newest_is : newest ≡ back.newest
  newest_is = ap (λ n. drop n s.trail.records) begun.mark
      ∙ (ap (drop (length t.trail.records)) back.records
      ∙ drop-append_seam t.trail.records back.newest)

  pub can_end : CanRewind live_undo s.branch newest
  can_end = subst (CanRewind live_undo s.branch) (sym newest_is) back.undoable

  abbrev there : LiveBranch
  there = rewound_to s level

  pub there_same : AreSame there t.branch
  there_same = subst (λ recs. AreSame (rewind live_undo s.branch recs) t.branch) (sym newest_is)
      back.same

  pub live_within : All (λ place. place < level.formulas) there.book.live
  live_within = subst (λ n. All (λ place. place < n) there.book.live) (sym begun.formulas)
      (subst (All (λ place. place < length (logged t.branch))) (sym there_same.live)
      begun.branch.book.within)

  module _ (rewound : RewoundIsGiven) (given : IsGiven s.branch) where
    leaves : LeavesLog s.branch there
    leaves = rewound s.branch newest can_end given

    pub there_simplex : IsSimplex there.sharing.theory
    there_simplex = leaves.given.sound

    more : HasMore (meanings_of t) (senses_in there.sharing.theory)
    more = subst (HasMore (meanings_of t)) (sym leaves.means) back.meanings

    pub there_fits : AreRowsFor there.sharing.theory level.rows
    there_fits = rows_still_fit there.sharing.theory (arithmetic_of t) there_simplex
        begun.given.sound there_same.sharing.theory more level.rows begun.fit

    pub formulas_within : level.formulas ≤ length (logged there)
    formulas_within = subst (λ (fs : List Formula). level.formulas ≤ length fs) (sym leaves.log)
        (front_within (logged t.branch) (logged s.branch) level.formulas begun.formulas
        back.formulas)

    formulas_taken : take level.formulas (logged there) ≡ logged t.branch
    formulas_taken = ap (take level.formulas) leaves.log
        ∙ front_taken (logged t.branch) (logged s.branch) level.formulas begun.formulas
        back.formulas

    pub ended : (w : Search) → IsCut s level w → IsAsBefore w t
    ended w cut = record {
      branch = live_lawful.transitive _ _ _ cut.same there_same;
      rows = cut.rows ∙ begun.rows;
      meanings = ap senses_of cut.made
          ∙ senses_back there.sharing.theory (arithmetic_of t) there_simplex
          begun.given.sound there_same.sharing.theory more level.rows begun.fit begun.rows;
      formulas = cut.formulas ∙ formulas_taken;
      log = cut.log ∙ front_taken t.log s.log level.facts begun.facts back.log;
      sides = cut.sides ∙ front_taken t.sides s.sides level.sides begun.sides back.sides;
      splits = cut.splits ∙ front_taken t.splits s.splits level.splits begun.splits back.splits;
      under = cut.under ∙ begun.under;
      records = cut.records ∙ front_taken t.trail.records s.trail.records level.mark begun.mark
          (back.newest, back.records);
      limits = cut.limits ∙ back.limits;
    }

pub back_at : (s : Search) (level : Level) (w : Search) → RewoundIsGiven → IsGiven s.branch
    → IsCut s level w → IsBackAtLevel level s w
back_at s level w rewound given cut = record {
  as_before = λ t begun back. ended s t level begun back rewound given w cut;
  older = λ t begun back u. back_alike w t u (ended s t level begun back rewound given w cut);
}
