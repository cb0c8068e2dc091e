-- A branch is back at one that promises all, with more formulas in its log: it promises all.
use Rattle.std.proofs.Common.{◌≡◌, ℕ, ◌<◌, Bool, List, [], ◌∷◌, ◌++◌, Option, Some, None, length}
use Rattle.std.proofs.Common.{refl, ap, ap₂, sym, subst, ◌∙◌, Any, arith, length-append}
use Rattle.std.specs.Prelude.{◌↔◌, IsTrue, slice_get}
use Rattle.std.specs.List.{All, Contains, flat_map}
use Rattle.std.specs.Option.{IsSome}
use Rattle.std.proofs.lemmas.List.Elements.{All-contains, All-weaker}
use Rattle.esc_term.specs.declared.formula.Formula.{Formula}
use Rattle.esc_term.specs.declared.formula.Item.{Item}
use Rattle.esc_term.specs.Formula.{is_closed}
use Rattle.esc_term.specs.Model.{Model}
use Rattle.esc_cover.specs.Arithmetic.{play_of}
use Rattle.esc_cover.specs.Assignment.{Assignment, asked}
use Rattle.esc_cover.specs.Counterexample.{AreLiteralsOf, IsConsistent}
use Rattle.esc_cover.specs.Laws.{HoldsIn}
use Rattle.esc_cover.specs.Least.{IsLeast}
use Rattle.esc_clause.specs.ClauseContext.{ClauseContext, left_in}
use Rattle.esc_clause.specs.Laws.{IsSo}
use Rattle.esc_clause.specs.Occurrences.{formula_at, item_at}
use Rattle.esc_clause.specs.declared.decision.Decision.{Decision}
use Rattle.esc_clause.specs.declared.occurrence.Occurrence.{Occurrence}
use Rattle.esc_book.specs.Book.{BookView, IsBook, IsLiveOccurrence, Page}
use Rattle.esc_simplex.specs.SimplexLaws.{same_allows, simplex_lawful}
use Rattle.esc_simplex.specs.View.{Allows, IsSimplex, numbers_in}
use Rattle.esc_simplex.specs.declared.simplex.Simplex.{Simplex}
use Rattle.esc_sharing.specs.Admitted.{AgreesOn, AreTwoNumbers}
use Rattle.esc_sharing.specs.Literals.{AreSides}
use Rattle.esc_sharing.specs.Nodes.{classes_in}
use Rattle.esc_sharing.specs.Numbers.{AreNumbersOf, number_terms}
use Rattle.esc_sharing.specs.Shared.{AreToldIn, IsShared, literals_in, play_in}
use Rattle.esc_sharing.specs.Unquantified.{IsSamePlay}
use Rattle.esc_sharing.specs.declared.sharing.Sharing.{Sharing}
use Rattle.esc_sharing.proofs.Lists.{All-each}
use Rattle.esc_outcome.specs.JamLaws.{shared_in}
use Rattle.esc_outcome.proofs.Paths.{slice_get_append_left}
use Rattle.esc_live.specs.Expanded.{IsExpanded}
use Rattle.esc_live.specs.Laws.{BackIsBranch, BackIsSound, IsBackAt}
use Rattle.esc_live.specs.LiveUndo.{shared_undo}
use Rattle.esc_live.specs.Promises.{AreDecisions, IsBranch, IsGiven, IsMade, IsSharedOn, IsSoundIn}
use Rattle.esc_live.specs.Promises.{WasExpanded, decided_as, whole_at}
use Rattle.esc_live.specs.View.{classes_on, literals_on, live_on, logged}
use Rattle.esc_live.specs.declared.branch.LiveBranch.{LiveBranch}
use Rattle.esc_live.proofs.FactLive.{whole_there}
use Rattle.esc_live.proofs.LiveAtoms.{got_there}
use Rattle.esc_live.proofs.LogGrows.{get_within}
use Rattle.esc_live.proofs.LogGrows.{any_grows, clauses_same, expanded_grows, filter_map-alike}
use Rattle.esc_live.proofs.LogGrows.{get_grows, get_shrinks, item_same, so_grows, there_grows}

-- ---- a sharing that agrees in what is restored

abbrev like : Sharing Simplex → Sharing Simplex → Sharing Simplex
like s t = record t { theory = s.theory; alloc = s.alloc }

module _ (s t : Sharing Simplex) (same : shared_undo.same s t) (sound : IsSimplex s.theory)
    (is : IsShared (shared_in t)) where
  numbers_are : numbers_in s.theory ≡ numbers_in t.theory
  numbers_are = same.theory.numbers

  forth : (x : Assignment) → Allows s.theory x → Allows t.theory x
  forth = same_allows s.theory t.theory same.theory

  back : (x : Assignment) → Allows t.theory x → Allows s.theory x
  back = same_allows t.theory s.theory (simplex_lawful.symmetric s.theory t.theory same.theory)

  shared_like : IsShared (shared_in (like s t))
  shared_like = record {
    parts = record {
      sound = sound;
      graph = is.parts.graph;
      met = is.parts.met;
      sides = subst (λ ns. All (AreSides t.graph ns) t.asserted) (sym numbers_are) is.parts.sides;
      equations = is.parts.equations;
      forbidden = is.parts.forbidden;
      members = is.parts.members;
      unbroken = is.parts.unbroken;
      numbers = subst (AreNumbersOf t.graph) (sym numbers_are) is.parts.numbers;
      told = subst (λ ns. All (AreToldIn t.graph ns) t.told) (sym numbers_are) is.parts.told;
    };
    least = subst (λ ns. IsLeast (literals_in (shared_in t))
        (record (play_in (shared_in t)) { numbers = number_terms ns }) (classes_in t.graph))
        (sym numbers_are) is.least;
    consistent = is.consistent;
    exact = λ x. (λ h. (is.exact x).0 (forth x h), λ h. back x ((is.exact x).1 h));
    some = (is.some.0, back is.some.0 is.some.1);
    agree = record {
      one_value = λ x h. subst (λ ns. AgreesOn t.graph ns x) (sym numbers_are)
          (is.agree.one_value x (forth x h));
      parted = λ a b two.
          let found = is.agree.parted a b (subst (λ ns. AreTwoNumbers t.graph ns a b) numbers_are
          two) in
          (found.0, back found.0 found.1, found.2);
    };
  }

-- ---- the branch

module _ (w : LiveBranch) (is : IsBranch w) (more : List Formula) (s : Sharing Simplex) where
  abbrev pub longer : BookView
  longer = record w.book { logged = w.book.logged ++ more }

  abbrev pub grown : LiveBranch
  grown = record w { sharing = like s w.sharing; book = longer }

  still_live : (at : Occurrence) → IsLiveOccurrence w.book at → IsLiveOccurrence longer at
  still_live at live =
      record { live = live.live; there = there_grows (logged w) more at live.there }

  literals_same : literals_on grown ≡ literals_on w
  literals_same = filter_map-alike (IsLiveOccurrence w.book) (item_at (logged w ++ more))
      (item_at (logged w)) (λ at live. item_same (logged w) more at live.there) w.literals
      is.shared.occur

  live_same : live_on grown ≡ live_on w
  live_same = filter_map-alike (λ place. place < length (logged w)) (slice_get (logged w ++ more))
      (slice_get (logged w)) (λ place l. got_same place l) w.book.live is.book.within
    where
      got_same : (place : ℕ) → place < length (logged w)
          → slice_get (logged w ++ more) place ≡ slice_get (logged w) place
      got_same place l = slice_get_append_left (logged w) more place l

  book_longer : IsBook w.sharing.graph longer
  book_longer = record {
    within = All-weaker (λ place. place < length (logged w))
        (λ place. place < length (logged w ++ more))
        (λ place l. omega (arith, l, length-append (logged w) more)) w.book.live is.book.within;
    once = is.book.once;
    as_many = is.book.as_many;
    written = λ i place f page live there written.
        is.book.written i place f page live (get_shrinks (logged w) more place f
        (All-contains (λ p. p < length (logged w)) w.book.live place is.book.within
        (got_there w.book.live i place live)) there) written;
  }

  pub sound_grown : (M : Model) → IsSoundIn M w → IsSoundIn M grown
  sound_grown M so = record {
    literals = subst (All (HoldsIn M)) (sym literals_same) so.literals;
    decisions = All-weaker (λ (d : Decision). IsSo (HoldsIn M) (logged w) (decided_as d))
        (λ d. IsSo (HoldsIn M) (logged w ++ more) (decided_as d))
        (λ d h. so_grows (logged w) more (HoldsIn M) (decided_as d) h) w.clauses.decisions
        so.decisions;
    clauses = All-weaker (Any (IsSo (HoldsIn M) (logged w)))
        (Any (IsSo (HoldsIn M) (logged w ++ more)))
        (λ c h. any_grows (logged w) more (HoldsIn M) c h) (left_in w.clauses) so.clauses;
  }

  module _ (same : shared_undo.same s w.sharing) (sound : IsSimplex s.theory) where
    shared_grown : IsSharedOn grown
    shared_grown = record {
      shared = shared_like s w.sharing same sound is.shared.shared;
      play = subst (λ fs. IsSamePlay (play_in (shared_in (like s w.sharing))) (play_of fs))
          (sym live_same)
          (subst (λ ns. IsSamePlay (record (play_in (shared_in w.sharing)) {
            numbers = number_terms ns;
          }) (play_of (live_on w))) (sym same.theory.numbers) is.shared.play);
      asserted = λ item plain. subst (λ ls. Contains (literals_in (shared_in w.sharing)) item
          ↔ Contains ls item) (sym literals_same) (is.shared.asserted item plain);
      asks = ap (flat_map asked) literals_same ∙ is.shared.asks;
      consistent = subst (λ ls. IsConsistent ls (classes_on w)) (sym literals_same)
          is.shared.consistent;
      literals_are = subst (λ fs. AreLiteralsOf fs (literals_on grown)) (sym live_same)
          (subst (AreLiteralsOf (live_on w)) (sym literals_same) is.shared.literals_are);
      occur = All-weaker (IsLiveOccurrence w.book) (IsLiveOccurrence longer) still_live w.literals
          is.shared.occur;
    }

    made_grown : (c : List Occurrence) → IsMade w c → IsMade grown c
    made_grown c made = record {
      part = made.part;
      live = still_live made.part made.live;
      whole = made.whole;
      made = subst (λ cs. Contains cs made.whole)
          (sym (clauses_same (logged w) more made.part made.live.there)) made.made;
      test = made.test;
      left = made.left;
    }

    expanded_grown : (at : Occurrence) → IsSome (formula_at (logged w) at) → WasExpanded w at
        → WasExpanded grown at
    expanded_grown at there h =
        subst (λ ls. IsExpanded (logged w ++ more) ls (classes_on w) (left_in w.clauses) at)
        (sym literals_same)
        (expanded_grows (logged w) more (literals_on w) (classes_on w) (left_in w.clauses) at there h)

    whole_is : (place : ℕ) → Contains w.book.live place
        → IsSome (formula_at (logged w) (whole_at place))
    whole_is place h =
        let found = get_within (logged w) place (All-contains (λ p. p < length (logged w))
        w.book.live place is.book.within h) in
        subst IsSome (sym (whole_there (logged w) place found.0 found.1)) refl

    decided_is : (d : Decision) → Contains w.clauses.decisions d
        → IsSome (formula_at (logged w) (decided_as d))
    decided_is d h = (All-contains (λ (e : Decision). IsLiveOccurrence w.book e.at)
        w.clauses.decisions d is.decisions.live h).there

    pub branch_grown : All (λ f. IsTrue (is_closed f)) (logged w ++ more) → IsBranch grown
    branch_grown closed = record {
      closed = closed;
      book = book_longer;
      shared = shared_grown;
      clauses = All-weaker (IsMade w) (IsMade grown) made_grown (left_in w.clauses) is.clauses;
      decisions = record {
        live = All-weaker (λ (d : Decision). IsLiveOccurrence w.book d.at)
            (λ d. IsLiveOccurrence longer d.at) (λ d h. still_live d.at h) w.clauses.decisions
            is.decisions.live;
        differ = is.decisions.differ;
      };
      facts = λ place h. expanded_grown (whole_at place) (whole_is place h) (is.facts place h);
      decided = All-each (λ d. WasExpanded grown (decided_as d)) w.clauses.decisions
          (λ d h. expanded_grown (decided_as d) (decided_is d h)
          (All-contains (λ (e : Decision). WasExpanded w (decided_as e)) w.clauses.decisions d
          is.decided h));
    }

-- ---- any branch that is back is such

module _ (v w : LiveBranch) (at : IsBackAt v w) where
  sharing_is : v.sharing ≡ like v.sharing w.sharing
  sharing_is =
      let s = v.sharing in
      let t = w.sharing in
      ap (λ g. let x : Sharing Simplex = record s { graph = g } in x) at.same.sharing.graph
      ∙ (ap (λ gs. let x : Sharing Simplex = record s { graph = t.graph; groups = gs } in x)
      at.same.sharing.groups
      ∙ (ap (λ ls. let x : Sharing Simplex = record s {
        graph = t.graph;
        groups = t.groups;
        asserted = ls;
      } in x) at.same.sharing.asserted
      ∙ ap (λ ps. let x : Sharing Simplex = record s {
        graph = t.graph;
        groups = t.groups;
        asserted = t.asserted;
        told = ps;
      } in x) at.same.sharing.told))

  book_is : v.book ≡ record w.book { logged = w.book.logged ++ at.more }
  book_is =
      ap (λ fs. let x : BookView = record v.book { logged = fs } in x) at.log
      ∙ (ap (λ ls. let x : BookView = record v.book {
        logged = w.book.logged ++ at.more;
        live = ls;
      } in x) at.same.live
      ∙ ap (λ ps. let x : BookView = record {
        logged = w.book.logged ++ at.more;
        live = w.book.live;
        pages = ps;
      } in x) at.same.pages)

  branch_is : v ≡ record w {
    sharing = like v.sharing w.sharing;
    book = record w.book { logged = w.book.logged ++ at.more };
  }
  branch_is =
      ap (λ s. let x : LiveBranch = record v { sharing = s } in x) sharing_is
      ∙ (ap (λ b. let x : LiveBranch = record v {
        sharing = like v.sharing w.sharing;
        book = b;
      } in x) book_is
      ∙ (ap (λ c. let x : LiveBranch = record v {
        sharing = like v.sharing w.sharing;
        book = record w.book { logged = w.book.logged ++ at.more };
        clauses = c;
      } in x) at.same.clauses
      ∙ (ap (λ ls. let x : LiveBranch = record v {
        sharing = like v.sharing w.sharing;
        book = record w.book { logged = w.book.logged ++ at.more };
        clauses = w.clauses;
        literals = ls;
      } in x) at.same.literals
      ∙ ap (λ al. let x : LiveBranch = record v {
        sharing = like v.sharing w.sharing;
        book = record w.book { logged = w.book.logged ++ at.more };
        clauses = w.clauses;
        literals = w.literals;
        alloc = al;
      } in x) at.same.alloc)))

pub back_is_branch : BackIsBranch
back_is_branch v w at given is =
    subst IsBranch (sym (branch_is v w at))
    (branch_grown w is at.more v.sharing at.same.sharing given.sound
    (subst (All (λ f. IsTrue (is_closed f))) at.log at.closed))

pub back_is_sound : BackIsSound
back_is_sound v w at is M so =
    subst (IsSoundIn M) (sym (branch_is v w at))
    (sound_grown w is at.more v.sharing M so)
