-- An occurrence is decided, and then asserted.
use Rattle.std.proofs.Common.{◌≡◌, ◌⊎◌, inl, inr, ℕ, suc, ◌<◌, List, [], ◌∷◌, ◌++◌, length, refl, ap}
use Rattle.std.proofs.Common.{sym, subst, ◌∙◌, arith}
use Rattle.std.specs.Prelude.{Result, Ok, Err, OnOk, false}
use Rattle.std.specs.List.{All, AllPairs, Contains}
use Rattle.std.proofs.lemmas.List.Elements.{All-cons, All-contains, All-head, All-nil}
use Rattle.std.proofs.lemmas.List.Elements.{All-push, All-tail}
use Rattle.std.proofs.lemmas.List.Elements.{All-weaker, Contains-append_cases}
use Rattle.std.proofs.lemmas.List.{append-nil}
use Rattle.std.proofs.lemmas.List.Kept.{AllPairs-cons}
use Rattle.esc_term.specs.Model.{Model}
use Rattle.esc_term.proofs.Members.{Contains-cases, Contains-here, Contains-none}
use Rattle.esc_cover.specs.Laws.{HoldsIn}
use Rattle.esc_clause.specs.ClauseContext.{ClauseContext, left_in}
use Rattle.esc_clause.specs.Laws.{IsSo}
use Rattle.esc_clause.specs.Refinement.{is_same_place}
use Rattle.esc_clause.specs.declared.decision.Decision.{Decision}
use Rattle.esc_clause.specs.declared.occurrence.Occurrence.{Occurrence}
use Rattle.esc_book.specs.Book.{IsLiveOccurrence}
use Rattle.esc_egraph.specs.declared.state.State.{State}
use Rattle.esc_simplex.specs.View.{senses_in}
use Rattle.esc_simplex.specs.declared.stop.Stop.{Stop}
use Rattle.esc_sharing.proofs.Lists.{All-each}
use Rattle.esc_play.proofs.MoreBehind.{more_none}
use Rattle.esc_live.specs.Calls.{Ends, GoesOn, HoldsWithDecision, MeansMore}
use Rattle.esc_live.specs.Promises.{AreDecisions, IsBranch, IsGiven, IsMade, IsSharedOn, IsUndecided}
use Rattle.esc_live.specs.Promises.{WasExpanded, decided_as}
use Rattle.esc_live.specs.StandingInside.{AreSoIn, Asserts, IsStanding, Steps}
use Rattle.esc_live.specs.View.{logged}
use Rattle.esc_live.specs.declared.branch.LiveBranch.{LiveBranch}
use Rattle.esc_live.proofs.Ending.{ends_by}

module _ {X : Type 0} (R : X → X → Type 0) where
  pairs_push : (xs : List X) (x : X) → AllPairs R xs → All (λ y. R y x) xs
      → AllPairs R (xs ++ x ∷ [])
  pairs_push [] x pairs all = AllPairs-cons R x [] (All-nil (R x))
      (λ i j d before l. absurd (omega (arith, l)))
  pairs_push (y ∷ ys) x pairs all =
      AllPairs-cons R y (ys ++ x ∷ [])
      (All-push (R y) ys x (λ k d l. pairs 0 (suc k) d (omega arith) (omega (arith, l)))
      (All-head (λ z. R z x) y ys all))
      (pairs_push ys x (λ i j d before l. pairs (suc i) (suc j) d (omega (arith, before))
      (omega (arith, l))) (All-tail (λ z. R z x) y ys all))

pub standing_of : (v : LiveBranch) → IsBranch v → IsStanding v
standing_of v is = record {
  closed = is.closed;
  book = is.book;
  shared = is.shared;
  clauses = is.clauses;
}

module _ (v : LiveBranch) (is : IsBranch v) (given : IsGiven v) (d : Decision)
    (live : IsLiveOccurrence v.book d.at) (undecided : IsUndecided v d.at) where
  abbrev pub with_decision : LiveBranch
  with_decision = record v {
    clauses = record v.clauses { decisions = v.clauses.decisions ++ d ∷ [] };
  }

  shared_with : IsSharedOn with_decision
  shared_with = record {
    shared = is.shared.shared;
    play = is.shared.play;
    asserted = is.shared.asserted;
    asks = is.shared.asks;
    consistent = is.shared.consistent;
    literals_are = is.shared.literals_are;
    occur = is.shared.occur;
  }

  made_with : (c : List Occurrence) → IsMade v c → IsMade with_decision c
  made_with c made = record {
    part = made.part;
    live = made.live;
    whole = made.whole;
    made = made.made;
    test = made.test;
    left = made.left;
  }

  pub standing_with : IsStanding with_decision
  standing_with = record {
    closed = is.closed;
    book = is.book;
    shared = shared_with;
    clauses = All-weaker (IsMade v) (IsMade with_decision) made_with (left_in v.clauses) is.clauses;
  }

  pub given_with : IsGiven with_decision
  given_with = record { sound = given.sound; given = given.given }

  pub live_with : IsLiveOccurrence v.book (decided_as d)
  live_with = record { live = live.live; there = live.there }

  decisions_with : AreDecisions with_decision
  decisions_with = record {
    live = All-push (λ (e : Decision). IsLiveOccurrence v.book e.at) v.clauses.decisions d
        is.decisions.live live;
    differ = pairs_push (λ (a b : Decision). is_same_place a.at b.at ≡ false) v.clauses.decisions d
        is.decisions.differ undecided;
  }

  so_with : (M : Model) → HoldsWithDecision v d M → AreSoIn M with_decision (decided_as d ∷ [])
  so_with M so = record {
    branch = record {
      literals = so.0.literals;
      decisions = All-push (λ (e : Decision). IsSo (HoldsIn M) (logged v) (decided_as e))
          v.clauses.decisions d so.0.decisions so.1;
      clauses = so.0.clauses;
    };
    each = All-cons (IsSo (HoldsIn M) (logged v)) (decided_as d) [] so.1
        (All-nil (IsSo (HoldsIn M) (logged v)));
  }

  decided_with : (e : Decision) → Contains (v.clauses.decisions ++ d ∷ []) e
      → WasExpanded v (decided_as e) ⊎ Contains (decided_as d ∷ []) (decided_as e)
  decided_with e h = elim (Contains-append_cases v.clauses.decisions (d ∷ []) e h) [
    | inl old ↦ inl (All-contains (λ (x : Decision). WasExpanded v (decided_as x))
        v.clauses.decisions e is.decided old)
    | inr new ↦ elim (Contains-cases d [] e new) [
      | inl same ↦ inr (subst (λ x. Contains (decided_as d ∷ []) (decided_as x)) same
          (Contains-here (decided_as d) []))
      | inr none ↦ absurd (Contains-none e none)
    ]
  ]

  module _ (u w : LiveBranch) (is_with : u ≡ with_decision) (steps : Steps u w)
      (result : Result State Stop) where
    pub decide_ends : Asserts u w (decided_as d ∷ []) result
        → Ends w (HoldsWithDecision v d) result
    decide_ends ends =
        ends_by with_decision w (subst (λ x. Steps x w) is_with steps) (decided_as d ∷ [])
        (HoldsWithDecision v d) so_with decisions_with (λ place h. inl (is.facts place h))
        decided_with result (subst (λ x. Asserts x w (decided_as d ∷ []) result) is_with ends)

    pub decide_goes_on : GoesOn v w
    decide_goes_on = record {
      book = steps.book ∙ ap (λ (x : LiveBranch). x.book) is_with;
      literals = (
        steps.literals.0,
        steps.literals.1
            ∙ ap (λ (x : LiveBranch). x.literals ++ steps.literals.0) is_with,
      );
      decisions = (
        d ∷ [],
        steps.decisions
            ∙ ap (λ (x : LiveBranch). x.clauses.decisions) is_with,
      );
      means = subst (λ (x : LiveBranch). MeansMore x w) is_with steps.means;
      limit = steps.limit ∙ ap (λ (x : LiveBranch). x.sharing.theory.limit) is_with;
    }

    pub decide_decided : w.clauses.decisions ≡ v.clauses.decisions ++ d ∷ []
    decide_decided = steps.decisions ∙ ap (λ (x : LiveBranch). x.clauses.decisions) is_with

pub on_ok : {X E P : Type 0} (r : Result X E) → P → OnOk r P
on_ok (Ok x) h = h
on_ok (Err e) h = tt

pub goes_nowhere : (v w : LiveBranch) → w ≡ v → GoesOn v w
goes_nowhere v w same = record {
  book = ap (λ (x : LiveBranch). x.book) same;
  literals = ([], ap (λ (x : LiveBranch). x.literals) same ∙ sym (append-nil v.literals));
  decisions = (
    [],
    ap (λ (x : LiveBranch). x.clauses.decisions) same
        ∙ sym (append-nil v.clauses.decisions),
  );
  means = more_none (senses_in v.sharing.theory) (senses_in w.sharing.theory)
      (ap (λ (x : LiveBranch). senses_in x.sharing.theory) same);
  limit = ap (λ (x : LiveBranch). x.sharing.theory.limit) same;
}
