-- Rounds of thinning the clauses and deciding what is left alone.
use Rattle.std.proofs.Common.{◌≡◌, ℕ, ◌+◌, ◌-◌, ◌<◌, ◌≤◌, true, false, List, [], ◌∷◌, ◌++◌, length}
use Rattle.std.proofs.Common.{map, Result, Ok, Err, refl, ap, sym, subst, ◌∙◌, append_assoc, arith}
use Rattle.std.proofs.Common.{length-append}
use Rattle.std.proofs.lemmas.List.{append-nil, length-map}
use Rattle.std.proofs.lemmas.List.Elements.{All-map, All-weaker}
use Rattle.esc_term.specs.Model.{Model}
use Rattle.esc_trail.specs.Undo.{Notes}
use Rattle.esc_trail.proofs.Noting.{notes_both, notes_nothing}
use Rattle.esc_egraph.specs.declared.state.State.{State}
use Rattle.esc_egraph.specs.declared.state.State.TheVariants.{Open, Closed}
use Rattle.esc_simplex.specs.View.{senses_in}
use Rattle.esc_simplex.specs.declared.stop.Stop.{Stop}
use Rattle.esc_simplex.specs.declared.stop.Stop.TheVariants as stop
use Rattle.esc_outcome.specs.Tree.{IsOccurrence}
use Rattle.esc_outcome.specs.TreeLaws.{occurrences_in}
use Rattle.esc_outcome.proofs.Counting.{AllPairs-map, different_few}
use Rattle.esc_play.proofs.MoreBehind.{more_both, more_none}
use Rattle.esc_book.specs.Book.{IsLiveOccurrence}
use Rattle.esc_clause.specs.ClauseContext.{ClauseContext}
use Rattle.esc_clause.specs.Refinement.{is_same_place}
use Rattle.esc_clause.specs.declared.decision.Decision.{Decision}
use Rattle.esc_clause.specs.declared.occurrence.Occurrence.{Occurrence}
use Rattle.esc_clause.specs.declared.truth.Refined.{Refined}
use Rattle.esc_clause.specs.declared.truth.Refined.TheVariants.{Empty, Unit}
use Rattle.esc_live.specs.Calls.{Ends, GoesOn, HoldsWithDecision}
use Rattle.esc_live.specs.LiveUndo.{live_lawful, live_undo}
use Rattle.esc_live.specs.Promises.{IsBranch, IsGiven, IsSoundIn}
use Rattle.esc_live.specs.View.{logged}
use Rattle.esc_live.specs.declared.branch.LiveBranch.{LiveBranch}
use Rattle.esc_live.specs.declared.record.LiveRec.{LiveRec}
use Rattle.esc_refine.specs.RoundsInside.{Goes, Round, Stands}
use Rattle.esc_refine.specs.ThinningInside.{IsThinner, Tells, with_clauses}

-- ---- what stays

GoesOn-none : (v : LiveBranch) → GoesOn v v
GoesOn-none v = record {
  book = refl;
  literals = ([], sym (append-nil v.literals));
  decisions = ([], sym (append-nil v.clauses.decisions));
  means = more_none (senses_in v.sharing.theory) (senses_in v.sharing.theory) refl;
  limit = refl;
}

more_behind : {X : Type 0} (xs ys zs more further : List X) → ys ≡ xs ++ more
    → zs ≡ ys ++ further → zs ≡ xs ++ (more ++ further)
more_behind xs ys zs more further e f =
    f ∙ (ap (λ l. l ++ further) e ∙ append_assoc xs more further)

GoesOn-then : (u v w : LiveBranch) → GoesOn u v → GoesOn v w → GoesOn u w
GoesOn-then u v w a b = record {
  book = b.book ∙ a.book;
  literals = (
    a.literals.0 ++ b.literals.0,
    more_behind u.literals v.literals w.literals a.literals.0 b.literals.0 a.literals.1
        b.literals.1,
  );
  decisions = (
    a.decisions.0 ++ b.decisions.0,
    more_behind u.clauses.decisions v.clauses.decisions w.clauses.decisions a.decisions.0
        b.decisions.0 a.decisions.1 b.decisions.1,
  );
  means = more_both (senses_in u.sharing.theory) (senses_in v.sharing.theory)
      (senses_in w.sharing.theory) a.means b.means;
  limit = b.limit ∙ a.limit;
}

GoesOn-with_clauses : (v : LiveBranch) (clauses : ClauseContext)
    → clauses.decisions ≡ v.clauses.decisions → GoesOn v (with_clauses v clauses)
GoesOn-with_clauses v clauses same = record {
  book = refl;
  literals = ([], sym (append-nil v.literals));
  decisions = ([], same ∙ sym (append-nil v.clauses.decisions));
  means = more_none (senses_in v.sharing.theory) (senses_in v.sharing.theory) refl;
  limit = refl;
}

GoesOn-thinner : (v w : LiveBranch) → IsThinner v w → GoesOn v w
GoesOn-thinner v w thinner =
    subst (GoesOn v) (sym thinner.is) (GoesOn-with_clauses v thinner.clauses thinner.decisions)

given-with_clauses : (v : LiveBranch) (clauses : ClauseContext) → IsGiven v
    → IsGiven (with_clauses v clauses)
given-with_clauses v clauses is = record { sound = is.sound; given = is.given }

given-thinner : (v w : LiveBranch) → IsThinner v w → IsGiven v → IsGiven w
given-thinner v w thinner is =
    subst IsGiven (sym thinner.is) (given-with_clauses v thinner.clauses is)

-- ---- rounds

module _ (before : List LiveRec) (entry : LiveBranch) where
  pub Round-starts : (after : List LiveRec) → after ≡ before → IsBranch entry → IsGiven entry
      → Round before entry after entry
  Round-starts after kept branch given = record {
    goes = record {
      goes_on = GoesOn-none entry;
      given = given;
      undo = notes_nothing live_undo (λ rec. rec) before after entry entry kept
          (live_lawful.reflexive entry);
    };
    stands = record { branch = branch; sound = λ M so. so };
  }

  pub Goes-then : (middle last : List LiveRec) (now new : LiveBranch)
      → Goes before entry middle now → GoesOn now new → IsGiven new
      → Notes live_undo (λ rec. rec) middle last now new → Goes before entry last new
  Goes-then middle last now new goes on given undo = record {
    goes_on = GoesOn-then entry now new goes.goes_on on;
    given = given;
    undo = notes_both live_undo live_lawful (λ rec. rec) before middle last entry now new
        goes.undo undo;
  }

  pub Goes-thinned : (middle last : List LiveRec) (now new : LiveBranch)
      → Goes before entry middle now → IsThinner now new
      → Notes live_undo (λ rec. rec) middle last now new → Goes before entry last new
  Goes-thinned middle last now new goes thinner undo =
      Goes-then middle last now new goes (GoesOn-thinner now new thinner)
      (given-thinner now new thinner goes.given) undo

  pub Stands-thinned : (now new : LiveBranch) (told : Refined) → Stands entry now
      → IsBranch new → Tells now new told → Stands entry new
  Stands-thinned now new told stands branch tells = record {
    branch = branch;
    sound = λ M so. tells.sound M (stands.sound M so);
  }

  pub thin_closed : (now new : LiveBranch) → Stands entry now → Tells now new Empty
      → (M : Model) → IsSoundIn M entry → ⊥
  thin_closed now new stands tells M so = tells.comes M (stands.sound M so)

  -- ---- a decision

  ends_weaker : (w : LiveBranch) (So Under : Model → Type 0) → ((M : Model) → Under M → So M)
      → (result : Result State Stop) → Ends w So result → Ends w Under result
  ends_weaker w So Under under (Ok Open) ends = (ends.0, λ M so. ends.1 M (under M so))
  ends_weaker w So Under under (Ok Closed) ends = λ M so. ends M (under M so)
  ends_weaker w So Under under (Err (stop.Spill jammed)) ends =
      (ends.0, λ M so. ends.1 M (under M so))
  ends_weaker w So Under under (Err (stop.Form term)) ends =
      (ends.0, λ M so. ends.1 M (under M so))
  ends_weaker w So Under under (Err (stop.Pivots jammed)) ends =
      (ends.0, λ M so. ends.1 M (under M so))
  ends_weaker w So Under under (Err stop.Memory) ends = tt

  abbrev as_told : Occurrence → Decision
  as_told at = record { at = at; holds = true }

  pub decided_ends : (now new newer : LiveBranch) (at : Occurrence) (result : Result State Stop)
      → Stands entry now → Tells now new (Unit at)
      → Ends newer (HoldsWithDecision new (as_told at)) result
      → Ends newer (λ M. IsSoundIn M entry) result
  decided_ends now new newer at result stands tells ends =
      ends_weaker newer (HoldsWithDecision new (as_told at)) (λ M. IsSoundIn M entry)
      (λ M so. (
        tells.sound M (stands.sound M so),
        tells.comes.so M (stands.sound M so),
      )) result ends

  pub Stands-decided : (now new newer : LiveBranch) (at : Occurrence)
      → Stands entry now → Tells now new (Unit at)
      → Ends newer (HoldsWithDecision new (as_told at)) (Ok Open) → Stands entry newer
  Stands-decided now new newer at stands tells ends =
      let both = decided_ends now new newer at (Ok Open) stands tells ends in
      record { branch = both.0; sound = both.1 }

-- ---- rounds end

no_decision : Decision
no_decision = record { at = record { fact = 0; place = 0; positive = true }; holds = true }

-- there are no more decisions than occurrences
pub few_decisions : (v : LiveBranch) → IsBranch v
    → length v.clauses.decisions ≤ occurrences_in (logged v)
few_decisions v is =
    let ds = v.clauses.decisions in
    let few =
    different_few (logged v) (map (λ (d : Decision). d.at) ds)
    (AllPairs-map (λ (d : Decision). d.at) (λ (d : Decision). IsLiveOccurrence v.book d.at)
    (λ (a b : Decision). is_same_place a.at b.at ≡ false)
    (λ (a b : Occurrence). is_same_place a b ≡ false) (λ a b la lb apart. apart) no_decision ds
    is.decisions.live is.decisions.differ)
    (All-map (IsOccurrence (logged v)) (λ (d : Decision). d.at) ds
    (All-weaker (λ (d : Decision). IsLiveOccurrence v.book d.at)
    (λ (d : Decision). IsOccurrence (logged v) d.at) (λ d live. live.there) ds
    is.decisions.live)) in
    omega (arith, few, length-map ds (λ (d : Decision). d.at))

-- how many more decisions there may be
abbrev pub decisions_left : LiveBranch → ℕ
decisions_left v = occurrences_in (logged v) - length v.clauses.decisions

pub fewer_left : (now new newer : LiveBranch) (d : Decision) → IsThinner now new
    → IsBranch newer → GoesOn new newer
    → newer.clauses.decisions ≡ new.clauses.decisions ++ d ∷ []
    → decisions_left newer < decisions_left now
fewer_left now new newer d thinner is on decided =
    let few = few_decisions newer is in
    let thin = GoesOn-thinner now new thinner in
    let same : occurrences_in (logged newer) ≡ occurrences_in (logged now) =
    ap (λ (b : _). occurrences_in b.logged) (on.book ∙ thin.book) in
    let kept : new.clauses.decisions ≡ now.clauses.decisions =
    ap (λ (v : LiveBranch). v.clauses.decisions) thinner.is ∙ thinner.decisions in
    let more : length newer.clauses.decisions ≡ length now.clauses.decisions + 1 =
    ap length decided ∙ (length-append new.clauses.decisions (d ∷ [])
    ∙ ap (λ n. n + 1) (ap length kept)) in
    omega (arith, few, same, more)
