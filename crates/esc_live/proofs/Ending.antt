-- What was asserted on a branch on which all but this was expanded.
use Rattle.std.proofs.Common.{◌≡◌, ◌⊎◌, inl, inr, ℕ, List, [], ◌∷◌, ◌++◌, refl, ap, sym, subst, ◌∙◌}
use Rattle.std.specs.Prelude.{Result, Ok, Err, false}
use Rattle.std.specs.List.{All, AllPairs, Contains}
use Rattle.std.proofs.lemmas.List.Elements.{All-contains}
use Rattle.esc_term.specs.Model.{Model}
use Rattle.esc_clause.specs.Refinement.{is_same_place}
use Rattle.esc_clause.specs.declared.decision.Decision.{Decision}
use Rattle.esc_clause.specs.declared.occurrence.Occurrence.{Occurrence}
use Rattle.esc_book.specs.Book.{BookView, IsLiveOccurrence}
use Rattle.esc_egraph.specs.declared.state.State.{State}
use Rattle.esc_egraph.specs.declared.state.State.TheVariants.{Open, Closed}
use Rattle.esc_simplex.specs.declared.stop.Stop.{Stop}
use Rattle.esc_simplex.specs.declared.stop.Stop.TheVariants as stop
use Rattle.esc_sharing.proofs.Lists.{All-each}
use Rattle.esc_live.specs.Calls.{Ends}
use Rattle.esc_live.specs.Promises.{AreDecisions, IsBranch, WasExpanded, decided_as, whole_at}
use Rattle.esc_live.specs.StandingInside.{AreSoIn, Asserts, Reaches, Steps}
use Rattle.esc_live.specs.declared.branch.LiveBranch.{LiveBranch}

module _ (u w : LiveBranch) (steps : Steps u w) (ats : List Occurrence) (So : Model → Type 0)
    (so : (M : Model) → So M → AreSoIn M u ats) (decisions : AreDecisions u)
    (facts : (place : ℕ) → Contains u.book.live place
    → WasExpanded u (whole_at place) ⊎ Contains ats (whole_at place))
    (decided : (d : Decision) → Contains u.clauses.decisions d
    → WasExpanded u (decided_as d) ⊎ Contains ats (decided_as d)) where
  decisions_after : AreDecisions w
  decisions_after = record {
    live = subst (All (λ d. IsLiveOccurrence w.book d.at)) (sym steps.decisions)
        (subst (λ (b : BookView). All (λ (d : Decision). IsLiveOccurrence b d.at)
        u.clauses.decisions) (sym steps.book) decisions.live);
    differ = subst (AllPairs (λ (a b : Decision). is_same_place a.at b.at ≡ false))
        (sym steps.decisions) decisions.differ;
  }

  module _ (reaches : Reaches u w ats) where
    after : (at : Occurrence) → WasExpanded u at ⊎ Contains ats at → WasExpanded w at
    after at (inl before) = reaches.stays at before
    after at (inr among) = All-contains (WasExpanded w) ats at reaches.expanded among

    branch_after : IsBranch w
    branch_after = record {
      closed = reaches.standing.closed;
      book = reaches.standing.book;
      shared = reaches.standing.shared;
      clauses = reaches.standing.clauses;
      decisions = decisions_after;
      facts = λ place h. after (whole_at place)
          (facts place (subst (λ (b : BookView). Contains b.live place) steps.book h));
      decided = All-each (λ d. WasExpanded w (decided_as d)) w.clauses.decisions
          (λ d h. after (decided_as d)
          (decided d (subst (λ ds. Contains ds d) steps.decisions h)));
    }

  pub ends_by : (result : Result State Stop) → Asserts u w ats result → Ends w So result
  ends_by (Ok Open) reaches = (branch_after reaches, λ M h. reaches.sound M (so M h))
  ends_by (Ok Closed) none = λ M h. none M (so M h)
  ends_by (Err stop.Memory) h = tt
  ends_by (Err (stop.Spill j)) stops = (stops.stopped, λ M h. stops.sound M (so M h))
  ends_by (Err (stop.Form t)) stops = (stops.stopped, λ M h. stops.sound M (so M h))
  ends_by (Err (stop.Pivots j)) stops = (stops.stopped, λ M h. stops.sound M (so M h))
