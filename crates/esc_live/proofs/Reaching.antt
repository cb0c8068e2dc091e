-- Occurrences are asserted one after another.
use Rattle.std.proofs.Common.{◌≡◌, ℕ, ◌+◌, ◌<◌, ◌≤◌, List, [], ◌∷◌, ◌++◌, length, take, drop, get_or}
use Rattle.std.proofs.Common.{refl, ap, sym, subst, ◌∙◌, append_assoc}
use Rattle.std.specs.Prelude.{Ok, Err}
use Rattle.std.specs.List.{All}
use Rattle.std.proofs.lemmas.List.{append-nil, take_all, take_more, take-append-drop}
use Rattle.std.proofs.lemmas.List.Elements.{All-append, All-nil, All-take, All-weaker}
use Rattle.esc_term.specs.declared.formula.Formula.{Formula}
use Rattle.esc_term.specs.Model.{Model}
use Rattle.esc_cover.specs.Laws.{HoldsIn}
use Rattle.esc_clause.specs.Laws.{IsSo}
use Rattle.esc_clause.specs.declared.occurrence.Occurrence.{Occurrence}
use Rattle.esc_book.specs.Book.{BookView, IsLiveOccurrence}
use Rattle.esc_egraph.specs.declared.state.State.{State}
use Rattle.esc_egraph.specs.declared.state.State.TheVariants.{Open, Closed}
use Rattle.esc_simplex.specs.declared.stop.Stop.{Stop}
use Rattle.esc_simplex.specs.declared.stop.Stop.TheVariants as stop
use Rattle.esc_sharing.proofs.Lists.{All-append_left, All-append_right}
use Rattle.esc_live.specs.Promises.{IsGiven, WasExpanded}
use Rattle.esc_play.proofs.MoreBehind.{more_both, more_none}
use Rattle.esc_simplex.specs.View.{senses_in}
use Rattle.esc_live.specs.StandingInside.{AreSoIn, Asserts, IsStanding, Reaches, Steps}
use Rattle.esc_live.specs.StandingInside.{StopsAsserting}
use Rattle.esc_live.specs.View.{logged}
use Rattle.esc_live.specs.declared.branch.LiveBranch.{LiveBranch}

-- ---- steps

pub steps_nothing : (v : LiveBranch) → IsGiven v → Steps v v
steps_nothing v given = record {
  book = refl;
  literals = ([], sym (append-nil v.literals));
  decisions = refl;
  given = given;
  means = more_none (senses_in v.sharing.theory) (senses_in v.sharing.theory) refl;
  limit = refl;
}

pub steps_same : (v w : LiveBranch) → IsGiven v → w ≡ v → Steps v w
steps_same v w given is = subst (Steps v) (sym is) (steps_nothing v given)

pub steps_both : (u v w : LiveBranch) → Steps u v → Steps v w → Steps u w
steps_both u v w a b = record {
  book = b.book ∙ a.book;
  literals = (
    a.literals.0 ++ b.literals.0,
    b.literals.1
        ∙ (ap (λ (ls : List Occurrence). ls ++ b.literals.0) a.literals.1
        ∙ append_assoc u.literals a.literals.0 b.literals.0),
  );
  decisions = b.decisions ∙ a.decisions;
  given = b.given;
  means = more_both (senses_in u.sharing.theory) (senses_in v.sharing.theory)
      (senses_in w.sharing.theory) a.means b.means;
  limit = b.limit ∙ a.limit;
}

pub live_after : (v u : LiveBranch) (at : Occurrence) → Steps v u → IsLiveOccurrence v.book at
    → IsLiveOccurrence u.book at
live_after v u at steps = subst (λ (b : BookView). IsLiveOccurrence b at) (sym steps.book)

-- ---- nothing was asserted

pub reaches_nothing : (v : LiveBranch) → IsStanding v → Reaches v v []
reaches_nothing v standing = record {
  standing = standing;
  expanded = All-nil (WasExpanded v);
  stays = λ at h. h;
  sound = λ M so. so.branch;
}

module _ (v u : LiveBranch) (steps : Steps v u) (ps qs : List Occurrence)
    (before : Reaches v u ps) where
  so_next : (M : Model) → AreSoIn M v (ps ++ qs) → AreSoIn M u qs
  so_next M so = record {
    branch = before.sound M (record {
      branch = so.branch;
      each = All-append_left (IsSo (HoldsIn M) (logged v)) ps qs so.each;
    });
    each = subst (λ (b : BookView). All (IsSo (HoldsIn M) b.logged) qs) (sym steps.book)
        (All-append_right (IsSo (HoldsIn M) (logged v)) ps qs so.each);
  }

  pub reaches_both : (w : LiveBranch) → Reaches u w qs → Reaches v w (ps ++ qs)
  reaches_both w next = record {
    standing = next.standing;
    expanded = All-append (WasExpanded w) ps qs
        (All-weaker (WasExpanded u) (WasExpanded w) next.stays ps before.expanded) next.expanded;
    stays = λ at h. next.stays at (before.stays at h);
    sound = λ M so. next.sound M (so_next M so);
  }

  pub closed_both : ((M : Model) → AreSoIn M u qs → ⊥) → (M : Model) → AreSoIn M v (ps ++ qs) → ⊥
  closed_both none M so = none M (so_next M so)

  pub stops_both : (w : LiveBranch) (why : Stop) → StopsAsserting u w qs why
      → StopsAsserting v w (ps ++ qs) why
  stops_both w why stops = record {
    stopped = stops.stopped;
    sound = λ M so. stops.sound M (so_next M so);
  }

-- ---- fewer are asserted, if no more than these are so

so_fewer : (v : LiveBranch) (ps qs : List Occurrence) (M : Model) → AreSoIn M v (ps ++ qs)
    → AreSoIn M v ps
so_fewer v ps qs M so = record {
  branch = so.branch;
  each = All-append_left (IsSo (HoldsIn M) (logged v)) ps qs so.each;
}

err_fewer : (v w : LiveBranch) (ps qs : List Occurrence) (why : Stop) → Asserts v w ps (Err why)
    → Asserts v w (ps ++ qs) (Err why)
err_fewer v w ps qs (stop.Spill j) h =
    record { stopped = h.stopped; sound = λ M so. h.sound M (so_fewer v ps qs M so) }
err_fewer v w ps qs (stop.Form t) h =
    record { stopped = h.stopped; sound = λ M so. h.sound M (so_fewer v ps qs M so) }
err_fewer v w ps qs (stop.Pivots j) h =
    record { stopped = h.stopped; sound = λ M so. h.sound M (so_fewer v ps qs M so) }
err_fewer v w ps qs stop.Memory h = tt

-- ---- in a list that is gone through

module _ (v u : LiveBranch) (steps : Steps v u) (ps : List Occurrence) (i : ℕ) (p : Occurrence)
    (within : i < length ps) (is : p ≡ get_or ps i p) (before : Reaches v u (take i ps)) where
  front : take i ps ++ p ∷ [] ≡ take (i + 1) ps
  front = ap (λ q. take i ps ++ q ∷ []) is ∙ sym (take_more ps i p within)

  whole : (take i ps ++ p ∷ []) ++ drop (i + 1) ps ≡ ps
  whole = ap (λ qs. qs ++ drop (i + 1) ps) front ∙ take-append-drop (i + 1) ps

  pub reaches_next : (w : LiveBranch) → Reaches u w (p ∷ []) → Reaches v w (take (i + 1) ps)
  reaches_next w next =
      subst (Reaches v w) front (reaches_both v u steps (take i ps) (p ∷ []) before w next)

  so_here : (M : Model) → AreSoIn M v ps → AreSoIn M v (take i ps ++ p ∷ [])
  so_here M so = so_fewer v (take i ps ++ p ∷ []) (drop (i + 1) ps) M
      (subst (AreSoIn M v) (sym whole) so)

  pub closed_next : ((M : Model) → AreSoIn M u (p ∷ []) → ⊥) → (M : Model) → AreSoIn M v ps → ⊥
  closed_next none M so =
      closed_both v u steps (take i ps) (p ∷ []) before none M (so_here M so)

  pub err_next : (w : LiveBranch) (why : Stop) → Asserts u w (p ∷ []) (Err why)
      → Asserts v w ps (Err why)
  err_next w why h =
      subst (λ qs. Asserts v w qs (Err why)) whole
      (err_fewer v w (take i ps ++ p ∷ []) (drop (i + 1) ps) why (go why h))
    where
      go : (other : Stop) → Asserts u w (p ∷ []) (Err other)
          → Asserts v w (take i ps ++ p ∷ []) (Err other)
      go (stop.Spill j) k = stops_both v u steps (take i ps) (p ∷ []) before w (stop.Spill j) k
      go (stop.Form t) k = stops_both v u steps (take i ps) (p ∷ []) before w (stop.Form t) k
      go (stop.Pivots j) k = stops_both v u steps (take i ps) (p ∷ []) before w (stop.Pivots j) k
      go stop.Memory k = tt

-- the list is at its end
pub all_reached : (v u : LiveBranch) (ps : List Occurrence) (i : ℕ) → length ps ≤ i
    → Reaches v u (take i ps) → Reaches v u ps
all_reached v u ps i done reaches =
    subst (Reaches v u) (take_all i ps done) reaches
