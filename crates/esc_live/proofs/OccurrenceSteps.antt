-- An occurrence is asserted by what it expands to.
use Rattle.std.proofs.Common.{◌≡◌, ℕ, zero, suc, ◌+◌, ◌*◌, ◌<◌, ◌≤◌, List, [], ◌∷◌, length, get_or, refl, ap, sym}
use Rattle.std.proofs.Common.{subst, ◌∙◌, arith}
use Rattle.std.specs.Prelude.{Ok, Err, Result}
use Rattle.std.specs.List.{All, Contains}
use Rattle.std.specs.Option.{IsSome}
use Rattle.std.proofs.lemmas.List.Elements.{All-cons, All-contains, All-head, All-nil, All-weaker}
use Rattle.esc_term.specs.declared.formula.Formula.{Formula}
use Rattle.esc_term.specs.Model.{Model}
use Rattle.esc_cover.specs.Laws.{HoldsIn}
use Rattle.esc_clause.specs.Expansion.{AllOf, Never, expanded}
use Rattle.esc_clause.specs.Laws.{ExpansionIsSo, ExpansionIsSound, IsSo}
use Rattle.esc_clause.specs.declared.occurrence.Occurrence.{Occurrence}
use Rattle.esc_book.specs.Book.{BookView, IsLiveOccurrence}
use Rattle.esc_egraph.specs.declared.state.State.{State}
use Rattle.esc_egraph.specs.declared.state.State.TheVariants.{Open, Closed}
use Rattle.esc_simplex.specs.declared.stop.Stop.{Stop}
use Rattle.esc_simplex.specs.declared.stop.Stop.TheVariants as stop
use Rattle.esc_live.specs.Expanded.IsExpanded.{parts}
use Rattle.esc_live.specs.Promises.{WasExpanded}
use Rattle.esc_live.specs.StandingInside.{AreSoIn, Asserts, IsStanding, Reaches, Steps}
use Rattle.esc_live.specs.View.{logged}
use Rattle.esc_live.specs.declared.branch.LiveBranch.{LiveBranch}
use Rattle.esc_live.proofs.Parts.{ArePartsOf, IsPartIn, parts_are, size_at, sizes_at}

module _ (v : LiveBranch) (at : Occurrence) (live : IsLiveOccurrence v.book at)
    (ps : List Occurrence) (expands : expanded (logged v) at ≡ AllOf ps) where
  are : ArePartsOf (logged v) at.fact (size_at (logged v) at) ps
  are = parts_are (logged v) at ps live.there expands

  pub parts_live : All (IsLiveOccurrence v.book) ps
  parts_live = All-weaker (IsPartIn (logged v) at.fact) (IsLiveOccurrence v.book)
      (λ p part. record {
        live = subst (Contains v.book.live) (sym part.fact_is) live.live;
        there = part.there;
      }) ps are.parts

  pub parts_fall : 2 + 3 * sizes_at (logged v) ps < 3 * size_at (logged v) at
  parts_fall = omega (arith, are.smaller)

  module _ (law : ExpansionIsSound) where
    so_parts : (M : Model) → AreSoIn M v (at ∷ []) → AreSoIn M v ps
    so_parts M so = record {
      branch = so.branch;
      each = subst (ExpansionIsSo (HoldsIn M) (logged v)) expands
          (law M (logged v) at (All-head (IsSo (HoldsIn M) (logged v)) at [] so.each));
    }

    pub asserts_parts : (w : LiveBranch) → Steps v w → (result : Result State Stop)
        → Asserts v w ps result → Asserts v w (at ∷ []) result
    asserts_parts w steps (Ok Open) reaches = record {
      standing = reaches.standing;
      expanded = All-cons (WasExpanded w) at []
          (parts at ps
          (subst (λ (b : BookView). expanded b.logged at ≡ AllOf ps) (sym steps.book) expands)
          (λ p h. All-contains (WasExpanded w) ps p reaches.expanded h))
          (All-nil (WasExpanded w));
      stays = reaches.stays;
      sound = λ M so. reaches.sound M (so_parts M so);
    }
    asserts_parts w steps (Ok Closed) none = λ M so. none M (so_parts M so)
    asserts_parts w steps (Err stop.Memory) h = tt
    asserts_parts w steps (Err (stop.Spill j)) stops =
        record { stopped = stops.stopped; sound = λ M so. stops.sound M (so_parts M so) }
    asserts_parts w steps (Err (stop.Form t)) stops =
        record { stopped = stops.stopped; sound = λ M so. stops.sound M (so_parts M so) }
    asserts_parts w steps (Err (stop.Pivots j)) stops =
        record { stopped = stops.stopped; sound = λ M so. stops.sound M (so_parts M so) }

-- it cannot be
pub never_closed : (v : LiveBranch) (at : Occurrence) → ExpansionIsSound
    → expanded (logged v) at ≡ Never → (M : Model) → AreSoIn M v (at ∷ []) → ⊥
never_closed v at law expands M so =
    subst (ExpansionIsSo (HoldsIn M) (logged v)) expands
    (law M (logged v) at (All-head (IsSo (HoldsIn M) (logged v)) at [] so.each))

-- one of those that are gone through
size_within : (fs : List Formula) (ps : List Occurrence) (i : ℕ) (d : Occurrence)
    → i < length ps → size_at fs (get_or ps i d) ≤ sizes_at fs ps
size_within fs [] i d l = absurd (omega (arith, l))
size_within fs (p ∷ ps) zero d l = omega arith
size_within fs (p ∷ ps) (suc i) d l =
    omega (arith, size_within fs ps i d (omega (arith, l)))

pub size_falls : (fs : List Formula) (ps : List Occurrence) (i : ℕ) (d : Occurrence)
    → i < length ps → 1 + 3 * size_at fs (get_or ps i d) < 2 + 3 * sizes_at fs ps
size_falls fs ps i d l = omega (arith, size_within fs ps i d l)
