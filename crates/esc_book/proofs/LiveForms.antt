-- The formulas of live occurrences, by the tables of their facts.
use Rattle.std.proofs.Common.{◌≡◌, ℕ, ◌<◌, true, false, List, [], Some, None, Option, Ok, Err}
use Rattle.std.proofs.Common.{Result, IfOk, refl, ap, sym, subst, ◌∙◌}
use Rattle.std.specs.List.{slice_get}
use Rattle.std.specs.Option.{IsSome, IsSomeAnd, option_and_then, option_map_or}
use denote.Hole.Carrier.{roll}
use Rattle.esc_term.specs.declared.term.Term.{Term}
use Rattle.esc_term.specs.declared.formula.Formula.{Formula}
use Rattle.esc_term.specs.declared.formula.Formula.TheVariants as formula
use Rattle.esc_term.specs.declared.formula.Formula.TheOpen.{Formula-F}
use Rattle.esc_term.specs.declared.formula.Formula.TheViews.{out-Formula, out-roll-Formula}
use Rattle.esc_term.specs.declared.formula.Formula.TheViews.{roll-Formula}
use Rattle.esc_clause.specs.Expansion.{AllOf, Literal, expanded, expanded_form}
use Rattle.esc_clause.specs.Occurrences.{formula_at, occurrences_of}
use Rattle.esc_clause.specs.declared.occurrence.Occurrence.{Occurrence}
use Rattle.esc_egraph.specs.Graph.{Graph}
use Rattle.esc_sharing.specs.Nodes.{node_count, node_term}
use Rattle.esc_book.specs.Atom.{IsAtomAt, IsDistinctAt, is_atom_form}
use Rattle.esc_book.specs.Book.{BookView, IsBook, IsLiveOccurrence, IsPage, Page, heads_of, is_live}
use Rattle.esc_book.specs.JudgingInside.{IsPageOf}
use Rattle.esc_book.specs.ReadingInside.{IsLocated, begin_at}
use Rattle.esc_book.specs.declared.page.Place.{Place}
use Rattle.esc_book.specs.declared.page.Place.TheVariants as place
use Rattle.esc_book.proofs.Indexing.{contains_any}

pub if_ok : {X E : Type 0} (P Q : X → Type 0) (r : Result X E) → IfOk r P → ((x : X) → P x → Q x)
    → IfOk r Q
if_ok P Q (Ok x) h k = k x h
if_ok P Q (Err e) h k = tt

pub not_dead : (v : BookView) (at : Occurrence) → IsLiveOccurrence v at
    → is_live v at.fact ≡ false → ⊥
not_dead v at live dead =
    let here : is_live v at.fact ≡ true = contains_any v.live at.fact live.live in
    let both : true ≡ false = sym here ∙ dead in cc

same_out : (x y : Formula) → Some x ≡ Some y → out-Formula x ≡ out-Formula y
same_out x y e = let same : x ≡ y = cc in ap out-Formula same

apart : (s t : Term) (ts : List Term) → Some (formula.Eq s t) ≡ Some (formula.Distinct ts) → ⊥
unfolding roll-Formula roll
apart s t ts e =
    let forms : Formula-F.Eq s t ≡ Formula-F.Distinct ts =
    sym (out-roll-Formula (Formula-F.Eq s t))
    ∙ (same_out (formula.Eq s t) (formula.Distinct ts) e
    ∙ out-roll-Formula (Formula-F.Distinct ts)) in cc

-- ---- a live occurrence, and the table of its fact

module _ (g : Graph) (v : BookView) (at : Occurrence) (page : Page) where
  pub record Stands : Type 0 where
    pub whole : Formula
    pub is_page : IsPage g whole page
    pub there : formula_at v.logged at ≡ slice_get (occurrences_of whole) at.place

  pub stands : IsBook g v → IsLiveOccurrence v at → IsPageOf v at.fact page → Stands
  stands book live of = by (slice_get v.logged at.fact) refl live.there
    where
      by : (o : Option Formula) → slice_get v.logged at.fact ≡ o
          → IsSome (option_and_then (λ f. slice_get (occurrences_of f) at.place) o) → Stands
      by None e some = cc
      by (Some f) e some = record {
        whole = f;
        is_page = book.written of.index at.fact f page of.live e of.written;
        there = ap (option_and_then (λ f. slice_get (occurrences_of f) at.place)) e;
      }

  module _ (st : Stands) (p : Place) (located : IsLocated g st.whole page at.place p) where
    pub is_somewhere : IsLiveOccurrence v at → p ≡ place.Nowhere → ⊥
    is_somewhere live is =
        let none : formula_at v.logged at ≡ None =
        st.there ∙ subst (IsLocated g st.whole page at.place) is located in
        let bad : false ≡ true = subst IsSome none live.there in cc

    -- the formula of an entry
    pub record IsAt (i : ℕ) : Type 0 where
      pub of : Formula
      pub head : slice_get (heads_of st.whole) i ≡ Some of
      pub is : formula_at v.logged at ≡ Some of
      pub begins : begin_at (heads_of st.whole) i ≡ at.place

    pub is_at : (i : ℕ) → p ≡ place.Entry i → IsAt i
    is_at i is =
        let found = subst (IsLocated g st.whole page at.place) is located in
        record { of = found.0; head = found.1; is = st.there ∙ found.2; begins = found.3 }

    pub is_pair : (a b : ℕ) → p ≡ place.Pair a b
        → (formula_at v.logged at ≡ Some (formula.Eq (node_term g a) (node_term g b)))
        × ((a < node_count g) × (b < node_count g))
    is_pair a b is =
        let found = subst (IsLocated g st.whole page at.place) is located in
        (st.there ∙ found.0, (found.1, found.2))

    pub is_entry : IsDistinctAt v.logged at → ((i : ℕ) → p ≡ place.Entry i → ⊥) → ⊥
    is_entry distinct other = by p located refl
      where
        by : (q : Place) → IsLocated g st.whole page at.place q → p ≡ q → ⊥
        by (place.Entry i) found is = other i is
        by (place.Pair a b) found is =
            let both : Some (formula.Eq (node_term g a) (node_term g b))
            ≡ Some (formula.Distinct distinct.0) =
            sym found.0 ∙ (sym st.there ∙ distinct.1) in
            apart (node_term g a) (node_term g b) distinct.0 both
        by place.Nowhere found is =
            let both : None ≡ Some (formula.Distinct distinct.0) =
            sym found ∙ (sym st.there ∙ distinct.1) in cc

-- ---- what stands there

module _ (fs : List Formula) (at : Occurrence) where
  pub expanded-at : (s : Formula) → formula_at fs at ≡ Some s
      → expanded fs at ≡ expanded_form at (out-Formula s) at.positive
  expanded-at s e =
      ap (λ o. option_map_or (λ f. expanded_form at (out-Formula f) at.positive) o (AllOf [])) e

  pub expanded-Eq : (x y : Term) → formula_at fs at ≡ Some (formula.Eq x y)
      → Literal ≡ expanded fs at
  unfolding roll-Formula roll
  expanded-Eq x y e =
      sym (expanded-at (formula.Eq x y) e
      ∙ ap (λ form. expanded_form at form at.positive) (out-roll-Formula (Formula-F.Eq x y)))

  pub atom-at : (s : Formula) → formula_at fs at ≡ Some s → IsAtomAt fs at
      → is_atom_form (out-Formula s) ≡ true
  atom-at s e atom = subst (λ o. IsSomeAnd o (λ f. is_atom_form (out-Formula f) ≡ true)) e atom

  pub distinct-at : (s : Formula) → formula_at fs at ≡ Some s → IsDistinctAt fs at
      → (ts : List Term) × (s ≡ formula.Distinct ts)
  distinct-at s e distinct =
      let both : Some s ≡ Some (formula.Distinct distinct.0) = sym e ∙ distinct.1 in
      let same : s ≡ formula.Distinct distinct.0 = cc in
      (distinct.0, same)
