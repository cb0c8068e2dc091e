-- The terms of a fact came in play, and it becomes live.
use Rattle.std.proofs.Common.{◌≡◌, ◌⊎◌, inl, inr, ℕ, ◌<◌, Bool, true, List, [], ◌∷◌, ◌++◌, Option}
use Rattle.std.proofs.Common.{Some, None, get_or, length, refl, ap, ap₂, sym, subst, ◌∙◌, append_assoc}
use Rattle.std.specs.Prelude.{IsTrue, Result, Ok, Err, IfErr, slice_get}
use Rattle.std.specs.List.{All, Contains, cons_option, filter_map, flat_map, fold}
use Rattle.std.specs.Option.{IsSome, option_and_then}
use Rattle.std.proofs.lemmas.List.{append-nil}
use Rattle.std.proofs.lemmas.Option.{slice_get-get_or}
use Rattle.std.proofs.lemmas.List.Elements.{All-cons, All-contains, All-nil}
use Rattle.std.proofs.lemmas.List.Elements.{All-weaker, Contains-append_cases}
use Rattle.std.proofs.lemmas.List.Elements.{Contains-append_left, Contains-get_or}
use Rattle.std.proofs.lemmas.List.Elements.{Contains-push, filter_map-append}
use Rattle.std.proofs.lemmas.List.Sums.{fold-append}
use denote.Hole.Carrier.{roll}
use Rattle.esc_term.specs.declared.term.Term.{Term}
use Rattle.esc_term.specs.declared.formula.Formula.{Formula, out-Formula}
use Rattle.esc_term.specs.declared.formula.Formula.TheVariants as formula
use Rattle.esc_term.specs.declared.formula.Formula.TheOpen.{Formula-F}
use Rattle.esc_term.specs.declared.formula.Formula.TheViews.{roll-Formula, roll-out-Formula}
use Rattle.esc_term.specs.declared.formula.Quant.{Quant}
use Rattle.esc_term.specs.declared.formula.Item.{Item}
use Rattle.esc_term.specs.Formula as term_formula
use Rattle.esc_term.specs.Interpretation.{domain_of}
use Rattle.esc_term.specs.Model.{Model}
use Rattle.esc_term.specs.Term.{truth_term}
use Rattle.esc_term.proofs.Members.{Contains-cases, Contains-here, Contains-none}
use Rattle.esc_cover.specs.Arithmetic.{play_of}
use Rattle.esc_cover.specs.Assignment.{asked}
use Rattle.esc_cover.specs.Atoms.{atoms_of}
use Rattle.esc_cover.specs.Classes.{active_terms}
use Rattle.esc_cover.specs.Counterexample.{AreLiteralsOf, IsConsistent}
use Rattle.esc_cover.specs.Laws.{GoesFurther, HoldsIn}
use Rattle.esc_cover.specs.Least.{IsLeast}
use Rattle.esc_cover.proofs.ActiveTerms.{active, of_active}
use Rattle.esc_clause.specs.ClauseContext.{left_in}
use Rattle.esc_clause.specs.Laws.{IsCovered, IsSo}
use Rattle.esc_clause.specs.Occurrences.{formula_at, item_at, occurrences_of}
use Rattle.esc_clause.specs.declared.decision.Decision.{Decision}
use Rattle.esc_clause.specs.declared.occurrence.Occurrence.{Occurrence}
use Rattle.esc_clause.proofs.OccurrencesLevels as levels
use Rattle.esc_nodes.specs.Nodes.{Shape}
use Rattle.esc_nodes.specs.Terms.{terms_of, with_next}
use Rattle.esc_egraph.specs.Graph.{Graph}
use Rattle.esc_egraph.specs.declared.state.State.{State}
use Rattle.esc_egraph.specs.declared.state.State.TheVariants.{Open, Closed}
use Rattle.esc_book.specs.Book.{BookStays, BookView, IsBook, IsLiveOccurrence, Page}
use Rattle.esc_simplex.specs.declared.simplex.Simplex.{Simplex}
use Rattle.esc_simplex.specs.declared.stop.Stop.{Stop}
use Rattle.esc_simplex.specs.declared.stop.Stop.TheVariants as stop
use Rattle.esc_sharing.specs.Nodes.{terms_in}
use Rattle.esc_sharing.specs.Shared.{AreEqualInModels, HaveNoModel, IsShared, items_in, literals_in}
use Rattle.esc_sharing.specs.Shared.{play_in, told_in}
use Rattle.esc_sharing.specs.Stops.{UnlessMemory}
use Rattle.esc_sharing.specs.Unquantified.{HaveSameUnquantified, IsSamePlay}
use Rattle.esc_sharing.specs.declared.sharing.Sharing.{Sharing}
use Rattle.esc_sharing.proofs.BesideQuantified.{consistent_stays, least_stays}
use Rattle.esc_sharing.proofs.Lists.{All-each, flat_map-push}
use Rattle.esc_outcome.specs.JamLaws.{IsGivenBy, shared_in}
use Rattle.esc_outcome.specs.Stopping.{IsStopped}
use Rattle.esc_play.specs.Play.{PlayEnds, StopsPlay}
use Rattle.esc_play.specs.Play as play
use Rattle.esc_outcome.proofs.Numbers.{IsNumberOf-among}
use Rattle.esc_live.specs.Calls.{Ends, HoldsWithFact, IsStoppedAt}
use Rattle.esc_live.specs.Promises.{AreDecisions, IsBranch, IsGiven, IsMade, IsSharedOn, IsSoundIn}
use Rattle.esc_live.specs.Promises.{WasExpanded, decided_as, whole_at}
use Rattle.esc_live.specs.StandingInside.{AreSoIn, Asserts, Brings, IsStanding, Steps}
use Rattle.esc_live.specs.View.{classes_on, literals_on, live_on, logged}
use Rattle.esc_live.specs.declared.branch.LiveBranch.{LiveBranch}
use Rattle.esc_live.proofs.Coarser.{goes_further}
use Rattle.esc_live.proofs.Ending.{ends_by}
use Rattle.esc_live.proofs.Judged.{least_on}
use Rattle.esc_live.proofs.LiteralOn.{plain_literals}
use Rattle.esc_live.proofs.LiveAtoms.{logged_literals}
use Rattle.esc_live.proofs.StaysExpanded.{covered_stays, expanded_stays, so_kept}

-- ---- terms of more nodes

fold_grows : (seen : List Term) (more : List Shape)
    → (ts : List Term) × (fold with_next seen more ≡ seen ++ ts)
fold_grows seen [] = ([], sym (append-nil seen))
fold_grows seen (s ∷ more) =
    let rest = fold_grows (with_next seen s) more in
    (_, rest.1 ∙ append_assoc seen _ rest.0)

pub terms_grow : (g h : Graph) → (more : List Shape) × (h.nodes ≡ g.nodes ++ more)
    → (ts : List Term) × (terms_in h ≡ terms_in g ++ ts)
unfolding terms_of
terms_grow g h nodes =
    let grown = fold_grows (terms_in g) nodes.0 in
    (grown.0, ap (λ ns. terms_of ns) nodes.1 ∙ (fold-append with_next [] g.nodes nodes.0 ∙ grown.1))

-- ---- the whole formula is an occurrence

first_form : (form : Formula-F Formula Quant)
    → slice_get (occurrences_of (roll-Formula form)) 0 ≡ Some (roll-Formula form)
unfolding roll-Formula roll
first_form Formula-F.True = ap (λ os. slice_get os 0) levels.occurrences_of-True
first_form Formula-F.False = ap (λ os. slice_get os 0) levels.occurrences_of-False
first_form (Formula-F.And ps) = ap (λ os. slice_get os 0) (levels.occurrences_of-And ps)
first_form (Formula-F.Or ps) = ap (λ os. slice_get os 0) (levels.occurrences_of-Or ps)
first_form (Formula-F.Not p) = ap (λ os. slice_get os 0) (levels.occurrences_of-Not p)
first_form (Formula-F.Implies p q) =
    ap (λ os. slice_get os 0) (levels.occurrences_of-Implies p q)
first_form (Formula-F.Iff p q) = ap (λ os. slice_get os 0) (levels.occurrences_of-Iff p q)
first_form (Formula-F.Forall q) = ap (λ os. slice_get os 0) (levels.occurrences_of-Forall q)
first_form (Formula-F.Exists q) = ap (λ os. slice_get os 0) (levels.occurrences_of-Exists q)
first_form (Formula-F.Eq s t) = ap (λ os. slice_get os 0) (levels.occurrences_of-Eq s t)
first_form (Formula-F.Less s t) = ap (λ os. slice_get os 0) (levels.occurrences_of-Less s t)
first_form (Formula-F.Distinct ts) = ap (λ os. slice_get os 0) (levels.occurrences_of-Distinct ts)
first_form (Formula-F.LabelPos name p) =
    ap (λ os. slice_get os 0) (levels.occurrences_of-LabelPos name p)
first_form (Formula-F.LabelNeg name p) =
    ap (λ os. slice_get os 0) (levels.occurrences_of-LabelNeg name p)

pub whole_there : (fs : List Formula) (place : ℕ) (f : Formula) → slice_get fs place ≡ Some f
    → formula_at fs (whole_at place) ≡ Some f
whole_there fs place f is =
    ap (λ o. option_and_then (λ (g : Formula). slice_get (occurrences_of g) 0) o) is
    ∙ subst (λ g. slice_get (occurrences_of g) 0 ≡ Some g) (roll-out-Formula f)
    (first_form (out-Formula f))

-- ---- the terms came in play

module _ (v : LiveBranch) (is : IsBranch v) (given : IsGiven v) (book_stays : BookStays)
    (t : Sharing Simplex) (f : Formula) (comes : play.Comes (shared_in v.sharing) (shared_in t))
  where
    abbrev w : LiveBranch
    w = record v { sharing = t }

    alike : HaveSameUnquantified (literals_in (shared_in t)) (literals_on v)
    alike = subst (λ ls. HaveSameUnquantified ls (literals_on v)) (sym comes.literals)
        is.shared.asserted

    asks : flat_map asked (literals_on v) ≡ flat_map asked (items_in (shared_in t))
    asks = is.shared.asks ∙ ap (flat_map asked) (sym comes.items)

    shared_hold : (M : Model) → All (HoldsIn M) (literals_on v)
        → All (HoldsIn M) (literals_in (shared_in t))
    shared_hold M all = All-each (HoldsIn M) (literals_in (shared_in t)) (λ other h.
        All-contains (HoldsIn M) (literals_on v) other all
        ((alike other (plain_literals (shared_in t) other h)).0 h))

    book : IsBook t.graph v.book
    book =
        let more = terms_grow v.sharing.graph t.graph comes.nodes in
        book_stays v.sharing.graph t.graph v.book more.0 is.book more.1

    brings_stop : (why : Stop) → Contains (logged v) f → StopsPlay v.sharing t f why
        → IsStoppedAt w why × ((M : Model) → IsSoundIn M v → All (HoldsIn M) (literals_on w))
    brings_stop why among stops =
        let stopped = stops (logged v) (literals_on v) among given.given
        (logged_literals v (literals_on v) is.shared.literals_are) is.shared.asks in (
          record {
            book = book;
            occur = is.shared.occur;
            stopped = record {
              underway = stopped.underway;
              jam = stopped.jam;
              barred = stopped.barred;
            };
            told = All-weaker (AreEqualInModels (literals_in (shared_in t)))
                (AreEqualInModels (literals_on v)) (λ pair h M all. h M (shared_hold M all))
                (told_in (shared_in t)) stopped.underway.follow;
          },
          λ M so. so.literals,
        )

-- how it ends
pub brings_by : (v : LiveBranch) → IsBranch v → IsGiven v → BookStays → (t : Sharing Simplex)
    (f : Formula) → Contains (logged v) f → (result : Result State Stop)
    → PlayEnds (shared_in v.sharing) (shared_in t) f result
    → IfErr result (UnlessMemory (StopsPlay v.sharing t f))
    → Brings v (record v { sharing = t }) f result
brings_by v is given law t f among (Ok Open) ends stops = ends
brings_by v is given law t f among (Ok Closed) ends stops =
    λ M so. ends.1 M (shared_hold v is given law t f ends.0 M so.literals)
brings_by v is given law t f among (Err (stop.Spill j)) ends stops =
    brings_stop v is given law t f ends.0 (stop.Spill j) among stops
brings_by v is given law t f among (Err (stop.Form u)) ends stops =
    brings_stop v is given law t f ends.0 (stop.Form u) among stops
brings_by v is given law t f among (Err (stop.Pivots j)) ends stops =
    brings_stop v is given law t f ends.0 (stop.Pivots j) among stops
brings_by v is given law t f among (Err stop.Memory) ends stops = tt

-- ---- it is live

active_more : (fs : List Formula) (f : Formula) (t : Term) → Contains (active_terms fs) t
    → Contains (active_terms (fs ++ f ∷ [])) t
active_more fs f t h =
    let found = of_active fs t h in
    active (fs ++ f ∷ []) t
    (subst (λ ts. Contains ts t)
    (sym (ap (λ ts. truth_term ∷ ts) (flat_map-push term_formula.terms_of fs f)))
    (Contains-append_left (domain_of fs) (term_formula.terms_of f) t found.0)) found.1

module _ (v : LiveBranch) (is : IsBranch v) (place : ℕ) (f : Formula)
    (there : slice_get (logged v) place ≡ Some f) (t : Sharing Simplex) (pages : List Page)
    (ends : PlayEnds (shared_in v.sharing) (shared_in t) f (Ok Open)) where
  abbrev pub u : LiveBranch
  u = record v {
    sharing = t;
    book = record v.book { live = v.book.live ++ place ∷ []; pages = pages };
  }

  live_is : live_on u ≡ live_on v ++ f ∷ []
  live_is = filter_map-append (slice_get (logged v)) v.book.live (place ∷ [])
      ∙ ap (λ o. live_on v ++ cons_option o []) there

  still_live : (at : Occurrence) → IsLiveOccurrence v.book at → IsLiveOccurrence u.book at
  still_live at live = record {
    live = Contains-append_left v.book.live (place ∷ []) at.fact live.live;
    there = live.there;
  }

  pub live_whole : IsLiveOccurrence u.book (whole_at place)
  live_whole = record {
    live = Contains-push v.book.live place;
    there = subst IsSome (sym (whole_there (logged v) place f there)) refl;
  }

  same_literals : HaveSameUnquantified (literals_in (shared_in t)) (literals_on u)
  same_literals = subst (λ ls. HaveSameUnquantified ls (literals_on v)) (sym ends.0.literals)
      is.shared.asserted

  same_play : IsSamePlay (play_in (shared_in t)) (play_of (live_on u))
  same_play = subst (λ fs. IsSamePlay (play_in (shared_in t)) (play_of fs)) (sym live_is)
      (ends.2 (live_on v) is.shared.play)

  least_u : IsLeast (literals_on u) (play_of (live_on u)) (classes_on u)
  least_u = least_stays (literals_in (shared_in t)) (literals_on u) (play_in (shared_in t))
      (play_of (live_on u)) (classes_on u) same_literals same_play ends.1.least

  consistent_u : IsConsistent (literals_on u) (classes_on u)
  consistent_u = consistent_stays (literals_in (shared_in t)) (literals_on u) (classes_on u)
      same_literals is.shared.consistent.one_sign ends.1.consistent

  further : GoesFurther (literals_on v) (classes_on v) (literals_on u) (classes_on u)
  further = goes_further (literals_on v) (literals_on u) (play_of (live_on v))
      (play_of (live_on u)) (λ item h. h)
      (λ x h. subst (λ fs. Contains (active_terms fs) x) (sym live_is)
      (active_more (live_on v) f x h))
      (λ x h. subst (λ fs. Contains (play_of fs).numbers x) (sym live_is)
      (IsNumberOf-among (live_on v) (live_on v ++ f ∷ [])
      (All-each (Contains (live_on v ++ f ∷ [])) (live_on v)
      (λ g k. Contains-append_left (live_on v) (f ∷ []) g k)) x h)) (classes_on v) (classes_on u) (least_on v is.shared) least_u

  literals_of_u : AreLiteralsOf (live_on u) (literals_on u)
  literals_of_u = record {
    forms = is.shared.literals_are.forms;
    atoms = All-weaker (λ (i : Item). Contains (flat_map atoms_of (live_on v)) i.formula)
        (λ i. Contains (flat_map atoms_of (live_on u)) i.formula)
        (λ i h. subst (λ fs. Contains (flat_map atoms_of fs) i.formula) (sym live_is)
        (subst (λ xs. Contains xs i.formula) (sym (flat_map-push atoms_of (live_on v) f))
        (Contains-append_left (flat_map atoms_of (live_on v)) (atoms_of f) i.formula h)))
        (literals_on v) is.shared.literals_are.atoms;
  }

  made_u : (c : List Occurrence) → IsMade v c → IsMade u c
  made_u c made = record {
    part = made.part;
    live = still_live made.part made.live;
    whole = made.whole;
    made = made.made;
    test = made.test;
    left = made.left;
  }

  pub standing_u : IsBook t.graph u.book → IsStanding u
  standing_u book = record {
    closed = is.closed;
    book = book;
    shared = record {
      shared = ends.1;
      play = same_play;
      asserted = same_literals;
      asks = is.shared.asks ∙ ap (flat_map asked) (sym ends.0.items);
      consistent = consistent_u;
      literals_are = literals_of_u;
      occur = All-weaker (IsLiveOccurrence v.book) (IsLiveOccurrence u.book) still_live v.literals
          is.shared.occur;
    };
    clauses = All-weaker (IsMade v) (IsMade u) made_u (left_in v.clauses) is.clauses;
  }

  expanded_u : (at : Occurrence) → WasExpanded v at → WasExpanded u at
  expanded_u = expanded_stays (logged v) (literals_on v) (literals_on u) (classes_on v)
      (classes_on u) (left_in v.clauses) (left_in v.clauses)
      (so_kept (IsCovered (literals_on v) (classes_on v)) (IsCovered (literals_on u) (classes_on u))
      (covered_stays (literals_on v) (literals_on u) (play_of (live_on u)) (classes_on v)
      (classes_on u) further least_u consistent_u) (logged v)) (λ c h. h)

  decisions_u : AreDecisions u
  decisions_u = record {
    live = All-weaker (λ (d : Decision). IsLiveOccurrence v.book d.at)
        (λ d. IsLiveOccurrence u.book d.at) (λ d h. still_live d.at h) v.clauses.decisions
        is.decisions.live;
    differ = is.decisions.differ;
  }

  so_u : (M : Model) → HoldsWithFact v place M → AreSoIn M u (whole_at place ∷ [])
  so_u M so = record {
    branch = record {
      literals = so.0.literals;
      decisions = so.0.decisions;
      clauses = so.0.clauses;
    };
    each = All-cons (IsSo (HoldsIn M) (logged v)) (whole_at place) [] so.1
        (All-nil (IsSo (HoldsIn M) (logged v)));
  }

  facts_u : (p : ℕ) → Contains (v.book.live ++ place ∷ []) p
      → WasExpanded u (whole_at p) ⊎ Contains (whole_at place ∷ []) (whole_at p)
  facts_u p h = elim (Contains-append_cases v.book.live (place ∷ []) p h) [
    | inl old ↦ inl (expanded_u (whole_at p) (is.facts p old))
    | inr new ↦ elim (Contains-cases place [] p new) [
      | inl same ↦ inr (subst (λ q. Contains (whole_at place ∷ []) (whole_at q)) same
          (Contains-here (whole_at place) []))
      | inr none ↦ absurd (Contains-none p none)
    ]
  ]

  pub fact_ends : (w : LiveBranch) → Steps u w → (result : Result State Stop)
      → Asserts u w (whole_at place ∷ []) result → Ends w (HoldsWithFact v place) result
  fact_ends w steps result =
      ends_by u w steps (whole_at place ∷ []) (HoldsWithFact v place) so_u decisions_u facts_u
      (λ d h. inl (expanded_u (decided_as d) (All-contains (λ (x : Decision).
      WasExpanded v (decided_as x)) v.clauses.decisions d is.decided h))) result

-- ---- the fact at a place

module _ (fs gs : List Formula) (same : gs ≡ fs) (place : ℕ) (d : Formula)
    (within : place < length fs) where
  pub formula_is : (f : Formula) → slice_get fs place ≡ Some f → get_or gs place d ≡ f
  formula_is f there =
      ap (λ (xs : List Formula). get_or xs place d) same
      ∙ some_injective (sym (slice_get-get_or fs place d within) ∙ there)
    where
      some_injective : Some (get_or fs place d) ≡ Some f → get_or fs place d ≡ f
      some_injective e = cc

  pub formula_there : Contains fs (get_or gs place d)
  formula_there = subst (λ (xs : List Formula). Contains fs (get_or xs place d)) (sym same)
      (Contains-get_or fs place d within)

  pub formula_closed : All (λ f. IsTrue (term_formula.is_closed f)) fs
      → IsTrue (term_formula.is_closed (get_or gs place d))
  formula_closed all = subst (λ (xs : List Formula).
      IsTrue (term_formula.is_closed (get_or xs place d))) (sym same) (all place d within)

-- the formula there is the one
pub brings_there : (v : LiveBranch) → IsBranch v → IsGiven v → BookStays → (t : Sharing Simplex)
    (place : ℕ) (g : Formula) → Contains (logged v) g
    → ((f : Formula) → slice_get (logged v) place ≡ Some f → g ≡ f)
    → (result : Result State Stop) → PlayEnds (shared_in v.sharing) (shared_in t) g result
    → IfErr result (UnlessMemory (StopsPlay v.sharing t g))
    → (f : Formula) → slice_get (logged v) place ≡ Some f
    → Brings v (record v { sharing = t }) f result
brings_there v is given law t place g among same result ends stops f there =
    subst (λ h. Brings v (record v { sharing = t }) h result) (same f there)
    (brings_by v is given law t g among result ends stops)

-- how it ends where the fact did not become live
pub brought_ends : (v w : LiveBranch) (f : Formula) (place : ℕ) (result : Result State Stop)
    → (result ≡ Ok Open → ⊥) → Brings v w f result → Ends w (HoldsWithFact v place) result
brought_ends v w f place (Ok Open) not_open brings = absurd (not_open refl)
brought_ends v w f place (Ok Closed) not_open none = λ M so. none M so.0
brought_ends v w f place (Err stop.Memory) not_open h = tt
brought_ends v w f place (Err (stop.Spill j)) not_open h = (h.0, λ M so. h.1 M so.0)
brought_ends v w f place (Err (stop.Form u)) not_open h = (h.0, λ M so. h.1 M so.0)
brought_ends v w f place (Err (stop.Pivots j)) not_open h = (h.0, λ M so. h.1 M so.0)

-- ---- from the calls

-- all that is needed of the two calls that make the fact live
module _ (v m u : LiveBranch) (is : IsBranch v) (place : ℕ) (f : Formula)
    (there : slice_get (logged v) place ≡ Some f)
    (brought : m ≡ record v { sharing = m.sharing })
    (ends : PlayEnds (shared_in v.sharing) (shared_in m.sharing) f (Ok Open))
    (went : u ≡ record m { book = u.book }) (log_is : logged u ≡ logged m)
    (live_went : u.book.live ≡ m.book.live ++ place ∷ [])
    (book : IsBook u.sharing.graph u.book) where
  abbrev made_live : LiveBranch
  made_live = record v {
    sharing = m.sharing;
    book = record v.book { live = v.book.live ++ place ∷ []; pages = u.book.pages };
  }

  book_went : u.book ≡ record v.book { live = v.book.live ++ place ∷ []; pages = u.book.pages }
  book_went =
      ap (λ fs. let x : BookView = record u.book { logged = fs } in x)
      (log_is ∙ ap (λ (x : LiveBranch). x.book.logged) brought)
      ∙ ap (λ ls. let x : BookView = record u.book { logged = v.book.logged; live = ls } in x)
      (live_went ∙ ap (λ (x : LiveBranch). x.book.live ++ place ∷ []) brought)

  branch_went : u ≡ made_live
  branch_went =
      went ∙ (ap (λ (x : LiveBranch). record x { book = u.book }) brought
      ∙ ap (λ b. let x : LiveBranch = record v { sharing = m.sharing; book = b } in x) book_went)

  pub standing_went : IsStanding u
  standing_went = subst IsStanding (sym branch_went)
      (standing_u v is place f there m.sharing u.book.pages ends
      (subst (λ (x : LiveBranch). IsBook x.sharing.graph x.book) branch_went book))

  pub whole_went : IsLiveOccurrence u.book (whole_at place)
  whole_went = subst (λ (b : BookView). IsLiveOccurrence b (whole_at place)) (sym book_went)
      (live_whole v is place f there m.sharing u.book.pages ends)

  pub fact_went : (w : LiveBranch) → Steps u w → (result : Result State Stop)
      → Asserts u w (whole_at place ∷ []) result → Ends w (HoldsWithFact v place) result
  fact_went w steps result asserts =
      fact_ends v is place f there m.sharing u.book.pages ends w
      (subst (λ x. Steps x w) branch_went steps) result
      (subst (λ x. Asserts x w (whole_at place ∷ []) result) branch_went asserts)
