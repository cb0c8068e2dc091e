-- A literal was asserted, and the sharing got it: what holds then.
use Rattle.std.proofs.Common.{◌≡◌, ◌⊎◌, inl, inr, Bool, true, false, not, List, [], ◌∷◌, ◌++◌, Some, map}
use Rattle.std.proofs.Common.{Option, None, refl, ap, sym, subst, ◌∙◌}
use Rattle.std.specs.Prelude.{IsTrue, Ok, Err, Result}
use Rattle.std.specs.List.{All, Contains, cons_option, filter_map, flat_map}
use Rattle.std.specs.Option.{IsSomeAnd}
use Rattle.std.proofs.lemmas.List.{append-nil}
use Rattle.std.proofs.lemmas.List.Elements.{All-contains}
use Rattle.std.proofs.lemmas.List.Elements.{All-cons, All-head, All-nil, All-push, All-weaker}
use Rattle.std.proofs.lemmas.List.Elements.{Contains-append_cases, Contains-append_left}
use Rattle.std.proofs.lemmas.List.Elements.{Contains-push, filter_map-append}
use Rattle.esc_term.specs.declared.term.Term.{Term}
use Rattle.esc_term.specs.declared.formula.Formula.{Formula, out-Formula}
use Rattle.esc_term.specs.declared.formula.Item.{Item}
use Rattle.esc_term.specs.Model.{Model}
use Rattle.esc_term.proofs.Members.{Contains-cases, Contains-none}
use Rattle.esc_cover.specs.Arithmetic.{play_of}
use Rattle.esc_cover.specs.Assignment.{asked}
use Rattle.esc_cover.specs.Atoms.{atoms_of}
use Rattle.esc_cover.specs.Counterexample.{AreLiteralsOf, IsConsistent, is_literal_form}
use Rattle.esc_cover.specs.Laws.{GoesFurther, HoldsIn}
use Rattle.esc_cover.specs.Least.{IsLeast}
use Rattle.esc_clause.specs.ClauseContext.{left_in}
use Rattle.esc_clause.specs.Laws.{IsCovered, IsSo}
use Rattle.esc_clause.specs.Occurrences.{item_at}
use Rattle.esc_clause.specs.declared.occurrence.Occurrence.{Occurrence}
use Rattle.esc_clause.specs.declared.truth.Truth.TheVariants as truth
use Rattle.esc_book.specs.Book.{BookStays, IsBook, IsLiveOccurrence}
use Rattle.esc_book.specs.Judging.{contrary_item}
use Rattle.esc_egraph.specs.declared.state.State.{State}
use Rattle.esc_egraph.specs.declared.state.State.TheVariants as state
use Rattle.esc_simplex.specs.View.{IsSimplex, numbers_in}
use Rattle.esc_simplex.specs.declared.simplex.Simplex.{Simplex}
use Rattle.esc_simplex.specs.declared.stop.Stop.{Stop}
use Rattle.esc_simplex.specs.declared.stop.Stop.TheVariants as stop
use Rattle.esc_egraph.specs.Graph.{Graph}
use Rattle.esc_term.specs.declared.formula.Formula.TheVariants as formula
use Rattle.esc_term.specs.declared.formula.Formula.TheVariants.{rolls-Less}
use Rattle.esc_term.specs.declared.formula.Formula.TheOpen.{Formula-F}
use Rattle.esc_term.specs.declared.formula.Formula.TheViews.{out-roll-Formula}
use Rattle.esc_node_terms.proofs.LiteralForms.{out-Distinct, out-Eq}
use Rattle.esc_sharing.specs.Literals.{group_item, item_of}
use Rattle.esc_sharing.specs.declared.literal.Lit.{Lit}
use Rattle.esc_sharing.specs.declared.literal.Lit.TheVariants.{Equal, Apart, Below, AtMost}
use Rattle.esc_sharing.specs.Nodes.{node_term, terms_in}
use Rattle.esc_sharing.specs.Numbers.{number_terms}
use Rattle.esc_sharing.specs.Shared.{AreEqualInModels, HaveNoModel, IsShared, literals_in, play_in}
use Rattle.esc_sharing.specs.Shared.{Shared, items_in, told_in}
use Rattle.esc_sharing.specs.Unquantified.{HaveSameUnquantified, IsSamePlay, is_quantified}
use Rattle.esc_sharing.specs.Unquantified.{is_quantified_form}
use Rattle.esc_sharing.specs.declared.sharing.Sharing.{Sharing}
use Rattle.esc_sharing.proofs.BesideQuantified.{consistent_stays, least_stays}
use Rattle.esc_sharing.proofs.Lists.{All-each, Contains-of_map, flat_map-push}
use Rattle.esc_outcome.specs.JamLaws.{IsGivenBy, shared_in}
use Rattle.esc_live.specs.Calls.{IsStoppedAt, MeansMore}
use Rattle.esc_live.specs.Expanded.IsExpanded.{covered}
use Rattle.esc_live.specs.Promises.{IsGiven, IsMade, IsSharedOn, IsSoundIn, WasExpanded}
use Rattle.esc_live.specs.StandingInside.{AreSoIn, Asserts, Comes, IsLiteralAt, IsStanding, Reaches}
use Rattle.esc_live.specs.StandingInside.{SharesItem, StaysGiven, Steps, StopsAsserting}
use Rattle.esc_live.specs.StandingInside.{ShareEnds, StopsSharing, item_sides}
use Rattle.esc_live.specs.View.{classes_on, judge_on, literals_on, live_on, logged}
use Rattle.esc_live.specs.declared.branch.LiveBranch.{LiveBranch}
use Rattle.esc_live.proofs.Coarser.{goes_further}
use Rattle.esc_live.proofs.CoveredLiteral.{literal_covered}
use Rattle.esc_live.proofs.Judged.{least_on, open_contrary}
use Rattle.esc_live.proofs.LiveAtoms.{atom_at, logged_literals}
use Rattle.esc_live.proofs.StaysExpanded.{covered_stays, expanded_stays, so_kept}

-- ---- the sharing knows no quantified formula

pub out-Less : (s t : Term) → out-Formula (formula.Less s t) ≡ Formula-F.Less s t
out-Less s t = ap out-Formula (sym (rolls-Less s t)) ∙ out-roll-Formula (Formula-F.Less s t)

plain_lit : (g : Graph) (lit : Lit) → is_quantified (item_of g lit) ≡ false
plain_lit g (Equal a b) = ap is_quantified_form (out-Eq (node_term g a) (node_term g b))
plain_lit g (Apart a b) = ap is_quantified_form (out-Eq (node_term g a) (node_term g b))
plain_lit g (Below a b) = ap is_quantified_form (out-Less (node_term g a) (node_term g b))
plain_lit g (AtMost a b) = ap is_quantified_form (out-Less (node_term g b) (node_term g a))

pub plain_literals : (s : Shared) (item : Item) → Contains (literals_in s) item
    → is_quantified item ≡ false
plain_literals s item h =
    elim (Contains-append_cases (items_in s) (map (group_item s.graph) s.groups) item h) [
      | inl asserted ↦
          let found = Contains-of_map (item_of s.graph) s.asserted item asserted in
          subst (λ i. is_quantified i ≡ false) found.2 (plain_lit s.graph found.0)
      | inr group ↦
          let found = Contains-of_map (group_item s.graph) s.groups item group in
          subst (λ i. is_quantified i ≡ false) found.2
          (ap is_quantified_form (out-Distinct (map (node_term s.graph) found.0)))
    ]

-- ---- a literal

module _ (v : LiveBranch) (standing : IsStanding v) (given : IsGiven v) (at : Occurrence)
    (live : IsLiveOccurrence v.book at) (unsaid : judge_on v at ≡ truth.Open) (item : Item)
    (there : item_at (logged v) at ≡ Some item)
    (form : is_literal_form (out-Formula item.formula) item.positive ≡ true)
    (sides : All (Contains (terms_in v.sharing.graph)) (item_sides item))
    (book_stays : BookStays) (t : Sharing Simplex) (shares : SharesItem v.sharing t item) where
  abbrev w : LiveBranch
  w = record v { literals = v.literals ++ at ∷ []; sharing = t }

  pub literals_are : literals_on w ≡ literals_on v ++ item ∷ []
  literals_are = filter_map-append (item_at (logged v)) v.literals (at ∷ [])
      ∙ ap (λ o. literals_on v ++ cons_option o []) there

  kept : (other : Item) → Contains (literals_on v) other → Contains (literals_on w) other
  kept other h = subst (λ is. Contains is other) (sym literals_are)
      (Contains-append_left (literals_on v) (item ∷ []) other h)

  here : Contains (literals_on w) item
  here = subst (λ is. Contains is item) (sym literals_are) (Contains-push (literals_on v) item)

  cases : (other : Item) → Contains (literals_on w) other
      → Contains (literals_on v) other ⊎ (item ≡ other)
  cases other h = elim (Contains-append_cases (literals_on v) (item ∷ []) other
      (subst (λ is. Contains is other) literals_are h)) [
        | inl old ↦ inl old
        | inr new ↦ elim (Contains-cases item [] other new) [
          | inl same ↦ inr same
          | inr none ↦ absurd (Contains-none other none)
        ]
      ]

  alike : HaveSameUnquantified (literals_in (shared_in t)) (literals_on w)
  alike other plain = (
    λ h. elim ((shares.literals other plain).0 h) [
      | inl old ↦ kept other ((standing.shared.asserted other plain).0 old)
      | inr same ↦ subst (Contains (literals_on w)) same here
    ],
    λ h. (shares.literals other plain).1 (elim (cases other h) [
      | inl old ↦ inl ((standing.shared.asserted other plain).1 old)
      | inr same ↦ inr same
    ]),
  )

  play : IsSamePlay (play_in (shared_in t)) (play_of (live_on v))
  play = record {
    terms = shares.terms ∙ standing.shared.play.terms;
    numbers = λ x. (
      λ h. (standing.shared.play.numbers x).0
          (subst (λ ns. Contains (number_terms ns) x) shares.numbers h),
      λ h. subst (λ ns. Contains (number_terms ns) x) (sym shares.numbers)
          ((standing.shared.play.numbers x).1 h),
    );
  }

  book : IsBook t.graph v.book
  book = book_stays v.sharing.graph t.graph v.book [] standing.book
      (shares.terms ∙ sym (append-nil (terms_in v.sharing.graph)))

  literals_of : AreLiteralsOf (live_on v) (literals_on w)
  literals_of = record {
    forms = subst (All (λ other. IsTrue (is_literal_form (out-Formula other.formula)
        other.positive))) (sym literals_are)
        (All-push (λ (other : Item). IsTrue (is_literal_form (out-Formula other.formula)
        other.positive)) (literals_on v) item standing.shared.literals_are.forms form);
    atoms = subst (All (λ other. Contains (flat_map atoms_of (live_on v)) other.formula))
        (sym literals_are)
        (All-push (λ (other : Item). Contains (flat_map atoms_of (live_on v)) other.formula)
        (literals_on v) item standing.shared.literals_are.atoms
        (atom_at v at live item there form));
  }

  occur : All (IsLiveOccurrence v.book) (v.literals ++ at ∷ [])
  occur = All-push (IsLiveOccurrence v.book) v.literals at standing.shared.occur live

  pub item_holds : (M : Model) → AreSoIn M v (at ∷ []) → HoldsIn M item
  item_holds M so = subst (λ o. IsSomeAnd o (HoldsIn M)) there
      (All-head (IsSo (HoldsIn M) (logged v)) at [] so.each)

  pub literals_hold : (M : Model) → AreSoIn M v (at ∷ []) → All (HoldsIn M) (literals_on w)
  literals_hold M so = subst (All (HoldsIn M)) (sym literals_are)
      (All-push (HoldsIn M) (literals_on v) item so.branch.literals (item_holds M so))

  -- those of the sharing are so too
  shared_hold : (M : Model) → All (HoldsIn M) (literals_on w)
      → All (HoldsIn M) (literals_in (shared_in t))
  shared_hold M all = All-each (HoldsIn M) (literals_in (shared_in t)) (λ other h.
      All-contains (HoldsIn M) (literals_on w) other all
      ((alike other (plain_literals (shared_in t) other h)).0 h))

  pub closed_literal : HaveNoModel (literals_in (shared_in t)) → (M : Model)
      → AreSoIn M v (at ∷ []) → ⊥
  closed_literal none M so = none M (shared_hold M (literals_hold M so))

  -- ---- it stops

  asks : flat_map asked (literals_on w)
      ≡ flat_map asked (items_in (shared_in v.sharing)) ++ asked item
  asks = ap (flat_map asked) literals_are
      ∙ (flat_map-push asked (literals_on v) item
      ∙ ap (λ gaps. gaps ++ asked item) standing.shared.asks)

  pub stops_literal : (why : Stop) → StopsSharing v.sharing t item why
      → StopsAsserting v w (at ∷ []) why
  stops_literal why stops =
      let stopped = stops (logged v) (literals_on w) given.given
      (logged_literals v (literals_on w) literals_of) asks in
      record {
        stopped = record {
          book = book;
          occur = occur;
          stopped = stopped;
          told = All-weaker (AreEqualInModels (literals_in (shared_in t)))
              (AreEqualInModels (literals_on w)) (λ pair h M all. h M (shared_hold M all))
              (told_in (shared_in t)) stopped.underway.follow;
        };
        sound = literals_hold;
      }

  -- ---- it stays open

  module _ (shared : IsShared (shared_in t)) where
    least : IsLeast (literals_on w) (play_of (live_on v)) (classes_on w)
    least = least_stays (literals_in (shared_in t)) (literals_on w) (play_in (shared_in t))
        (play_of (live_on v)) (classes_on w) alike play shared.least

    further : GoesFurther (literals_on v) (classes_on v) (literals_on w) (classes_on w)
    further = goes_further (literals_on v) (literals_on w) (play_of (live_on v))
        (play_of (live_on v)) kept (λ x h. h) (λ x h. h) (classes_on v) (classes_on w)
        (least_on v standing.shared) least

    in_play : All (Contains (play_of (live_on v)).terms) (item_sides item)
    in_play = subst (λ ts. All (Contains ts) (item_sides item)) standing.shared.play.terms sides

    -- the contrary is no literal
    no_contrary : Contains (literals_on v) (contrary_item item) → ⊥
    no_contrary h =
        open_contrary v standing.shared at live item there unsaid
        (literal_covered (literals_on v) (play_of (live_on v)) (classes_on v)
        (least_on v standing.shared) standing.shared.consistent (contrary_item item)
        (All-contains (λ (other : Item). IsTrue (is_literal_form (out-Formula other.formula)
        other.positive)) (literals_on v) (contrary_item item)
        standing.shared.literals_are.forms h) h in_play)

    one_sign : (f : Formula)
        → Contains (literals_on w) (record { formula = f; positive = true })
        → Contains (literals_on w) (record { formula = f; positive = false }) → ⊥
    one_sign f h k = elim (cases (record { formula = f; positive = true }) h) [
      | inl old ↦ elim (cases (record { formula = f; positive = false }) k) [
        | inl also ↦ standing.shared.consistent.one_sign f old also
        | inr same ↦ no_contrary (subst (λ i. Contains (literals_on v) (contrary_item i)) (sym same)
            old)
      ]
      | inr same ↦ elim (cases (record { formula = f; positive = false }) k) [
        | inl old ↦ no_contrary (subst (λ i. Contains (literals_on v) (contrary_item i)) (sym same)
            old)
        | inr other ↦ true_false (ap (λ (i : Item). i.positive) (sym same ∙ other))
      ]
    ]
      where
        true_false : true ≡ false → ⊥
        true_false e = cc

    consistent : IsConsistent (literals_on w) (classes_on w)
    consistent = consistent_stays (literals_in (shared_in t)) (literals_on w) (classes_on w) alike
        one_sign shared.consistent

    made_still : (c : List Occurrence) → IsMade v c → IsMade w c
    made_still c made = record {
      part = made.part;
      live = made.live;
      whole = made.whole;
      made = made.made;
      test = made.test;
      left = made.left;
    }

    standing_still : IsStanding w
    standing_still = record {
      closed = standing.closed;
      book = book;
      shared = record {
        shared = shared;
        play = play;
        asserted = alike;
        asks = asks ∙ sym shares.asks;
        consistent = consistent;
        literals_are = literals_of;
        occur = occur;
      };
      clauses = All-weaker (IsMade v) (IsMade w) made_still (left_in v.clauses) standing.clauses;
    }

    covered_here : IsSo (IsCovered (literals_on w) (classes_on w)) (logged v) at
    covered_here = subst (λ o. IsSomeAnd o (IsCovered (literals_on w) (classes_on w))) (sym there)
        (literal_covered (literals_on w) (play_of (live_on v)) (classes_on w) least consistent item
        form here in_play)

    pub reaches_literal : Reaches v w (at ∷ [])
    reaches_literal = record {
      standing = standing_still;
      expanded = All-cons (WasExpanded w) at [] (covered at covered_here) (All-nil (WasExpanded w));
      stays = expanded_stays (logged v) (literals_on v) (literals_on w) (classes_on v)
          (classes_on w) (left_in v.clauses) (left_in v.clauses)
          (so_kept (IsCovered (literals_on v) (classes_on v))
          (IsCovered (literals_on w) (classes_on w))
          (covered_stays (literals_on v) (literals_on w) (play_of (live_on v)) (classes_on v)
          (classes_on w) further least consistent) (logged v))
          (λ c h. h);
      sound = λ M so. record {
        literals = literals_hold M so;
        decisions = so.branch.decisions;
        clauses = so.branch.clauses;
      };
    }

-- ---- how it ends

module _ (v : LiveBranch) (standing : IsStanding v) (given : IsGiven v) (at : Occurrence)
    (live : IsLiveOccurrence v.book at) (unsaid : judge_on v at ≡ truth.Open)
    (literal : IsLiteralAt (logged v) at) (book_stays : BookStays) where
  form_at : (item : Item) → item_at (logged v) at ≡ Some item
      → is_literal_form (out-Formula item.formula) item.positive ≡ true
  form_at item there = subst (λ o. IsSomeAnd o (λ i. IsTrue
      (is_literal_form (out-Formula i.formula) i.positive))) there literal

  abbrev pub pushed : LiveBranch
  pushed = record v { literals = v.literals ++ at ∷ [] }

  ends_at : (t : Sharing Simplex) (result : Result State Stop) (item : Item)
      → item_at (logged v) at ≡ Some item
      → All (Contains (terms_in v.sharing.graph)) (item_sides item)
      → ShareEnds v.sharing t item result
      → Asserts v (record v { literals = v.literals ++ at ∷ []; sharing = t }) (at ∷ []) result
  ends_at t (Ok state.Open) item there sides ends =
      reaches_literal v standing given at live unsaid item there (form_at item there) sides
      book_stays t ends.0 ends.1
  ends_at t (Ok state.Closed) item there sides ends =
      closed_literal v standing given at live unsaid item there (form_at item there) sides
      book_stays t ends.0 ends.1
  ends_at t (Err (stop.Spill j)) item there sides ends =
      stops_literal v standing given at live unsaid item there (form_at item there) sides
      book_stays t ends.shares (stop.Spill j) ends.stops
  ends_at t (Err (stop.Form u)) item there sides ends =
      stops_literal v standing given at live unsaid item there (form_at item there) sides
      book_stays t ends.shares (stop.Form u) ends.stops
  ends_at t (Err (stop.Pivots j)) item there sides ends =
      stops_literal v standing given at live unsaid item there (form_at item there) sides
      book_stays t ends.shares (stop.Pivots j) ends.stops
  ends_at t (Err stop.Memory) item there sides ends = tt

  module _ (p w : LiveBranch) (is : p ≡ pushed) (rest : w ≡ record p { sharing = w.sharing }) where
    whole : w ≡ record v { literals = v.literals ++ at ∷ []; sharing = w.sharing }
    whole = rest ∙ ap (λ (x : LiveBranch). record x { sharing = w.sharing }) is

    pub asserts_literal : (result : Result State Stop) → Comes p w at result
        → Asserts v w (at ∷ []) result
    asserts_literal result comes =
        let here : Comes pushed w at result = subst (λ x. Comes x w at result) is comes in
        subst (λ x. Asserts v x (at ∷ []) result) (sym whole)
        (ends_at w.sharing result here.item here.there here.sides here.ends)

    pub steps_literal : IsSimplex w.sharing.theory
        → StaysGiven p.sharing.theory w.sharing.theory
        → w.sharing.theory.limit ≡ p.sharing.theory.limit → MeansMore p w → Steps v w
    steps_literal sound stays limit means = record {
      book = ap (λ (x : LiveBranch). x.book) whole;
      literals = (at ∷ [], ap (λ (x : LiveBranch). x.literals) whole);
      decisions = ap (λ (x : LiveBranch). x.clauses.decisions) whole;
      given = record {
        sound = sound;
        given = subst (λ fs. IsGivenBy fs w.sharing.theory)
            (sym (ap (λ (x : LiveBranch). x.book.logged) whole))
            (stays (logged v) (subst (λ (x : LiveBranch). IsGivenBy (logged v) x.sharing.theory)
            (sym is) given.given));
      };
      means = subst (λ (x : LiveBranch). MeansMore x w) is means;
      limit = limit ∙ ap (λ (x : LiveBranch). x.sharing.theory.limit) is;
    }
