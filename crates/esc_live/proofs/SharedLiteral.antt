-- The sharing gets a literal, and the branch sees what it got.
use Rattle.std.proofs.Common.{◌≡◌, ◌≢◌, ◌⊎◌, inl, inr, ℕ, ◌<◌, Bool, true, false, List, [], ◌∷◌}
use Rattle.std.proofs.Common.{◌++◌, Option, Some, None, length, map, refl, ap, ap₂, sym, subst, ◌∙◌}
use Rattle.std.proofs.Common.{if◌then◌else◌}
use Rattle.std.specs.Prelude.{◌↔◌, IsTrue, Ok, Err, Result, IfErr}
use Rattle.std.specs.List.{All, Contains, filter, flat_map}
use Rattle.std.specs.Option.{IsSomeAnd, option_map}
use Rattle.std.proofs.lemmas.List.{append-nil, map-append}
use Rattle.std.proofs.lemmas.List.Elements.{All-cons, All-contains, All-head, All-nil, All-tail}
use Rattle.std.proofs.lemmas.List.Elements.{Contains-append_cases, Contains-append_left}
use Rattle.std.proofs.lemmas.List.Elements.{Contains-append_right}
use Rattle.esc_term.specs.declared.term.Term.{Term}
use Rattle.esc_term.specs.declared.formula.Formula.{Formula, out-Formula}
use Rattle.esc_term.specs.declared.formula.Formula.TheVariants as formula
use Rattle.esc_term.specs.declared.formula.Formula.TheOpen.{Formula-F}
use Rattle.esc_term.specs.declared.formula.Quant.{Quant}
use Rattle.esc_term.specs.declared.formula.Item.{Item}
use Rattle.esc_term.proofs.Members.{Contains-cases, Contains-here, Contains-none}
use Rattle.esc_cover.specs.Assignment.{asked, asked_form}
use Rattle.esc_cover.specs.Counterexample.{AreLiteralsOf, is_literal_form}
use Rattle.esc_cover.proofs.TestLemmas.{has-found, of_kept}
use Rattle.esc_cover.specs.Classes.{has}
use Rattle.esc_clause.specs.Occurrences.{formula_at, item_at, signed}
use Rattle.esc_clause.specs.declared.occurrence.Occurrence.{Occurrence}
use Rattle.esc_nodes.specs.Terms.{at_place, term_of, terms_of}
use Rattle.esc_egraph.specs.Graph.{Graph}
use Rattle.esc_egraph.specs.declared.state.State.{State}
use Rattle.esc_egraph.specs.declared.state.State.TheVariants.{Open, Closed}
use Rattle.esc_node_terms.specs.Nodes.{place_among}
use Rattle.esc_node_terms.proofs.LiteralForms.{out-Distinct, out-Eq}
use Rattle.esc_node_terms.proofs.Places.{Contains-term_of, place-term_of}
use Rattle.esc_simplex.specs.Barred.{IsBarred}
use Rattle.esc_simplex.specs.View.{IsSimplex, numbers_in, senses_in}
use Rattle.esc_simplex.specs.declared.simplex.Simplex.{Simplex}
use Rattle.esc_simplex.specs.declared.stop.Stop.{Stop}
use Rattle.esc_simplex.specs.declared.stop.Stop.TheVariants as stop
use Rattle.esc_sharing.specs.Calls.{Adds, AssertEnds}
use Rattle.esc_sharing.specs.Literals.{AreSides, equality, group_item, item_of, order, sides}
use Rattle.esc_sharing.specs.Nodes.{node_count, node_term, terms_in}
use Rattle.esc_sharing.specs.Numbers.{AddsMade, IsGapOf, IsNumber, arithmetic_among, number_terms}
use Rattle.esc_sharing.specs.Numbers.{pair_terms}
use Rattle.esc_sharing.specs.Shared.{IsShared, IsUnderway, Shared, items_in, literals_in}
use Rattle.esc_sharing.specs.Stops.{UnlessMemory}
use Rattle.esc_sharing.specs.Unquantified.{is_quantified, is_quantified_form}
use Rattle.esc_sharing.specs.declared.literal.Lit.{Lit}
use Rattle.esc_sharing.specs.declared.literal.Lit.TheVariants.{Equal, Apart, Below, AtMost}
use Rattle.esc_sharing.specs.declared.sharing.Sharing.{Sharing}
use Rattle.esc_sharing.proofs.Least.{node_of_number}
use Rattle.esc_sharing.proofs.Lists.{All-each, flat_map-push}
use Rattle.esc_outcome.specs.Jam.{IsNumberOf}
use Rattle.esc_outcome.specs.JamLaws.{IsGivenBy, shared_in}
use Rattle.esc_outcome.proofs.Giving.{given_after_call}
use Rattle.esc_outcome.proofs.Jamming.{stops_is_stopped}
use Rattle.esc_book.specs.Atom.{IsAtomOf, IsDistinctAt, IsGroupOf}
use Rattle.esc_book.specs.declared.atom.Atom.{Atom}
use Rattle.esc_book.specs.declared.atom.Atom.TheVariants as atom
use Rattle.esc_live.specs.StandingInside.{Comes, GivesUpSharing, IsLiteralAt, ShareEnds, SharesItem}
use Rattle.esc_live.specs.StandingInside.{HasNumbers, StaysGiven, StopsSharing, equation_lit}
use Rattle.esc_live.specs.StandingInside.{item_sides}
use Rattle.esc_live.specs.StandingInside.{order_lit, sides_form}
use Rattle.esc_live.specs.View.{logged}
use Rattle.esc_live.specs.declared.branch.LiveBranch.{LiveBranch}
use Rattle.esc_live.proofs.LiteralOn.{out-Less}

-- ---- one more among others

module _ {X : Type 0} (x other : X) where
  of_one : Contains (x ∷ []) other → x ≡ other
  of_one h = elim (Contains-cases x [] other h) [
    | inl same ↦ same
    | inr none ↦ absurd (Contains-none other none)
  ]

  as_one : x ≡ other → Contains (x ∷ []) other
  as_one e = subst (Contains (x ∷ [])) e (Contains-here x [])

  in_middle : (xs ys : List X) → Contains ((xs ++ x ∷ []) ++ ys) other
      ↔ (Contains (xs ++ ys) other ⊎ (x ≡ other))
  in_middle xs ys = (
    λ h. elim (Contains-append_cases (xs ++ x ∷ []) ys other h) [
      | inl front ↦ elim (Contains-append_cases xs (x ∷ []) other front) [
        | inl a ↦ inl (Contains-append_left xs ys other a)
        | inr b ↦ inr (of_one b)
      ]
      | inr c ↦ inl (Contains-append_right xs ys other c)
    ],
    λ h. elim h [
      | inl old ↦ elim (Contains-append_cases xs ys other old) [
        | inl a ↦ Contains-append_left (xs ++ x ∷ []) ys other
            (Contains-append_left xs (x ∷ []) other a)
        | inr c ↦ Contains-append_right (xs ++ x ∷ []) ys other c
      ]
      | inr e ↦ Contains-append_left (xs ++ x ∷ []) ys other
          (Contains-append_right xs (x ∷ []) other (as_one e))
    ],
  )

  at_end : (xs ys : List X) → Contains (xs ++ (ys ++ x ∷ [])) other
      ↔ (Contains (xs ++ ys) other ⊎ (x ≡ other))
  at_end xs ys = (
    λ h. elim (Contains-append_cases xs (ys ++ x ∷ []) other h) [
      | inl a ↦ inl (Contains-append_left xs ys other a)
      | inr back ↦ elim (Contains-append_cases ys (x ∷ []) other back) [
        | inl b ↦ inl (Contains-append_right xs ys other b)
        | inr c ↦ inr (of_one c)
      ]
    ],
    λ h. elim h [
      | inl old ↦ elim (Contains-append_cases xs ys other old) [
        | inl a ↦ Contains-append_left xs (ys ++ x ∷ []) other a
        | inr b ↦ Contains-append_right xs (ys ++ x ∷ []) other
            (Contains-append_left ys (x ∷ []) other b)
      ]
      | inr e ↦ Contains-append_right xs (ys ++ x ∷ []) other
          (Contains-append_right ys (x ∷ []) other (as_one e))
    ],
  )

-- ---- the same terms

module _ (g h : Graph) (same : terms_in h ≡ terms_in g) where
  term_same : (a : ℕ) → node_term h a ≡ node_term g a
  unfolding term_of
  term_same a = ap (λ ts. at_place ts a) same

  item_same : (lit : Lit) → item_of h lit ≡ item_of g lit
  item_same (Equal a b) = ap₂ (λ s t. equality s t true) (term_same a) (term_same b)
  item_same (Apart a b) = ap₂ (λ s t. equality s t false) (term_same a) (term_same b)
  item_same (Below a b) = ap₂ (λ s t. order s t true) (term_same a) (term_same b)
  item_same (AtMost a b) = ap₂ (λ s t. order t s false) (term_same a) (term_same b)

  items_same : (lits : List Lit) → map (item_of h) lits ≡ map (item_of g) lits
  items_same [] = refl
  items_same (lit ∷ lits) = ap₂ (λ i is. i ∷ is) (item_same lit) (items_same lits)

  terms_same : (ns : List ℕ) → map (node_term h) ns ≡ map (node_term g) ns
  terms_same [] = refl
  terms_same (n ∷ ns) = ap₂ (λ t ts. t ∷ ts) (term_same n) (terms_same ns)

  groups_same : (gs : List (List ℕ)) → map (group_item h) gs ≡ map (group_item g) gs
  groups_same [] = refl
  groups_same (ns ∷ gs) = ap₂ (λ i is. i ∷ is) (ap distinct (terms_same ns)) (groups_same gs)
    where
      distinct : List Term → Item
      distinct ts = record { formula = formula.Distinct ts; positive = true }

-- ---- what the sharing got

module _ (s t : Sharing Simplex) (numbers : numbers_in t.theory ≡ numbers_in s.theory) where
  abbrev groups_of : List Item
  groups_of = map (group_item s.graph) s.groups

  module _ (lit : Lit) (adds : Adds (shared_in s) (shared_in t) (lit ∷ []) []) where
    lit_items : items_in (shared_in t) ≡ items_in (shared_in s) ++ item_of s.graph lit ∷ []
    lit_items = items_same s.graph t.graph adds.terms t.asserted
        ∙ (ap (map (item_of s.graph)) adds.asserted
        ∙ map-append (item_of s.graph) s.asserted (lit ∷ []))

    lit_literals : literals_in (shared_in t)
        ≡ (items_in (shared_in s) ++ item_of s.graph lit ∷ []) ++ groups_of
    lit_literals = ap₂ (λ xs ys. xs ++ ys) lit_items
        (groups_same s.graph t.graph adds.terms t.groups
        ∙ ap (map (group_item s.graph)) (adds.groups ∙ append-nil s.groups))

    pub shares_lit : SharesItem s t (item_of s.graph lit)
    shares_lit = record {
      literals = λ other plain. subst
          (λ is. Contains is other ↔ (Contains (literals_in (shared_in s)) other
          ⊎ (item_of s.graph lit ≡ other))) (sym lit_literals)
          (in_middle (item_of s.graph lit) other (items_in (shared_in s)) groups_of);
      asks = ap (flat_map asked) lit_items
          ∙ flat_map-push asked (items_in (shared_in s)) (item_of s.graph lit);
      terms = adds.terms;
      numbers = numbers;
    }

  module _ (nodes : List ℕ) (adds : Adds (shared_in s) (shared_in t) [] (nodes ∷ [])) where
    group_items : items_in (shared_in t) ≡ items_in (shared_in s)
    group_items = items_same s.graph t.graph adds.terms t.asserted
        ∙ ap (map (item_of s.graph)) (adds.asserted ∙ append-nil s.asserted)

    group_literals : literals_in (shared_in t)
        ≡ items_in (shared_in s) ++ (groups_of ++ group_item s.graph nodes ∷ [])
    group_literals = ap₂ (λ xs ys. xs ++ ys) group_items
        (groups_same s.graph t.graph adds.terms t.groups
        ∙ (ap (map (group_item s.graph)) adds.groups
        ∙ map-append (group_item s.graph) s.groups (nodes ∷ [])))

    pub shares_group : SharesItem s t (group_item s.graph nodes)
    shares_group = record {
      literals = λ other plain. subst
          (λ is. Contains is other ↔ (Contains (literals_in (shared_in s)) other
          ⊎ (group_item s.graph nodes ≡ other))) (sym group_literals)
          (at_end (group_item s.graph nodes) other (items_in (shared_in s)) groups_of);
      asks = ap (flat_map asked) group_items
          ∙ (sym (append-nil (flat_map asked (items_in (shared_in s))))
          ∙ ap (λ gaps. flat_map asked (items_in (shared_in s)) ++ gaps)
          (sym (ap (λ form. asked_form form true) (out-Distinct (map (node_term s.graph) nodes)))));
      terms = adds.terms;
      numbers = numbers;
    }

  -- ---- it stops

  module _ (item : Item) (shares : SharesItem s t item) (terms : List Term)
      (among : (fs : List Formula) → IsGivenBy fs s.theory → All (IsNumberOf fs) terms)
      (sound : IsSimplex t.theory) (given : StaysGiven s.theory t.theory) where
    stops : (why : Stop) → why ≢ stop.Memory → IsUnderway (shared_in t)
        → UnlessMemory (IsBarred t.theory (Contains terms)
        (IsGapOf (number_terms (numbers_in s.theory)))) why → StopsSharing s t item why
    stops why not_memory underway barred fs literals by are asks =
        stops_is_stopped fs t literals terms (number_terms (numbers_in s.theory)) why (record {
          sound = sound;
          underway = underway;
          given = given fs by;
          literals_are = are;
          more = [];
          ask = asks ∙ (sym shares.asks
              ∙ sym (append-nil (flat_map asked (items_in (shared_in t)))));
          terms_are = among fs by;
          others_are = by.numbers;
          barred = barred;
          memory = not_memory;
        })

    abbrev Barred : Stop → Type 0
    Barred = IsBarred t.theory (Contains terms) (IsGapOf (number_terms (numbers_in s.theory)))

    gives_up : (why : Stop) → why ≢ stop.Memory → IsUnderway (shared_in t)
        → UnlessMemory Barred why → GivesUpSharing s t item why
    gives_up why not_memory underway barred =
        record { shares = shares; stops = stops why not_memory underway barred }

-- what a call makes of arithmetic terms is given
pub stays_given : (s t : Sharing Simplex) → numbers_in t.theory ≡ numbers_in s.theory
    → AddsMade (senses_in s.theory) (senses_in t.theory) (number_terms (numbers_in s.theory))
    → StaysGiven s.theory t.theory
stays_given s t numbers made fs by =
    given_after_call fs (number_terms (numbers_in s.theory)) s.theory t.theory by
    (subst (λ ns. All (IsNumberOf fs) (number_terms ns)) (sym numbers) by.numbers) by.numbers made

-- ---- how it ends

abbrev pub lit_terms : Sharing Simplex → Lit → List Term
lit_terms s lit = arithmetic_among (numbers_in s.theory) (pair_terms s.graph (sides lit))

lit_among : (s : Sharing Simplex) (lit : Lit) (fs : List Formula) → IsGivenBy fs s.theory
    → All (IsNumberOf fs) (lit_terms s lit)
lit_among s lit fs by = All-each (IsNumberOf fs) (lit_terms s lit) (λ t h.
    All-contains (IsNumberOf fs) (number_terms (numbers_in s.theory)) t by.numbers
    (has-found (number_terms (numbers_in s.theory)) t
    (of_kept (has (number_terms (numbers_in s.theory))) (pair_terms s.graph (sides lit)) t h).1))

module _ (s t : Sharing Simplex) (numbers : numbers_in t.theory ≡ numbers_in s.theory)
    (sound : IsSimplex t.theory) (given : StaysGiven s.theory t.theory) where
  pub lit_ends : (lit : Lit) (result : Result State Stop)
      → AssertEnds (shared_in s) (shared_in t) (lit ∷ []) [] result
      → IfErr result (UnlessMemory (IsBarred t.theory (Contains (lit_terms s lit))
      (IsGapOf (number_terms (numbers_in s.theory)))))
      → ShareEnds s t (item_of s.graph lit) result
  lit_ends lit (Ok Open) ends barred = (shares_lit s t numbers lit ends.0, ends.1)
  lit_ends lit (Ok Closed) ends barred = (shares_lit s t numbers lit ends.0, ends.1)
  lit_ends lit (Err (stop.Spill j)) ends barred =
      gives_up s t numbers (item_of s.graph lit) (shares_lit s t numbers lit ends.0)
      (lit_terms s lit) (lit_among s lit) sound given (stop.Spill j) (λ e. cc) ends.1 barred
  lit_ends lit (Err (stop.Form u)) ends barred =
      gives_up s t numbers (item_of s.graph lit) (shares_lit s t numbers lit ends.0)
      (lit_terms s lit) (lit_among s lit) sound given (stop.Form u) (λ e. cc) ends.1 barred
  lit_ends lit (Err (stop.Pivots j)) ends barred =
      gives_up s t numbers (item_of s.graph lit) (shares_lit s t numbers lit ends.0)
      (lit_terms s lit) (lit_among s lit) sound given (stop.Pivots j) (λ e. cc) ends.1 barred
  lit_ends lit (Err stop.Memory) ends barred = tt

  pub group_ends : (nodes : List ℕ) (result : Result State Stop)
      → AssertEnds (shared_in s) (shared_in t) [] (nodes ∷ []) result
      → IfErr result (UnlessMemory (IsBarred t.theory (Contains [])
      (IsGapOf (number_terms (numbers_in s.theory)))))
      → ShareEnds s t (group_item s.graph nodes) result
  group_ends nodes (Ok Open) ends barred = (shares_group s t numbers nodes ends.0, ends.1)
  group_ends nodes (Ok Closed) ends barred = (shares_group s t numbers nodes ends.0, ends.1)
  group_ends nodes (Err (stop.Spill j)) ends barred =
      gives_up s t numbers (group_item s.graph nodes) (shares_group s t numbers nodes ends.0)
      [] (λ fs by. All-nil (IsNumberOf fs)) sound given (stop.Spill j) (λ e. cc) ends.1 barred
  group_ends nodes (Err (stop.Form u)) ends barred =
      gives_up s t numbers (group_item s.graph nodes) (shares_group s t numbers nodes ends.0)
      [] (λ fs by. All-nil (IsNumberOf fs)) sound given (stop.Form u) (λ e. cc) ends.1 barred
  group_ends nodes (Err (stop.Pivots j)) ends barred =
      gives_up s t numbers (group_item s.graph nodes) (shares_group s t numbers nodes ends.0)
      [] (λ fs by. All-nil (IsNumberOf fs)) sound given (stop.Pivots j) (λ e. cc) ends.1 barred
  group_ends nodes (Err stop.Memory) ends barred = tt

-- ---- seen from the branch

item_there : (fs : List Formula) (at : Occurrence) (f : Formula) → formula_at fs at ≡ Some f
    → item_at fs at ≡ Some (signed at.positive f)
item_there fs at f e = ap (option_map (signed at.positive)) e

module _ (v : LiveBranch) (at : Occurrence) (t : Sharing Simplex) (result : Result State Stop)
  where
    abbrev w : LiveBranch
    w = record v { sharing = t }

    comes_as : (f : Formula) (item : Item) → formula_at (logged v) at ≡ Some f
        → item ≡ signed at.positive f
        → All (Contains (terms_in v.sharing.graph)) (sides_form (out-Formula f))
        → ShareEnds v.sharing t item result → Comes v w at result
    comes_as f item there same sides ends = record {
      item = signed at.positive f;
      there = item_there (logged v) at f there;
      sides = sides;
      ends = subst (λ i. ShareEnds v.sharing t i result) same ends;
    }

    node_there : (a : ℕ) → a < node_count v.sharing.graph
        → Contains (terms_in v.sharing.graph) (node_term v.sharing.graph a)
    node_there a al = Contains-term_of v.sharing.graph.nodes a al

    nodes_there : (ns : List ℕ) → All (λ a. a < node_count v.sharing.graph) ns
        → All (Contains (terms_in v.sharing.graph)) (map (node_term v.sharing.graph) ns)
    nodes_there [] all = All-nil (Contains (terms_in v.sharing.graph))
    nodes_there (n ∷ ns) all =
        All-cons (Contains (terms_in v.sharing.graph)) (node_term v.sharing.graph n)
        (map (node_term v.sharing.graph) ns)
        (node_there n (All-head (λ a. a < node_count v.sharing.graph) n ns all))
        (nodes_there ns (All-tail (λ a. a < node_count v.sharing.graph) n ns all))

    pub comes_equal : (a b : ℕ)
        → IsAtomOf v.sharing.graph (formula_at (logged v) at) (atom.Equal a b)
        → ShareEnds v.sharing t (item_of v.sharing.graph (equation_lit a b at.positive)) result
        → Comes v w at result
    comes_equal a b is ends =
        let s = node_term v.sharing.graph a in
        let u = node_term v.sharing.graph b in
        comes_as (formula.Eq s u) (item_of v.sharing.graph (equation_lit a b at.positive)) is.0
        (same at.positive)
        (subst (All (Contains (terms_in v.sharing.graph))) (sym (ap sides_form (out-Eq s u)))
        (All-cons (Contains (terms_in v.sharing.graph)) s (u ∷ []) (node_there a is.1.0)
        (All-cons (Contains (terms_in v.sharing.graph)) u [] (node_there b is.1.1)
        (All-nil (Contains (terms_in v.sharing.graph)))))) ends
      where
        same : (p : Bool) → item_of v.sharing.graph (equation_lit a b p)
            ≡ signed p (formula.Eq (node_term v.sharing.graph a) (node_term v.sharing.graph b))
        same true = refl
        same false = refl

    pub comes_less : (a b : ℕ)
        → IsAtomOf v.sharing.graph (formula_at (logged v) at) (atom.Less a b)
        → ShareEnds v.sharing t (item_of v.sharing.graph (order_lit a b at.positive)) result
        → Comes v w at result
    comes_less a b is ends =
        let s = node_term v.sharing.graph a in
        let u = node_term v.sharing.graph b in
        comes_as (formula.Less s u) (item_of v.sharing.graph (order_lit a b at.positive)) is.0
        (same at.positive)
        (subst (All (Contains (terms_in v.sharing.graph))) (sym (ap sides_form (out-Less s u)))
        (All-nil (Contains (terms_in v.sharing.graph)))) ends
      where
        same : (p : Bool) → item_of v.sharing.graph (order_lit a b p)
            ≡ signed p (formula.Less (node_term v.sharing.graph a) (node_term v.sharing.graph b))
        same true = refl
        same false = refl

    pub comes_group : (nodes : List ℕ) → IsGroupOf v.sharing.graph (formula_at (logged v) at) nodes
        → IsLiteralAt (logged v) at
        → ShareEnds v.sharing t (group_item v.sharing.graph nodes) result → Comes v w at result
    comes_group nodes is literal ends =
        let ts = map (node_term v.sharing.graph) nodes in
        comes_as (formula.Distinct ts) (group_item v.sharing.graph nodes) is.is
        (ap (λ p. signed p (formula.Distinct ts)) (sym positive))
        (subst (All (Contains (terms_in v.sharing.graph))) (sym (ap sides_form (out-Distinct ts)))
        (nodes_there nodes is.nodes)) ends
      where
        positive : at.positive ≡ true
        positive =
            let ts = map (node_term v.sharing.graph) nodes in
            sym (ap (λ form. is_literal_form form at.positive) (out-Distinct ts))
            ∙ subst (λ o. IsSomeAnd o (λ item. IsTrue (is_literal_form (out-Formula item.formula)
            item.positive))) (item_there (logged v) at (formula.Distinct ts) is.is) literal

quantified_sides : (form : Formula-F Formula Quant) → is_quantified_form form ≡ true
    → sides_form form ≡ []
quantified_sides (Formula-F.Eq s u) e = absurd (cc)
quantified_sides (Formula-F.Distinct ts) e = absurd (cc)
quantified_sides form e = refl

quantified_asks : (form : Formula-F Formula Quant) (p : Bool) → is_quantified_form form ≡ true
    → asked_form form p ≡ []
quantified_asks (Formula-F.Less s u) p e = absurd (cc)
quantified_asks form p e = refl

-- of a quantified formula the sharing gets nothing
pub comes_quantified : (v : LiveBranch) (at : Occurrence) → IsShared (shared_in v.sharing)
    → IsAtomOf v.sharing.graph (formula_at (logged v) at) atom.Quantified
    → Comes v v at (Ok Open)
comes_quantified v at shared is = go (formula_at (logged v) at) refl is
  where
    go : (o : Option Formula) → formula_at (logged v) at ≡ o
        → IsSomeAnd o (λ f. is_quantified_form (out-Formula f) ≡ true) → Comes v v at (Ok Open)
    go None there quantified = absurd quantified
    go (Some f) there quantified = record {
      item = signed at.positive f;
      there = item_there (logged v) at f there;
      sides = subst (All (Contains (terms_in v.sharing.graph)))
          (sym (quantified_sides (out-Formula f) quantified))
          (All-nil (Contains (terms_in v.sharing.graph)));
      ends = (
        record {
          literals = λ other plain. (
            λ h. inl h,
            λ h. elim h [
              | inl old ↦ old
              | inr same ↦ absurd (clash f other quantified plain same)
            ],
          );
          asks = sym (append-nil (flat_map asked (items_in (shared_in v.sharing))))
              ∙ ap (λ gaps. flat_map asked (items_in (shared_in v.sharing)) ++ gaps)
              (sym (quantified_asks (out-Formula f) at.positive quantified));
          terms = refl;
          numbers = refl;
        },
        shared,
      );
    }
      where
        clash : (g : Formula) (other : Item) → is_quantified_form (out-Formula g) ≡ true
            → is_quantified other ≡ false → signed at.positive g ≡ other → ⊥
        clash g other is_yes is_no same =
            let e : true ≡ false = sym is_yes ∙ (ap is_quantified same ∙ is_no) in cc

-- ---- what a call asks

-- the node of an arithmetic term is arithmetic
pub number_at : (s : Sharing Simplex) → IsShared (shared_in s) → (a : ℕ) → a < node_count s.graph
    → Contains (number_terms (numbers_in s.theory)) (node_term s.graph a)
    → IsNumber (numbers_in s.theory) a
number_at s is a al h =
    let found = node_of_number (shared_in s) is.parts.numbers (node_term s.graph a) h in
    subst (IsNumber (numbers_in s.theory))
    (sym (place-term_of s.graph.nodes is.parts.graph.terms found.0 found.2)
    ∙ (ap (place_among (terms_in s.graph)) found.3
    ∙ place-term_of s.graph.nodes is.parts.graph.terms a al)) found.1

pub equation_sides : (s : Sharing Simplex) (a b : ℕ) (p : Bool) → a < node_count s.graph
    → b < node_count s.graph → AreSides s.graph (numbers_in s.theory) (equation_lit a b p)
equation_sides s a b true al bl = record { first = al; second = bl; order = tt }
equation_sides s a b false al bl = record { first = al; second = bl; order = tt }

pub order_sides : (s : Sharing Simplex) (a b : ℕ) (p : Bool) → a < node_count s.graph
    → b < node_count s.graph → IsNumber (numbers_in s.theory) a → IsNumber (numbers_in s.theory) b
    → AreSides s.graph (numbers_in s.theory) (order_lit a b p)
order_sides s a b true al bl an bn = record { first = al; second = bl; order = (an, bn) }
order_sides s a b false al bl an bn = record { first = bl; second = al; order = (bn, an) }

-- ---- from the calls

-- the literal, by what it is
pub equation_ends : (s t : Sharing Simplex) → numbers_in t.theory ≡ numbers_in s.theory
    → IsSimplex t.theory
    → AddsMade (senses_in s.theory) (senses_in t.theory) (number_terms (numbers_in s.theory))
    → (lit is : Lit) → lit ≡ is → (result : Result State Stop)
    → AssertEnds (shared_in s) (shared_in t) (lit ∷ []) [] result
    → IfErr result (UnlessMemory (IsBarred t.theory (Contains (lit_terms s lit))
    (IsGapOf (number_terms (numbers_in s.theory)))))
    → ShareEnds s t (item_of s.graph is) result
equation_ends s t numbers sound made lit is same result ends stop =
    subst (λ l. ShareEnds s t (item_of s.graph l) result) same
    (lit_ends s t numbers sound (stays_given s t numbers made) lit result ends stop)

pub order_at : (v : LiveBranch) (at : Occurrence) → IsShared (shared_in v.sharing)
    → HasNumbers v at → (a b : ℕ)
    → IsAtomOf v.sharing.graph (formula_at (logged v) at) (atom.Less a b)
    → AreSides v.sharing.graph (numbers_in v.sharing.theory) (order_lit a b at.positive)
order_at v at shared numbers a b is =
    let both = numbers (node_term v.sharing.graph a) (node_term v.sharing.graph b) is.0
    (Contains-term_of v.sharing.graph.nodes a is.1.0)
    (Contains-term_of v.sharing.graph.nodes b is.1.1) in
    order_sides v.sharing a b at.positive is.1.0 is.1.1
    (number_at v.sharing shared a is.1.0 both.0) (number_at v.sharing shared b is.1.1 both.1)

pub is_distinct : (v : LiveBranch) (at : Occurrence) (told : Atom) → told ≡ atom.Distinct
    → IsAtomOf v.sharing.graph (formula_at (logged v) at) told → IsDistinctAt (logged v) at
is_distinct v at told same is = subst (IsAtomOf v.sharing.graph (formula_at (logged v) at)) same is
