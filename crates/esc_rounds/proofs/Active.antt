-- Which nodes have terms that stand in the live facts.
use Rattle.std.proofs.Common.{◌≡◌, ℕ, pos, ◌-◌, ◌<◌, ◌==◌, ◌⊎◌, inl, inr, Bool, true, false, ◌&&◌}
use Rattle.std.proofs.Common.{List, []}
use Rattle.std.proofs.Common.{◌∷◌, length, get_or, map, reverse, refl, ap, sym, subst, ◌∙◌}
use Rattle.std.proofs.Common.{arith, true≢false, zero, suc}
use Rattle.std.specs.Prelude.{IsTrue, nat_lt}
use Rattle.std.specs.List.{All, Contains, flat_map, list_all}
use Rattle.std.proofs.lemmas.Bool.{cases_eq, eqb-true}
use Rattle.std.proofs.lemmas.List.{get_or-reverse, get_or_default}
use Rattle.std.proofs.lemmas.List.Elements.{Contains-append_cases, Contains-get_or}
use Rattle.esc_term.specs.declared.term.Head.{Head}
use Rattle.esc_term.specs.declared.term.Term.{Term}
use Rattle.esc_term.specs.declared.term.Term as opening
use Rattle.esc_term.specs.declared.term.Term.TheVariants.{Num, Var, App}
use Rattle.esc_term.specs.Formula as formula
use Rattle.esc_term.specs.Term.{truth_term}
use Rattle.esc_term.proofs.Members.{Contains-cases, Contains-here, Contains-later, Contains-none}
use Rattle.esc_term.proofs.Parts.{args_of_same}
use Rattle.esc_term.proofs.Wholes.{IsWhole, IsWhole-flat_map, terms_of-whole}
use Rattle.esc_cover.specs.Classes.{has}
use Rattle.esc_cover.proofs.ActiveTerms.{of_active}
use Rattle.esc_cover.proofs.TestLemmas.{all_at, and_left, and_right, any_found, has-at, has-found}
use Rattle.esc_nodes.specs.Nodes.{Shape, shape, shape_at}
use Rattle.esc_nodes.specs.Terms.{term_of, terms_of}
use Rattle.esc_nodes.specs.declared.top.Top.{Top}
use Rattle.esc_nodes.specs.declared.top.Top.TheVariants as top
use Rattle.esc_nodes.proofs.NodeTerms.{count_terms}
use Rattle.esc_nodes.proofs.Tops.{term_of-App}
use Rattle.esc_union.specs.Merges.{SameClass}
use Rattle.esc_egraph.specs.Graph.{Graph, number_of}
use Rattle.esc_trigger.specs.Candidates.{is_application}
use Rattle.esc_trigger.specs.Laws.{is_trigger}
use Rattle.esc_trigger.specs.Variables.{has_all_below, has_number, holds_all, variables_of}
use Rattle.esc_trigger.proofs.TermLevels.{variables_of-App, variables_of-Num, variables_of-Var}
use Rattle.esc_fact.specs.Fact.{formulas_of}
use Rattle.esc_fact.specs.Legal.{HasTerm}
use Rattle.esc_fact.specs.declared.base.Base.{Base}
use Rattle.esc_fact.specs.declared.fact.Fact.{Fact}
use Rattle.esc_match.specs.Match.{Match, MatchAll, TriggerMatch}
use Rattle.esc_match.specs.Match as fits
use Rattle.esc_match.specs.Matches.{class_in}
use Rattle.esc_match.proofs.Orders.{Contains-map}
use Rattle.esc_maps.specs.Chosen.{StandsForClass}
use Rattle.esc_rounds.specs.Branch.{IsStanding}
use Rattle.esc_rounds.specs.Standing.{Standing}
use Rattle.esc_rounds.specs.declared.draw.Draw.{Draw}
use Rattle.esc_term.specs.declared.formula.Item.{Item}

-- ---- variables meet arguments

module _ (g : Graph) (class : ℕ → ℕ) where
  -- an argument of some node is of the class of the variable
  abbrev pub IsMet : ℕ → Type 0
  IsMet k = (m a : ℕ) × (m < length g.nodes) × Contains (shape_at g.nodes m).args a
      × (number_of g a ≡ class k)

  mutual
    in_one : (p : Term) (n : ℕ) (matched : List ℕ) → Match g class p n matched → (k : ℕ)
        → Contains (variables_of p) k → ((p ≡ Var k) × (number_of g n ≡ class k)) ⊎ IsMet k
    in_one p n matched (fits.variable _ _ _ j is same e) k c =
        elim (Contains-cases j [] k
        (subst (λ ks. Contains ks k) (ap variables_of is ∙ variables_of-Var j) c)) [
          | inl at ↦ inl (is ∙ ap Var at, same ∙ ap class at)
          | inr none ↦ absurd (Contains-none k none)
        ]
    in_one p n matched (fits.numeral _ _ _ v node is there topped same e) k c =
        absurd (Contains-none k
        (subst (λ ks. Contains ks k) (ap variables_of is ∙ variables_of-Num v) c))
    in_one p n matched (fits.application _ _ _ head ps node inside is there topped same args e) k
        c =
        inr (in_args node there ps (shape_at g.nodes node).args inside args (λ a h. h) k
        (subst (λ ks. Contains ks k) (ap variables_of is ∙ variables_of-App head ps) c))

    in_args : (m : ℕ) → m < length g.nodes → (ps : List Term) (ns matched : List ℕ)
        → MatchAll g class ps ns matched
        → ((a : ℕ) → Contains ns a → Contains (shape_at g.nodes m).args a) → (k : ℕ)
        → Contains (flat_map variables_of ps) k → IsMet k
    in_args m l ps ns matched (fits.none _ _ _ is at e) among k c =
        absurd (Contains-none k (subst (λ qs. Contains (flat_map variables_of qs) k) is c))
    in_args m l ps ns matched (fits.more _ _ _ q qs a nodes first rest is at one others e) among
        k c =
        elim (Contains-append_cases (variables_of q) (flat_map variables_of qs) k
        (subst (λ us. Contains (flat_map variables_of us) k) is c)) [
          | inl here ↦ elim (in_one q a first one k here) [
            | inl var ↦ (
              m,
              a,
              l,
              among a (subst (λ xs. Contains xs a) (sym at)
                  (Contains-here a nodes)),
              var.1,
            )
            | inr met ↦ met
          ]
          | inr later ↦ in_args m l qs nodes rest others
              (λ b h. among b (subst (λ xs. Contains xs b) (sym at) (Contains-later a nodes b h))) k
              later
        ]

  variable_alone : (p : Term) (k : ℕ) → p ≡ Var k → is_application p ≡ true → ⊥
  unfolding opening.out-Term denote.Hole.Carrier.out
  variable_alone p k is application =
      true≢false (sym application ∙ ap is_application is)

  in_trigger : (ps : List Term) (ns matched : List ℕ) → MatchAll g class ps ns matched
      → list_all is_application ps ≡ true → (k : ℕ) → Contains (flat_map variables_of ps) k
      → IsMet k
  in_trigger ps ns matched (fits.none _ _ _ is at e) applications k c =
      absurd (Contains-none k (subst (λ qs. Contains (flat_map variables_of qs) k) is c))
  in_trigger ps ns matched (fits.more _ _ _ q qs a nodes first rest is at one others e)
      applications k c =
      let all : list_all is_application (q ∷ qs) ≡ true =
      ap (list_all is_application) (sym is) ∙ applications in
      elim (Contains-append_cases (variables_of q) (flat_map variables_of qs) k
      (subst (λ us. Contains (flat_map variables_of us) k) is c)) [
        | inl here ↦ elim (in_one q a first one k here) [
          | inl var ↦ absurd (variable_alone q k var.0
              (all_at is_application (q ∷ qs) q all (Contains-here q qs)))
          | inr met ↦ met
        ]
        | inr later ↦ in_trigger qs nodes rest others
            (and_right (is_application q) (list_all is_application qs) all) k later
      ]

number_found : (ns : List ℕ) (n : ℕ) → has_number ns n ≡ true → Contains ns n
number_found ns n e =
    let found = any_found (λ m. m == n) ns e in
    subst (Contains ns) (eqb-true found.0 n found.2) found.1

below_found : (count : ℕ) (ns : List ℕ) → has_all_below count ns ≡ true → (k : ℕ) → k < count
    → Contains ns k
unfolding has_all_below
below_found zero ns e k l = absurd (omega (arith, l))
below_found (suc n) ns e k l =
    elim (cases_eq k n) [
      | inl at ↦ number_found ns k (ap (has_number ns) at
          ∙ and_left (has_number ns n) (has_all_below n ns) e)
      | inr ne ↦ below_found n ns (and_right (has_number ns n) (has_all_below n ns) e) k
          (omega (arith, l, ne))
    ]

-- ---- terms that stand in facts

module _ (base : Base) (facts : List Fact) (items : List Item) (s : Standing) (live : List Draw)
    (st : IsStanding base facts items s live) where
  abbrev Has : ℕ → Type 0
  Has n = HasTerm base facts (term_of s.graph.nodes n)

  pub node_domain : (n : ℕ) → n < length s.graph.nodes
      → (truth_term ≡ term_of s.graph.nodes n) ⊎ Has n
  unfolding term_of
  node_domain n l =
      let there : Contains (terms_of s.graph.nodes) (term_of s.graph.nodes n) =
      Contains-get_or (terms_of s.graph.nodes) n (Num (pos 0))
      (omega (arith, count_terms s.graph.nodes, l)) in
      Contains-cases truth_term (flat_map formula.terms_of (formulas_of base facts))
      (term_of s.graph.nodes n)
      (of_active (formulas_of base facts) (term_of s.graph.nodes n)
      (subst (λ ts. Contains ts (term_of s.graph.nodes n)) st.nodes there)).0

  -- a node with an argument stands for an application
  app_is : (m a : ℕ) → m < length s.graph.nodes → Contains (shape_at s.graph.nodes m).args a
      → (head : Head) × (term_of s.graph.nodes m
      ≡ App head (map (term_of s.graph.nodes) (shape_at s.graph.nodes m).args))
  app_is m a l c = go (shape_at s.graph.nodes m).top refl
    where
      go : (t : Top) → (shape_at s.graph.nodes m).top ≡ t → (head : Head)
          × (term_of s.graph.nodes m
          ≡ App head (map (term_of s.graph.nodes) (shape_at s.graph.nodes m).args))
      go (top.Num v) is =
          let bare : shape (top.Num v) (shape_at s.graph.nodes m).args ≡ shape_at s.graph.nodes m =
          ap (λ t. shape t (shape_at s.graph.nodes m).args) (sym is) ∙ st.graph.terms.bare m l in
          let none : [] ≡ (shape_at s.graph.nodes m).args = ap (λ (x : Shape). x.args) bare in
          absurd (Contains-none a (subst (λ xs. Contains xs a) (sym none) c))
      go (top.App head) is = (head, term_of-App s.graph.nodes m head st.graph.terms l is)

  app_has : (m a : ℕ) → m < length s.graph.nodes → Contains (shape_at s.graph.nodes m).args a
      → Has m
  app_has m a l c =
      elim (node_domain m l) [
        | inl truth ↦
            let app = app_is m a l c in
            let args : [] ≡ map (term_of s.graph.nodes) (shape_at s.graph.nodes m).args =
            args_of_same _ app.0 [] (map (term_of s.graph.nodes) (shape_at s.graph.nodes m).args)
            (truth ∙ app.1) in
            absurd (Contains-none (term_of s.graph.nodes a)
            (subst (λ ts. Contains ts (term_of s.graph.nodes a)) (sym args)
            (Contains-map (term_of s.graph.nodes) (shape_at s.graph.nodes m).args a c)))
        | inr has_it ↦ has_it
      ]

  pub arg_has : (m a : ℕ) → m < length s.graph.nodes → Contains (shape_at s.graph.nodes m).args a
      → Has a
  arg_has m a l c =
      let app = app_is m a l c in
      let whole : IsWhole (flat_map formula.terms_of (formulas_of base facts)) =
      IsWhole-flat_map formula.terms_of (formulas_of base facts) (λ f h. terms_of-whole f) in
      whole.args app.0 (map (term_of s.graph.nodes) (shape_at s.graph.nodes m).args)
      (term_of s.graph.nodes a)
      (subst (Contains (flat_map formula.terms_of (formulas_of base facts))) app.1
      (app_has m a l c))
      (Contains-map (term_of s.graph.nodes) (shape_at s.graph.nodes m).args a c)

  pub has_or_not : (t : Term) → HasTerm base facts t ⊎ (HasTerm base facts t → ⊥)
  has_or_not t = go (has (flat_map formula.terms_of (formulas_of base facts)) t) refl
    where
      go : (b : Bool) → has (flat_map formula.terms_of (formulas_of base facts)) t ≡ b
          → HasTerm base facts t ⊎ (HasTerm base facts t → ⊥)
      go true e = inl (has-found (flat_map formula.terms_of (formulas_of base facts)) t e)
      go false e = inr (λ c. true≢false
          (sym (has-at (flat_map formula.terms_of (formulas_of base facts)) t c) ∙ e))

  -- what stands for a class with such a term is one
  pub stand_has : (n m : ℕ) → StandsForClass s.graph s.depths n → m < length s.graph.nodes
      → SameClass (number_of s.graph) m n → Has m → Has n
  stand_has n m stands l same has_it =
      elim (has_or_not (term_of s.graph.nodes n)) [
        | inl is ↦ is
        | inr not ↦ absurd (stands.least m l same
            (inl (st.bare n m stands.there l not has_it)))
      ]

  -- the nodes at which a trigger matches, where they stand for their classes
  pub matched_have : (count : ℕ) (trigger : List Term) (ns matched : List ℕ)
      → IsTrue (is_trigger count trigger) → length ns ≡ count
      → TriggerMatch s.graph (class_in s.graph ns) trigger matched
      → All (StandsForClass s.graph s.depths) ns
      → All (λ n. Has n) ns
  matched_have count trigger ns matched is many match stand j d l =
      let both : (list_all is_application trigger && holds_all count trigger) ≡ true =
      and_left (list_all is_application trigger && holds_all count trigger)
      (list_all (λ v. nat_lt v count) (flat_map variables_of trigger)) is in
      let apps : list_all is_application trigger ≡ true =
      and_left (list_all is_application trigger) (holds_all count trigger) both in
      let held : holds_all count trigger ≡ true =
      and_right (list_all is_application trigger) (holds_all count trigger) both in
      let k : ℕ = length ns - 1 - j in
      let low : k < count = omega (arith, l, many) in
      let met = in_trigger s.graph (class_in s.graph ns) trigger match.nodes matched match.match
      apps
      k (below_found count (flat_map variables_of trigger) held k low) in
      let at : get_or (reverse ns) k 0 ≡ get_or ns j d =
      get_or-reverse ns k 0 (omega (arith, low, many))
      ∙ (ap (λ n. get_or ns n 0) (omega (arith, l))
      ∙ get_or_default ns j 0 d l) in
      let arg_there : met.1 < length s.graph.nodes =
      older_there met.0 met.1 met.2 met.3 in
      stand_has (get_or ns j d) met.1 (stand j d l) arg_there
      (met.4 ∙ ap (number_of s.graph) at) (arg_has met.0 met.1 met.2 met.3)
    where
      older_there : (m a : ℕ) → m < length s.graph.nodes
          → Contains (shape_at s.graph.nodes m).args a → a < length s.graph.nodes
      older_there m a l c =
          let older = st.graph.terms.older m l c.0 a c.1 in
          let less : a < m = subst (λ n. n < m) c.2 older in
          omega (arith, less, l)

  pub write_has : (w m i x : ℕ) → w < length s.graph.nodes
      → (shape_at s.graph.nodes w).args ≡ m ∷ i ∷ x ∷ [] → Has w
  write_has w m i x l is =
      app_has w m l (subst (λ xs. Contains xs m) (sym is) (Contains-here m (i ∷ x ∷ [])))
