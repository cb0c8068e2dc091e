-- The samples of classes are their values under one assignment that the theory admits.
use Rattle.std.proofs.Common.{◌≡◌, ℕ, ◌<◌, true, List, [], ◌∷◌, map, Option, Some, None, ap}
use Rattle.std.proofs.Common.{sym, subst, ◌∙◌, ◌&&◌, length}
use Rattle.std.specs.Prelude.{◌↔◌}
use Rattle.std.specs.List.{All, AllZip, Contains}
use Rattle.std.proofs.lemmas.List.Elements.{All-contains}
use Rattle.esc_term.specs.declared.term.Term.{Term}
use Rattle.esc_term.proofs.Members.{Contains-here, Contains-later}
use Rattle.esc_frac.specs.Rational.{ℚ, ratio}
use Rattle.esc_cover.specs.Assignment.{Assignment, Suits, value}
use Rattle.esc_cover.specs.Classes.{has, together}
use Rattle.esc_cover.specs.Counterexample.{IsValueOf, fraction}
use Rattle.esc_cover.proofs.TestLemmas.{and_both, any_at, has-at}
use Rattle.esc_nodes.proofs.NodeTerms.{terms_are_once}
use Rattle.esc_tableau.specs.Table.{sample}
use Rattle.esc_simplex.proofs.Parting.{made_there}
use Rattle.esc_simplex.specs.Calls.{IsForTerm}
use Rattle.esc_simplex.specs.Senses.{sense_fraction}
use Rattle.esc_simplex.specs.View.{bound_to, numbers_in, sense_in}
use Rattle.esc_sharing.specs.Nodes.{classes_in, node_count, node_term}
use Rattle.esc_sharing.specs.Numbers.{number_terms}
use Rattle.esc_sharing.specs.Shared.{IsShared, literals_in}
use Rattle.esc_sharing.specs.declared.sharing.Sharing.{Sharing}
use Rattle.esc_simplex.specs.declared.simplex.Simplex.{Simplex}
use Rattle.esc_sharing.proofs.BoundNodes.{bound_pair, for_bound, is_number, term_of_node}
use Rattle.esc_sharing.proofs.BoundNodes.{unbound_is_none}
use Rattle.esc_sharing.proofs.Least.{node_of_number, number_of_node}
use Rattle.esc_sharing.proofs.Lists.{Contains-map, Contains-of_map}
use Rattle.esc_sharing.proofs.Restricting.{value_at}
use Rattle.esc_outcome.specs.Found.{members_of, values_of}
use Rattle.esc_outcome.specs.declared.counterexample.Class.{Class}
use Rattle.esc_context.specs.ClassesInside.{HasSample, IsClassOfNodes, IsSampleAmong}
use Rattle.esc_context.specs.Left.{shared_of}

-- two terms of one of the classes stand in one class
together_in : (classes : List (List Term)) (members : List Term) (s t : Term)
    → Contains classes members → Contains members s → Contains members t
    → together classes s t ≡ true
together_in classes members s t here hs ht =
    any_at (λ ms. has ms s && has ms t) classes members here
    (and_both (has members s) (has members t) (has-at members s hs) (has-at members t ht))

-- of pairs that are made of the elements of one list
zip_each : {X A B : Type 0} (R : A → B → Type 0) (f : X → A) (g : X → B) (xs : List X)
    → ((x : X) → Contains xs x → R (f x) (g x)) → AllZip R (map f xs) (map g xs)
zip_each R f g [] each = tt
zip_each R f g (x ∷ xs) each = (
  each x (Contains-here x xs),
  zip_each R f g xs (λ y h. each y (Contains-later x xs y h)),
)

module _ (s : Sharing Simplex) (shared : IsShared (shared_of s)) (x : Assignment)
    (suits : Suits (literals_in (shared_of s)) (number_terms (numbers_in s.theory))
    (together (classes_in s.graph)) x)
    (sampled : (u : ℕ) → u < length s.theory.made
    → sample s.theory.tableau u ≡ sense_fraction x (sense_in s.theory u))
    (numbers : List Term)
    (alike : (t : Term) → Contains (number_terms (numbers_in s.theory)) t ↔ Contains numbers t)
  where
    -- the sample of a bound node's unknown is the fraction of its term
    sample-bound : (a u : ℕ) → bound_to s.theory.bound a ≡ Some u
        → sample s.theory.tableau u ≡ fraction x (node_term s.graph a)
    sample-bound a u e =
        let bound = bound_pair s.theory.bound a u e in
        let for : IsForTerm s.theory u = for_bound s.theory a u bound shared.parts.sound in
        sampled u (made_there s.theory u for)
        ∙ ap (λ n. ratio n x.denominator)
        (value_at s.theory u for x
        ∙ ap (value x) (sym (term_of_node s.theory a u bound s.graph shared.parts.numbers)))

    one_node : (a b : ℕ) → a < node_count s.graph → b < node_count s.graph
        → node_term s.graph a ≡ node_term s.graph b → a ≡ b
    one_node a b al bl e = terms_are_once s.graph.nodes shared.parts.graph.terms a b al bl e

    module _ (nodes : List ℕ) (there : All (λ a. a < node_count s.graph) nodes) (class : Class)
        (made : IsClassOfNodes s nodes class)
        (here : Contains (classes_in s.graph) class.terms) where
      in_class : (a : ℕ) → Contains nodes a → Contains class.terms (node_term s.graph a)
      in_class a h = subst (λ ts. Contains ts (node_term s.graph a)) (sym made.terms)
          (Contains-map (node_term s.graph) nodes a h)

      no_number : ((a : ℕ) → Contains nodes a → bound_to s.theory.bound a ≡ None) → (t : Term)
          → Contains class.terms t → Contains numbers t → ⊥
      no_number none t ht number =
          let found = Contains-of_map (node_term s.graph) nodes t
          (subst (λ ts. Contains ts t) made.terms ht) in
          let node = node_of_number (shared_of s) shared.parts.numbers t ((alike t).1 number) in
          let same : found.0 ≡ node.0 =
          one_node found.0 node.0
          (All-contains (λ a. a < node_count s.graph) nodes found.0 there found.1) node.2
          (found.2 ∙ sym node.3) in
          unbound_is_none s.theory node.0
          (subst (λ a. bound_to s.theory.bound a ≡ None) same (none found.0 found.1)) node.1

      one_value : (a u : ℕ) (q : ℚ) → Contains nodes a → bound_to s.theory.bound a ≡ Some u
          → q ≡ sample s.theory.tableau u → (t : Term) → Contains class.terms t → Contains numbers t
          → fraction x t ≡ q
      one_value a u q h e is t ht number =
          let first = number_of_node (shared_of s) shared.parts.numbers a
          (is_number s.theory a u (bound_pair s.theory.bound a u e)) in
          ap (λ n. ratio n x.denominator)
          (suits.agrees t (node_term s.graph a) ((alike t).1 number) first.1
          (together_in (classes_in s.graph) class.terms t (node_term s.graph a) here ht
          (in_class a h)))
          ∙ (sym (sample-bound a u e) ∙ sym is)

      value_shown : (value : Option ℚ) → IsSampleAmong s.theory nodes value
          → IsValueOf x numbers class.terms value
      value_shown None none = no_number none
      value_shown (Some q) (a, u, h, e, is) = (
        (
          node_term s.graph a,
          in_class a h,
          (alike (node_term s.graph a)).0 (number_of_node (shared_of s) shared.parts.numbers a
              (is_number s.theory a u (bound_pair s.theory.bound a u e))).1,
        ),
        one_value a u q h e is,
      )

    -- the classes have these values
    pub values_for : (classes : List Class) → members_of classes ≡ classes_in s.graph
        → All (HasSample s) classes
        → AllZip (IsValueOf x numbers) (members_of classes) (values_of classes)
    values_for classes shown sampled =
        zip_each (IsValueOf x numbers) (λ (class : Class). class.terms)
        (λ (class : Class). class.value) classes (λ class h.
        let has_sample = All-contains (HasSample s) classes class sampled h in
        value_shown has_sample.0 has_sample.1 class has_sample.2
        (subst (λ cs. Contains cs class.terms) shown
        (Contains-map (λ (c : Class). c.terms) classes class h)) class.value has_sample.2.value)
