-- The nodes that a term makes arithmetic.
use Rattle.std.proofs.Common.{◌≡◌, ℕ, ◌<◌, Bool, true, false, ◌⊎◌, inl, inr, List, [], ◌∷◌, ◌++◌}
use Rattle.std.proofs.Common.{append_assoc, length, if◌then◌else◌, refl, ap, sym, subst, ◌∙◌, true≢false}
use Rattle.std.specs.List.{Contains, filter, flat_map}
use Rattle.std.specs.List.Sorted.{IsPermutation}
use Rattle.std.proofs.lemmas.List.Elements.{All-contains, Contains-append_cases}
use Rattle.std.proofs.lemmas.List.Elements.{Contains-append_left, Contains-append_right}
use Rattle.std.proofs.lemmas.List.Sorted.{All-permutation, Contains-permutation}
use Rattle.std.proofs.lemmas.List.Sorted.{IsPermutation-sym}
use Rattle.esc_term.specs.declared.term.Term.{Term}
use Rattle.esc_term.specs.declared.term.Term.TheViews.{out-Term}
use Rattle.esc_term.specs.Term.{subterms}
use Rattle.esc_term.proofs.Members.{Contains-cases, Contains-flat_map, Contains-here}
use Rattle.esc_term.proofs.Members.{Contains-in_flat_map, Contains-later, Contains-none}
use Rattle.esc_cover.specs.Arithmetic.{is_number, operands, operands_form}
use Rattle.esc_egraph.specs.Graph.{Graph}
use Rattle.esc_node_terms.specs.Nodes.{AreNodesOf}
use Rattle.esc_sharing.specs.AddingInside.{Gathers, named}
use Rattle.esc_sharing.specs.Calls.{AreNodesFor, GathersFor, terms_at}
use Rattle.esc_sharing.specs.Calls.{IsNodeOf, becoming}
use Rattle.esc_sharing.specs.Nodes.{node_term}
use Rattle.esc_sharing.proofs.Gathered.{nodes_both, nodes_none, nodes_one}
use Rattle.esc_sharing.proofs.Lists.{All-each, Contains-map, Contains-of_map}

-- ---- number forms with what they are made of

in_one : (u s : Term) → Contains (if is_number u then u ∷ [] else []) s
    → (is_number u ≡ true) × (u ≡ s)
in_one u s h = go (is_number u) refl h
  where
    go : (b : Bool) → is_number u ≡ b → Contains (if b then u ∷ [] else []) s
        → (is_number u ≡ true) × (u ≡ s)
    go true is k = elim (Contains-cases u [] s k) [
      | inl e ↦ (is, e)
      | inr none ↦ absurd (Contains-none s none)
    ]
    go false is k = absurd (Contains-none s k)

filtered : (xs : List Term) (s : Term) → Contains xs s → is_number s ≡ true
    → Contains (filter is_number xs) s
filtered [] s h e = absurd (Contains-none s h)
filtered (x ∷ xs) s h e =
    go (λ later. filtered xs s later e) (is_number x) refl (Contains-cases x xs s h)
  where
    go : (Contains xs s → Contains (filter is_number xs) s) → (b : Bool) → is_number x ≡ b
        → (x ≡ s) ⊎ Contains xs s
        → Contains (if b then x ∷ filter is_number xs else filter is_number xs) s
    go rest true is (inl same) = subst (Contains (x ∷ filter is_number xs)) same
        (Contains-here x (filter is_number xs))
    go rest true is (inr later) = Contains-later x (filter is_number xs) s (rest later)
    go rest false is (inl same) = absurd (true≢false (sym e ∙ (ap is_number (sym same) ∙ is)))
    go rest false is (inr later) = rest later

of_filtered : (xs : List Term) (s : Term) → Contains (filter is_number xs) s
    → Contains xs s × (is_number s ≡ true)
of_filtered [] s h = absurd (Contains-none s h)
of_filtered (x ∷ xs) s h = go (of_filtered xs s) (is_number x) refl h
  where
    go : (Contains (filter is_number xs) s → Contains xs s × (is_number s ≡ true)) → (b : Bool)
        → is_number x ≡ b
        → Contains (if b then x ∷ filter is_number xs else filter is_number xs) s
        → Contains (x ∷ xs) s × (is_number s ≡ true)
    go rest true is k = elim (Contains-cases x (filter is_number xs) s k) [
      | inl same ↦ (
        subst (Contains (x ∷ xs)) same (Contains-here x xs),
        ap is_number (sym same) ∙ is,
      )
      | inr later ↦ let both = rest later in (Contains-later x xs s both.0, both.1)
    ]
    go rest false is k = let both = rest k in (Contains-later x xs s both.0, both.1)

module _ (xs rest : List Term) (s : Term) where
  named_becomes : Contains (flat_map named xs ++ rest) s
      → Contains (filter is_number xs ++ (operands xs ++ rest)) s
  named_becomes h = elim (Contains-append_cases (flat_map named xs) rest s h) [
    | inl first ↦
        let found = Contains-flat_map named xs s first in
        elim (Contains-append_cases (operands_form (out-Term found.0))
        (if is_number found.0 then found.0 ∷ [] else []) s found.2) [
          | inl operand ↦ Contains-append_right (filter is_number xs) (operands xs ++ rest) s
              (Contains-append_left (operands xs) rest s
              (Contains-in_flat_map (λ t. operands_form (out-Term t)) xs found.0 s found.1
              operand))
          | inr own ↦
              let is = in_one found.0 s own in
              Contains-append_left (filter is_number xs) (operands xs ++ rest) s
              (subst (Contains (filter is_number xs)) is.1 (filtered xs found.0 found.1 is.0))
        ]
    | inr second ↦ Contains-append_right (filter is_number xs) (operands xs ++ rest) s
        (Contains-append_right (operands xs) rest s second)
  ]

  becoming_named : Contains (filter is_number xs ++ (operands xs ++ rest)) s
      → Contains (flat_map named xs ++ rest) s
  becoming_named h =
      elim (Contains-append_cases (filter is_number xs) (operands xs ++ rest) s h) [
        | inl own ↦
            let is = of_filtered xs s own in
            Contains-append_left (flat_map named xs) rest s
            (Contains-in_flat_map named xs s s is.0
            (Contains-append_right (operands_form (out-Term s)) _ s
            (subst (λ b. Contains (if b then s ∷ [] else []) s) (sym is.1) (Contains-here s []))))
        | inr others ↦ elim (Contains-append_cases (operands xs) rest s others) [
          | inl operand ↦
              let found = Contains-flat_map (λ t. operands_form (out-Term t)) xs s operand in
              Contains-append_left (flat_map named xs) rest s
              (Contains-in_flat_map named xs found.0 s found.1
              (Contains-append_left (operands_form (out-Term found.0))
              (if is_number found.0 then found.0 ∷ [] else []) s found.2))
          | inr last ↦ Contains-append_right (flat_map named xs) rest s last
        ]
      ]

-- ---- their nodes

module _ (g : Graph) (t : Term) (side : Bool) (node : ℕ) (before numbers pushed : List ℕ)
    (gathered : Gathers g.nodes before numbers (flat_map named (subterms t)))
    (is : IsNodeOf g t node) (push : pushed ≡ numbers ++ (if side then node ∷ [] else [])) where
  abbrev all_terms : List Term
  all_terms = flat_map named (subterms t) ++ (if side then t ∷ [] else [])

  abbrev more : List ℕ
  more = gathered.more ++ (if side then node ∷ [] else [])

  side_is : (b : Bool) → AreNodesOf g.nodes (if b then node ∷ [] else []) (if b then t ∷ [] else [])
  side_is true = nodes_one g.nodes node t is.there is.is
  side_is false = nodes_none g.nodes

  are : AreNodesOf g.nodes more all_terms
  are = nodes_both g.nodes gathered.more (if side then node ∷ [] else [])
      (flat_map named (subterms t)) (if side then t ∷ [] else []) gathered.are (side_is side)

  pub gathers_for : GathersFor g before pushed (becoming t side)
  gathers_for = record {
    more = more;
    gathered = push ∙ (ap (λ ns. ns ++ (if side then node ∷ [] else [])) gathered.gathered
        ∙ append_assoc before gathered.more (if side then node ∷ [] else []));
    are = record {
      there = are.there;
      among = All-each (Contains (becoming t side)) (terms_at g more) (λ s h.
          named_becomes (subterms t) (if side then t ∷ [] else []) s
          (subst (λ ts. Contains ts s) are.terms h));
      each = All-each (Contains (terms_at g more)) (becoming t side) (λ s h.
          subst (λ ts. Contains ts s) (sym are.terms)
          (becoming_named (subterms t) (if side then t ∷ [] else []) s h));
    };
  }

-- in any order
nodes_for-permuted : (g : Graph) (terms : List Term) (nodes moved : List ℕ)
    → IsPermutation nodes moved → AreNodesFor g nodes terms → AreNodesFor g moved terms
nodes_for-permuted g terms nodes moved permuted are = record {
  there = All-permutation (λ a. a < length g.nodes) nodes moved permuted are.there;
  among = All-each (Contains terms) (terms_at g moved) (λ s h.
      let at = Contains-of_map (node_term g) moved s h in
      All-contains (Contains terms) (terms_at g nodes) s are.among
      (subst (Contains (terms_at g nodes)) at.2
      (Contains-map (node_term g) nodes at.0
      (Contains-permutation moved nodes at.0 (IsPermutation-sym nodes moved permuted) at.1))));
  each = All-each (Contains (terms_at g moved)) terms (λ s h.
      let at = Contains-of_map (node_term g) nodes s
      (All-contains (Contains (terms_at g nodes)) terms s are.each h) in
      subst (Contains (terms_at g moved)) at.2
      (Contains-map (node_term g) moved at.0
      (Contains-permutation nodes moved at.0 permuted at.1)));
}

-- what came behind no others, in any order
pub nodes_for : (g : Graph) (terms : List Term) (none nodes moved given : List ℕ) → none ≡ []
    → GathersFor g none nodes terms → IsPermutation nodes moved → given ≡ moved
    → AreNodesFor g given terms
nodes_for g terms none nodes moved given empty gathers permuted is =
    subst (λ ns. AreNodesFor g ns terms) (sym is)
    (nodes_for-permuted g terms nodes moved permuted
    (subst (λ ns. AreNodesFor g ns terms)
    (sym (gathers.gathered ∙ ap (λ ns. ns ++ gathers.more) empty)) gathers.are))
