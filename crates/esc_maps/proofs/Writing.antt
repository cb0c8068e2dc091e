-- Writes of a graph.
use Rattle.std.proofs.Common.{◌≡◌, ℕ, ◌+◌, ◌<◌, ◌↔◌, Bool, true, false, not, IsTrue, inl}
use Rattle.std.proofs.Common.{inr, List, [], ◌∷◌, ◌++◌, length, get_or, refl, ap, sym, subst, ◌∙◌}
use Rattle.std.proofs.Common.{arith, true≢false}
use Rattle.std.specs.List.{Any, Contains}
use Rattle.std.proofs.lemmas.Bool.{cases_eq}
use Rattle.std.proofs.lemmas.List.Elements.{Contains-append_left, Contains-get_or, Contains-push}
use Rattle.std.proofs.lemmas.List.Elements.{Contains-push_cases}
use Rattle.esc_term.proofs.Members.{Contains-cases, Contains-none}
use Rattle.esc_nodes.specs.Nodes.{Shape}
use Rattle.esc_nodes.specs.declared.top.Top.{Top}
use Rattle.esc_union.specs.Merges.{IsClassOf}
use Rattle.esc_egraph.specs.Congruence.{IsCongruence}
use Rattle.esc_egraph.specs.Graph.{Graph, number_of}
use Rattle.esc_match.proofs.Orders.{in_order-append}
use Rattle.esc_maps.specs.Chosen.{IsShallower}
use Rattle.esc_maps.specs.Maps.{AreAlikeWrites, IsWrite, StandsForWrites}
use Rattle.esc_maps.specs.ReadsInside.{AreThose}

-- ---- shapes by the number of their arguments

pub two_args : (xs : List ℕ) → length xs ≡ 2 → (m j : ℕ) × (xs ≡ m ∷ j ∷ [])
two_args [] e = absurd (omega (arith, e))
two_args (m ∷ []) e = absurd (omega (arith, e))
two_args (m ∷ j ∷ []) e = (m, j, refl)
two_args (m ∷ j ∷ x ∷ xs) e = absurd (omega (arith, e))

pub three_args : (xs : List ℕ) → length xs ≡ 3 → (m i x : ℕ) × (xs ≡ m ∷ i ∷ x ∷ [])
three_args [] e = absurd (omega (arith, e))
three_args (m ∷ []) e = absurd (omega (arith, e))
three_args (m ∷ i ∷ []) e = absurd (omega (arith, e))
three_args (m ∷ i ∷ x ∷ []) e = (m, i, x, refl)
three_args (m ∷ i ∷ x ∷ y ∷ xs) e = absurd (omega (arith, e))

pub shape_with : (s : Shape) (t : Top) (xs : List ℕ) → s.top ≡ t → s.args ≡ xs
    → s ≡ record { top = t; args = xs }
shape_with s t xs e f =
    let first : s ≡ record { top = t; args = s.args } =
    ap (λ (k : Top). record { top = k; args = s.args }) e in
    let second : record { top = t; args = s.args } ≡ record { top = t; args = xs } =
    ap (λ (ys : List ℕ). record { top = t; args = ys }) f in
    first ∙ second

-- ---- alike writes

pub alike_itself : (g : Graph) (n : ℕ) → AreAlikeWrites g n n
alike_itself g n = record {
  top = refl;
  args = record { lengths = refl; places = λ k l. refl };
}

module _ (g : Graph) (depths : List ℕ) (node : ℕ) (members : List ℕ) where
  pub has_shallower_iff : (b : Bool) → node < length g.nodes
      → IsCongruence g.nodes (number_of g) → IsWrite g node
      → IsClassOf (length g.nodes) (number_of g) node members
      → (IsTrue b ↔ Any (λ n. AreAlikeWrites g n node × IsShallower depths n node) members)
      → (IsTrue (not b) ↔ StandsForWrites g depths node)
  has_shallower_iff true there closed write is any = (
    λ t. absurd (true≢false (sym t)),
    λ stands.
        let found = any.0 refl in
        let member = (is.exact found.1).0 (found.0, found.2, found.3) in
        absurd (stands.1.least found.1 member.0 found.4.0 found.4.1),
  )
  has_shallower_iff false there closed write is any = (
    λ t. (
      write,
      record {
        there = there;
        among = alike_itself g node;
        least = λ m m_there alike shallower.
            let c = (is.exact m).1 (m_there, closed m node m_there there alike) in
            true≢false (sym (any.1 (c.0, m, c.1, c.2, (alike, shallower))));
      },
    ),
    λ stands. refl,
  )

pub class_there : (count : ℕ) (number : ℕ → ℕ) (a : ℕ) (members : List ℕ)
    → IsClassOf count number a members → (k d : ℕ) → k < length members
    → get_or members k d < count
class_there count number a members is k d l =
    ((is.exact (get_or members k d)).0 (Contains-get_or members k d l)).0

-- ---- nodes in order

pub those_none : (Is : ℕ → Type 0) → AreThose (λ n. (n < 0) × Is n) []
those_none Is = record {
  exact = λ n. (λ c. absurd (Contains-none n c), λ h. absurd (omega (arith, h.0)));
  rises = tt;
}

module _ (Is : ℕ → Type 0) (nodes : List ℕ) (count : ℕ)
    (those : AreThose (λ n. (n < count) × Is n) nodes) where
  pub those_less : (Is count → ⊥) → AreThose (λ n. (n < count + 1) × Is n) nodes
  those_less not = record {
    exact = λ n. (
      λ c. let h = (those.exact n).0 c in (omega (arith, h.0), h.1),
      λ h. (those.exact n).1 (below n h.0 h.1, h.1),
    );
    rises = those.rises;
  }
    where
      below : (n : ℕ) → n < count + 1 → Is n → n < count
      below n l is = elim (cases_eq n count) [
        | inl e ↦ absurd (not (subst Is e is))
        | inr ne ↦ omega (arith, l, ne)
      ]

  pub those_more : Is count → AreThose (λ n. (n < count + 1) × Is n) (nodes ++ count ∷ [])
  those_more is = record {
    exact = λ n. (
      λ c. elim (Contains-push_cases nodes count n c) [
        | inl old ↦ let h = (those.exact n).0 old in (omega (arith, h.0), h.1)
        | inr e ↦ (omega (arith, e), subst Is e is)
      ],
      λ h. elim (cases_eq n count) [
        | inl e ↦ subst (Contains (nodes ++ count ∷ [])) (sym e) (Contains-push nodes count)
        | inr ne ↦ Contains-append_left nodes (count ∷ []) n
            ((those.exact n).1 (omega (arith, h.0, ne), h.1))
      ],
    );
    rises = in_order-append (λ m n. m < n) nodes (count ∷ []) those.rises
        (λ y h. absurd (Contains-none y h), tt)
        (λ a b ha hb. elim (Contains-cases count [] b hb) [
          | inl e ↦ let h = (those.exact a).0 ha in omega (arith, h.0, e)
          | inr none ↦ absurd (Contains-none b none)
        ]);
  }

pub those_all : (Is : ℕ → Type 0) (nodes : List ℕ) (count end : ℕ) → end ≡ count
    → ((n : ℕ) → Is n → n < count) → AreThose (λ n. (n < end) × Is n) nodes → AreThose Is nodes
those_all Is nodes count end e there those = record {
  exact = λ n. (
    λ c. ((those.exact n).0 c).1,
    λ is. (those.exact n).1 (subst (λ k. n < k) (sym e) (there n is), is),
  );
  rises = those.rises;
}
