-- The terms of nodes: a node's term stands at the node's own place.
use Rattle.std.proofs.Common.{◌≡◌, ℕ, pos, zero, suc, ◌+◌, ◌<◌, Bool, true, false, cond, List, []}
use Rattle.std.proofs.Common.{◌∷◌, length, get_or, refl, ◌∙◌, arith}
use Rattle.std.specs.List.{Contains, fold}
use Rattle.std.proofs.lemmas.List.{get_or_default, length_push}
use Rattle.std.proofs.lemmas.List.Elements.{Contains-get_or}
use Rattle.esc_term.specs.declared.term.Term.{Term}
use Rattle.esc_term.specs.declared.term.Term.TheVariants as term
use Rattle.esc_term.specs.Equal.{same_term, same_term-is}
use Rattle.esc_nodes.specs.Nodes.{AreTerms, Shape}
use Rattle.esc_nodes.specs.Terms.{at_place, built, term_of, terms_of, with_next}
use Rattle.esc_nodes.proofs.NodeTerms.{terms_are_once}
use Rattle.esc_node_terms.specs.Nodes.{place_among}

length-made : (ts : List Term) (nodes : List Shape) →
    length (fold with_next ts nodes) ≡ length ts + length nodes
length-made ts [] = omega arith
length-made ts (s ∷ nodes) =
    omega (
      arith,
      length-made (with_next ts s) nodes,
      length_push ts (built (at_place ts) s.top s.args),
    )

pub length-terms_of : (nodes : List Shape) → length (terms_of nodes) ≡ length nodes
unfolding terms_of
length-terms_of nodes = omega (arith, length-made [] nodes)

place_found : (ts : List Term) (t d : Term) (k : ℕ) → k < length ts → get_or ts k d ≡ t →
    (place_among ts t < length ts) × (get_or ts (place_among ts t) d ≡ t)
unfolding place_among
place_found [] t d k l e = absurd (omega (arith, l))
place_found (u ∷ us) t d zero l e =
    let here : same_term u t ≡ true = (same_term-is u t).1 e in
    rw here (omega arith, e)
place_found (u ∷ us) t d (suc k) l e =
    go (same_term u t) refl (place_found us t d k (omega (arith, l)) e)
  where
    go : (b : Bool) → same_term u t ≡ b →
        (place_among us t < length us) × (get_or us (place_among us t) d ≡ t)
        → (cond b 0 (suc (place_among us t)) < suc (length us))
        × (get_or (u ∷ us) (cond b 0 (suc (place_among us t))) d ≡ t)
    go true is later = (omega arith, (same_term-is u t).0 is)
    go false is later = (omega (arith, later.0), later.1)

pub place-term_of : (nodes : List Shape) → AreTerms nodes → (k : ℕ) → k < length nodes →
    place_among (terms_of nodes) (term_of nodes k) ≡ k
unfolding term_of
place-term_of nodes are k l =
    let found = place_found (terms_of nodes) (term_of nodes k) (term.Num (pos 0)) k
    (omega (arith, l, length-terms_of nodes)) refl in
    terms_are_once nodes are (place_among (terms_of nodes) (term_of nodes k)) k
    (omega (arith, found.0, length-terms_of nodes)) l found.1

pub Contains-term_of : (nodes : List Shape) (k : ℕ) → k < length nodes →
    Contains (terms_of nodes) (term_of nodes k)
unfolding term_of
Contains-term_of nodes k l = Contains-get_or (terms_of nodes) k (term.Num (pos 0))
    (omega (arith, l, length-terms_of nodes))

pub node_of_term : (nodes : List Shape) (t : Term) → Contains (terms_of nodes) t →
    (k : ℕ) × (k < length nodes) × (term_of nodes k ≡ t)
unfolding term_of
node_of_term nodes t h = (
  h.0,
  omega (arith, h.1, length-terms_of nodes),
  get_or_default (terms_of nodes) h.0
      (term.Num (pos 0)) t h.1 ∙ h.2,
)
