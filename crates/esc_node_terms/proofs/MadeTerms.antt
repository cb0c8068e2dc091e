-- The terms of the nodes of a graph that gets one more, or that has it already.
use Rattle.std.proofs.Common.{◌≡◌, ℕ, pos, ◌<◌, ◌⊎◌, inl, inr, List, [], ◌∷◌, ◌++◌, length}
use Rattle.std.proofs.Common.{ap, sym, subst, ◌∙◌, arith}
use Rattle.std.specs.List.{Contains}
use Rattle.std.proofs.lemmas.List.{get_or_push, length_push}
use Rattle.std.proofs.lemmas.List.Sums.{fold-append}
use Rattle.esc_term.specs.declared.term.Term.TheVariants as term
use Rattle.esc_term.specs.Term.{with_once}
use Rattle.esc_nodes.specs.Nodes.{AreTerms, Shape, shape_at}
use Rattle.esc_nodes.specs.Terms.{at_place, built, term_of, terms_of, with_next}
use Rattle.esc_nodes.proofs.NodeTerms.{terms_are_built, terms_are_once, terms_stay}
use Rattle.esc_egraph.specs.Congruence.{IsKnown, IsMade}
use Rattle.esc_egraph.specs.Graph.{Graph, IsGraph}
use Rattle.esc_node_terms.proofs.Once.{with_once-absent, with_once-there}
use Rattle.esc_node_terms.proofs.Places.{Contains-term_of, length-terms_of, node_of_term}

terms_of-push : (nodes : List Shape) (s : Shape) →
    terms_of (nodes ++ (s ∷ [])) ≡ terms_of nodes ++ (built (term_of nodes) s.top s.args ∷ [])
unfolding terms_of term_of
terms_of-push nodes s = fold-append with_next [] nodes (s ∷ [])

term_of-push : (nodes : List Shape) (s : Shape) → term_of (nodes ++ (s ∷ [])) (length nodes)
    ≡ built (term_of nodes) s.top s.args
unfolding term_of
term_of-push nodes s =
    ap (λ ts. at_place ts (length nodes)) (terms_of-push nodes s)
    ∙ get_or_push (terms_of nodes) (built (term_of nodes) s.top s.args) (term.Num (pos 0))
    (length nodes) (length-terms_of nodes)

new_term : (nodes : List Shape) (s : Shape) → AreTerms (nodes ++ (s ∷ [])) →
    Contains (terms_of nodes) (built (term_of nodes) s.top s.args) → ⊥
new_term nodes s are h =
    let at = node_of_term nodes (built (term_of nodes) s.top s.args) h in
    let one : at.0 ≡ length nodes =
    terms_are_once (nodes ++ (s ∷ [])) are at.0 (length nodes)
    (omega (arith, at.1, length_push nodes s)) (omega (arith, length_push nodes s))
    (terms_stay nodes (s ∷ []) at.0 at.1 ∙ (at.2 ∙ sym (term_of-push nodes s))) in
    omega (arith, at.1, one)

known_term : (old : Graph) (s : Shape) (node : ℕ) → AreTerms old.nodes → node < length old.nodes →
    shape_at old.nodes node ≡ s →
    term_of old.nodes node ≡ built (term_of old.nodes) s.top s.args
known_term old s node are there is = terms_are_built old.nodes are node there
    ∙ ap (λ (x : Shape). built (term_of old.nodes) x.top x.args) is

pub terms_grown : (old new : Graph) (s : Shape) (node : ℕ) → IsGraph new →
    IsKnown old new s node ⊎ IsMade old new s node →
    terms_of new.nodes ≡ with_once (terms_of old.nodes) (built (term_of old.nodes) s.top s.args)
terms_grown old new s node sound (inl known) =
    let is = known_term old s node (subst (λ (g : Graph). AreTerms g.nodes) known.same sound.terms)
    known.there known.is in
    ap (λ (g : Graph). terms_of g.nodes) known.same
    ∙ sym (with_once-there (terms_of old.nodes) (built (term_of old.nodes) s.top s.args)
    (subst (Contains (terms_of old.nodes)) is (Contains-term_of old.nodes node known.there)))
terms_grown old new s node sound (inr made) =
    ap terms_of made.nodes ∙ (terms_of-push old.nodes s
    ∙ sym (with_once-absent (terms_of old.nodes) (built (term_of old.nodes) s.top s.args)
    (new_term old.nodes s (subst AreTerms made.nodes sound.terms))))

pub term_grown : (old new : Graph) (s : Shape) (node : ℕ) → IsGraph new →
    IsKnown old new s node ⊎ IsMade old new s node →
    term_of new.nodes node ≡ built (term_of old.nodes) s.top s.args
term_grown old new s node sound (inl known) =
    ap (λ (g : Graph). term_of g.nodes node) known.same
    ∙ known_term old s node (subst (λ (g : Graph). AreTerms g.nodes) known.same sound.terms)
    known.there known.is
term_grown old new s node sound (inr made) =
    ap (λ nodes. term_of nodes node) made.nodes
    ∙ (ap (term_of (old.nodes ++ (s ∷ []))) made.last ∙ term_of-push old.nodes s)
