-- The terms of the nodes that are bound to unknowns.
use Rattle.std.proofs.Common.{◌≡◌, ℕ, ◌<◌, ◌+◌, List, [], ◌∷◌, ◌++◌, map, take, length, get_or, sym}
use Rattle.std.proofs.Common.{ap, ap₂, ◌∙◌, subst}
use Rattle.std.specs.List.{All, Contains}
use Rattle.std.proofs.lemmas.List.{map_more}
use Rattle.std.proofs.lemmas.List.Elements.{All-weaker, Contains-get_or}
use Rattle.esc_term.specs.declared.term.Term.{Term}
use Rattle.esc_egraph.specs.Graph.{Graph}
use Rattle.esc_simplex.specs.Senses.{term_at}
use Rattle.esc_simplex.specs.View.{numbers_in}
use Rattle.esc_simplex.specs.declared.simplex.Simplex.{Simplex}
use Rattle.esc_sharing.specs.Nodes.{node_count, node_term}
use Rattle.esc_sharing.specs.Numbers.{AreNumbersOf}
use Rattle.esc_sharing.specs.Shared.{AreToldIn}
use Rattle.esc_sharing.specs.declared.sharing.Sharing.{Sharing}
use Rattle.esc_sharing.proofs.BoundNodes.{node_is_there, term_of_node}
use Rattle.esc_sharing.proofs.Least.{number_of_node}
use Rattle.esc_outcome.specs.JamLaws.{shared_in}
use Rattle.esc_outcome.specs.declared.stuck.Meaning.{Meaning}

module _ (g : Graph) (v : Simplex) (are : AreNumbersOf g (numbers_in v)) (pairs : List (ℕ × ℕ))
    (same : pairs ≡ v.bound) (i : ℕ) (pair : ℕ × ℕ) (below : i < length pairs)
    (is : pair ≡ get_or pairs i pair) where
  there : Contains v.bound (pair.0, pair.1)
  there = subst (λ list. Contains list pair) same
      (subst (Contains pairs) (sym is) (Contains-get_or pairs i pair below))

  pub bound_is_there : pair.0 < node_count g
  bound_is_there = node_is_there v pair.0 pair.1 there g are

  abbrev meaning : ℕ × ℕ → Meaning
  meaning p = record { unknown = p.1; term = term_at v.made p.1 }

  pub meanings_more : (meanings more : List Meaning) (t : Term)
      → meanings ≡ map meaning (take i pairs) → t ≡ node_term g pair.0
      → more ≡ meanings ++ (record { unknown = pair.1; term = t } ∷ [])
      → more ≡ map meaning (take (i + 1) pairs)
  meanings_more meanings more t before term_is more_is =
      more_is
      ∙ (ap₂ (λ front m. front ++ (m ∷ [])) before
      (ap (λ s. record { unknown = pair.1; term = s })
      (term_is ∙ term_of_node v pair.0 pair.1 there g are) ∙ ap meaning is)
      ∙ sym (map_more meaning pairs i pair below))

-- the nodes of told pairs are there
pub told_are_there : (s : Sharing Simplex) → AreNumbersOf s.graph (numbers_in s.theory)
    → All (AreToldIn s.graph (numbers_in s.theory)) s.told
    → All (λ p. (p.0 < node_count s.graph) × (p.1 < node_count s.graph)) s.told
told_are_there s are told =
    All-weaker (AreToldIn s.graph (numbers_in s.theory))
    (λ p. (p.0 < node_count s.graph) × (p.1 < node_count s.graph)) (λ p is. (
      (number_of_node (shared_in s) are p.0 is.first).0,
      (number_of_node (shared_in s) are p.1 is.second).0,
    )) s.told told
