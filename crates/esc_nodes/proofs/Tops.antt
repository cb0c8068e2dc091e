-- The term of a node, by what stands at its top.
use Rattle.std.proofs.Common.{◌≡◌, ℕ, ℤ, ◌<◌, List, length, map, ap, ◌∙◌}
use Rattle.esc_term.specs.declared.term.Head.{Head}
use Rattle.esc_term.specs.declared.term.Term.TheVariants as term
use Rattle.esc_nodes.specs.Nodes.{Shape, shape_at, AreTerms}
use Rattle.esc_nodes.specs.Terms.{built, term_of}
use Rattle.esc_nodes.specs.declared.top.Top.TheVariants.{Num, App}
use Rattle.esc_nodes.proofs.NodeTerms.{terms_are_built}

pub term_of-Num : (nodes : List Shape) (k : ℕ) (n : ℤ) → AreTerms nodes → k < length nodes
    → (shape_at nodes k).top ≡ Num n → term_of nodes k ≡ term.Num n
term_of-Num nodes k n are l e = terms_are_built nodes are k l
    ∙ ap (λ t. built (term_of nodes) t (shape_at nodes k).args) e

pub term_of-App : (nodes : List Shape) (k : ℕ) (head : Head) → AreTerms nodes → k < length nodes
    → (shape_at nodes k).top ≡ App head →
    term_of nodes k ≡ term.App head (map (term_of nodes) (shape_at nodes k).args)
term_of-App nodes k head are l e = terms_are_built nodes are k l
    ∙ ap (λ t. built (term_of nodes) t (shape_at nodes k).args) e
