-- What holds of the terms of nodes.
use Rattle.std.specs.Prelude.{ℕ, List, ◌++◌, ◌≡◌, ◌<◌, length, IsTrue}
use Rattle.esc_term.specs.Term.{is_ground}
use Rattle.esc_nodes.specs.Nodes.{Shape, shape_at, AreTerms}
use Rattle.esc_nodes.specs.Terms.{built, term_of}

-- the term of a node stays where more nodes are made
abbrev pub TermsStay : Type 0
TermsStay =
    (nodes more : List Shape) (k : ℕ) → k < length nodes →
    term_of (nodes ++ more) k ≡ term_of nodes k

-- the term of a node has its top, over the terms of its arguments
abbrev pub TermsAreBuilt : Type 0
TermsAreBuilt =
    (nodes : List Shape) → AreTerms nodes → (k : ℕ) → k < length nodes →
    term_of nodes k ≡ built (term_of nodes) (shape_at nodes k).top (shape_at nodes k).args

-- no two nodes have one term
abbrev pub TermsAreOnce : Type 0
TermsAreOnce =
    (nodes : List Shape) → AreTerms nodes → (j k : ℕ) → j < length nodes → k < length nodes →
    term_of nodes j ≡ term_of nodes k → j ≡ k

-- the term of a node has no variables
abbrev pub TermsAreGround : Type 0
TermsAreGround =
    (nodes : List Shape) → AreTerms nodes → (k : ℕ) → k < length nodes →
    IsTrue (is_ground (term_of nodes k))
