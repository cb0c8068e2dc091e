-- When terms with variables match the classes of nodes, where each variable stands for a class.
use Rattle.std.specs.Prelude.{◌≡◌, ℕ, ℤ, ◌<◌, List, [], ◌∷◌, ◌++◌, length}
use Rattle.std.specs.List.{All}
use Rattle.esc_term.specs.declared.term.Head.{Head}
use Rattle.esc_term.specs.declared.term.Term.{Term}
use Rattle.esc_term.specs.declared.term.Term.TheVariants.{Num, Var, App}
use Rattle.esc_nodes.specs.Nodes.{shape_at}
use Rattle.esc_nodes.specs.declared.top.Top.TheVariants as top
use Rattle.esc_union.specs.Merges.{SameClass}
use Rattle.esc_egraph.specs.Graph.{Graph, number_of}

mutual
  -- The pattern matches the class of a node, where each variable has the class with this number.
  -- The matched nodes come along: from the front, that of a term before those inside it.
  pub data Match (g : Graph) (class : ℕ → ℕ) : Term → ℕ → List ℕ → Type 0 where
    -- a variable matches its class
    variable : (p : Term) (n : ℕ) (matched : List ℕ) (k : ℕ) → p ≡ Var k
        → number_of g n ≡ class k → matched ≡ n ∷ [] → Match g class p n matched
    -- a numeral matches the class in which it stands
    numeral : (p : Term) (n : ℕ) (matched : List ℕ) (v : ℤ) (m : ℕ) → p ≡ Num v
        → m < length g.nodes → (shape_at g.nodes m).top ≡ top.Num v → SameClass (number_of g) m n
        → matched ≡ n ∷ [] → Match g class p n matched
    -- an application matches the class of a node of its head whose arguments match
    application : (p : Term) (n : ℕ) (matched : List ℕ) (head : Head) (ps : List Term) (m : ℕ)
        (inside : List ℕ) → p ≡ App head ps → m < length g.nodes
        → (shape_at g.nodes m).top ≡ top.App head → SameClass (number_of g) m n
        → MatchAll g class ps (shape_at g.nodes m).args inside → matched ≡ m ∷ inside
        → Match g class p n matched

  -- the patterns match the classes of the nodes, place by place
  pub data MatchAll (g : Graph) (class : ℕ → ℕ) : List Term → List ℕ → List ℕ → Type 0 where
    none : (ps : List Term) (ns matched : List ℕ) → ps ≡ [] → ns ≡ [] → matched ≡ []
        → MatchAll g class ps ns matched
    more : (ps : List Term) (ns matched : List ℕ) (q : Term) (qs : List Term) (m : ℕ) (ms : List ℕ)
        (first rest : List ℕ) → ps ≡ q ∷ qs → ns ≡ m ∷ ms → Match g class q m first
        → MatchAll g class qs ms rest → matched ≡ first ++ rest → MatchAll g class ps ns matched

-- each term of the trigger matches the class of some node
pub record TriggerMatch (g : Graph) (class : ℕ → ℕ) (trigger : List Term) (matched : List ℕ) :
    Type 0 where
  pub nodes : List ℕ
  pub there : All (λ n. n < length g.nodes) nodes
  pub match : MatchAll g class trigger nodes matched
