-- Matches as they read on the terms of nodes.
use Rattle.std.specs.Prelude.{◌≡◌, ℕ, ℤ, ◌<◌, ◌↔◌, nat_lt, IsTrue, List, [], ◌∷◌, ◌++◌, length, map}
use Rattle.std.specs.List.{All, Contains, flat_map, list_all}
use Rattle.esc_term.specs.declared.term.Head.{Head}
use Rattle.esc_term.specs.declared.term.Term.{Term}
use Rattle.esc_term.specs.declared.term.Term.TheVariants.{Num, Var, App}
use Rattle.esc_term.specs.Term.{binding}
use Rattle.esc_cover.specs.Classes.{together}
use Rattle.esc_nodes.specs.Terms.{term_of, terms_of}
use Rattle.esc_union.specs.Merges.{SameClass}
use Rattle.esc_egraph.specs.Graph.{Graph, IsGraph, number_of}
use Rattle.esc_trigger.specs.Variables.{variables_of}
use Rattle.esc_match.specs.Match.{TriggerMatch}
use Rattle.esc_match.specs.Matches.{class_in}

mutual
  -- The pattern matches a term modulo classes, with a term of the class of each variable, that of
  -- the outermost one first. The matched terms come along: from the front, a term before those
  -- inside it.
  pub data TermMatch (terms : List Term) (classes : List (List Term)) (members : List Term) :
      Term → Term → List Term → Type 0 where
    -- a variable matches the terms of its class
    variable : (p t : Term) (matched : List Term) (k : ℕ) → p ≡ Var k
        → IsTrue (together classes t (binding members k p)) → matched ≡ t ∷ []
        → TermMatch terms classes members p t matched
    -- a numeral matches the terms of the class in which it stands
    numeral : (p t : Term) (matched : List Term) (v : ℤ) → p ≡ Num v → Contains terms p
        → IsTrue (together classes p t) → matched ≡ t ∷ []
        → TermMatch terms classes members p t matched
    -- an application matches the terms of a class with an application of its head whose arguments
    -- match
    application : (p t : Term) (matched : List Term) (u : Term) (head : Head)
        (ps ts inside : List Term) → p ≡ App head ps → u ≡ App head ts → Contains terms u
        → IsTrue (together classes u t) → TermMatchAll terms classes members ps ts inside
        → matched ≡ u ∷ inside → TermMatch terms classes members p t matched

  -- the patterns match the terms, place by place
  pub data TermMatchAll (terms : List Term) (classes : List (List Term)) (members : List Term) :
      List Term → List Term → List Term → Type 0 where
    none : (ps ts matched : List Term) → ps ≡ [] → ts ≡ [] → matched ≡ []
        → TermMatchAll terms classes members ps ts matched
    more : (ps ts matched : List Term) (q u : Term) (qs us first rest : List Term) → ps ≡ q ∷ qs
        → ts ≡ u ∷ us → TermMatch terms classes members q u first
        → TermMatchAll terms classes members qs us rest → matched ≡ first ++ rest
        → TermMatchAll terms classes members ps ts matched

-- each term of the trigger matches some term
pub record TermTriggerMatch (terms : List Term) (classes : List (List Term))
    (trigger members matched : List Term) : Type 0 where
  pub found : List Term
  pub there : All (Contains terms) found
  pub match : TermMatchAll terms classes members trigger found matched

-- the classes part the terms of nodes as the graph parts the nodes
abbrev pub AreClassesOf : Graph → List (List Term) → Type 0
AreClassesOf g classes =
    (j k : ℕ) → j < length g.nodes → k < length g.nodes →
    IsTrue (together classes (term_of g.nodes j) (term_of g.nodes k)) ↔ SameClass (number_of g) j k

-- the trigger has no variable but those that the nodes are given for
abbrev pub HoldsOnly : ℕ → List Term → Type 0
HoldsOnly count trigger = IsTrue (list_all (λ k. nat_lt k count) (flat_map variables_of trigger))

-- what matches nodes matches their terms
abbrev pub MatchesAreOfTerms : Type 0
MatchesAreOfTerms =
    (g : Graph) → IsGraph g → (classes : List (List Term)) → AreClassesOf g classes →
    (trigger : List Term) (members matched : List ℕ) → All (λ n. n < length g.nodes) members →
    HoldsOnly (length members) trigger → TriggerMatch g (class_in g members) trigger matched →
    TermTriggerMatch (terms_of g.nodes) classes trigger (map (term_of g.nodes) members)
    (map (term_of g.nodes) matched)

-- and what matches their terms matches the nodes
abbrev pub TermMatchesAreOfNodes : Type 0
TermMatchesAreOfNodes =
    (g : Graph) → IsGraph g → (classes : List (List Term)) → AreClassesOf g classes →
    (trigger : List Term) (members : List ℕ) → All (λ n. n < length g.nodes) members →
    HoldsOnly (length members) trigger → (shown : List Term) →
    TermTriggerMatch (terms_of g.nodes) classes trigger (map (term_of g.nodes) members) shown →
    (matched : List ℕ) × (shown ≡ map (term_of g.nodes) matched)
    × TriggerMatch g (class_in g members) trigger matched
