-- Classes of nodes, and the least ones that are closed under congruence and meet equations.
use Rattle.std.specs.Prelude.{ℕ, List, [], ◌∷◌, ◌++◌, ◌≡◌, ◌≢◌, ◌<◌, ◌⊎◌, length, Any, slice_index}
use Rattle.esc_nodes.specs.Nodes.{Shape, shape_at}
use Rattle.esc_nodes.specs.declared.top.Top.{Top}
use Rattle.esc_nodes.specs.declared.top.Top.TheVariants.{Num, App}
use Rattle.esc_union.specs.Merges.{SameClass}
use Rattle.esc_egraph.specs.Graph.{Graph, number_of}

-- the nodes of two lists stand in one class, place by place
pub record AllSame (number : ℕ → ℕ) (xs ys : List ℕ) : Type 0 where
  pub lengths : length xs ≡ length ys
  pub places : (k : ℕ) → k < length xs → SameClass number (slice_index xs k) (slice_index ys k)

-- two shapes have one top, and arguments that stand in one class, place by place
pub record AreAlike (number : ℕ → ℕ) (s t : Shape) : Type 0 where
  pub top : s.top ≡ t.top
  pub args : AllSame number s.args t.args

-- nodes whose shapes are alike stand in one class
abbrev pub IsCongruence : List Shape → (ℕ → ℕ) → Type 0
IsCongruence nodes number =
    (a b : ℕ) → a < length nodes → b < length nodes
    → AreAlike number (shape_at nodes a) (shape_at nodes b) → SameClass number a b

-- nodes that are to be equal stand in one class
abbrev pub Meets : List Shape → (ℕ → ℕ → Type 0) → (ℕ → ℕ) → Type 0
Meets nodes Equal number = (a b : ℕ) → a < length nodes → b < length nodes → Equal a b
    → SameClass number a b

-- the classes are the finest ones that are closed under congruence and meet the equations
pub record IsLeast (nodes : List Shape) (Equal : ℕ → ℕ → Type 0) (number : ℕ → ℕ) : Type 0 where
  pub closed : IsCongruence nodes number
  pub meets : Meets nodes Equal number
  pub finest : (other : ℕ → ℕ) → IsCongruence nodes other → Meets nodes Equal other
      → Meets nodes (SameClass number) other

-- the equations of a call that equates two nodes: the classes that there are, and the new pair
abbrev pub EqualWith : (ℕ → ℕ) → ℕ → ℕ → ℕ → ℕ → Type 0
EqualWith number a b x y = SameClass number x y ⊎ ((x ≡ a) × (y ≡ b))

-- two nodes of the first ones stand in one class
abbrev pub SameAmong : ℕ → (ℕ → ℕ) → ℕ → ℕ → Type 0
SameAmong count number a b = (a < count) × (b < count) × SameClass number a b

-- ---- what no class may hold

-- the tops are numerals, and differ
abbrev pub AreUnequalNumerals : Top → Top → Type 0
AreUnequalNumerals (Num x) (Num y) = x ≢ y
AreUnequalNumerals (Num x) (App f) = ⊥
AreUnequalNumerals (App f) t = ⊥

-- a node of the class of `b` is another numeral than the node `a`
abbrev pub ClashesIn : Graph → ℕ → ℕ → Type 0
ClashesIn g a b =
    (y : ℕ) × (y < length g.nodes) × SameClass (number_of g) b y
    × AreUnequalNumerals (shape_at g.nodes a).top (shape_at g.nodes y).top

-- a pair has one side in the class of `a` and the other in that of `b`
abbrev pub Joins : (ℕ → ℕ) → ℕ → ℕ → ℕ × ℕ → Type 0
Joins number a b p = (SameClass number p.0 a × SameClass number p.1 b)
    ⊎ (SameClass number p.0 b × SameClass number p.1 a)

-- a forbidden pair, or two different numerals, stand in the classes of two nodes
abbrev pub ForcedApart : Graph → ℕ → ℕ → Type 0
ForcedApart g a b =
    Any (Joins (number_of g) a b) g.forbidden ⊎ ((x : ℕ) × (x < length g.nodes)
    × SameClass (number_of g) a x × ClashesIn g x b)

-- a forbidden pair, or two different numerals, stand in one class
abbrev pub IsBroken : Graph → Type 0
IsBroken g = Any (λ p. SameClass (number_of g) p.0 p.1) g.forbidden
    ⊎ ((x : ℕ) × (x < length g.nodes) × ClashesIn g x x)

-- the classes are closed under congruence, and none holds a forbidden pair or two different
-- numerals
pub record IsMet (g : Graph) : Type 0 where
  pub closed : IsCongruence g.nodes (number_of g)
  pub whole : IsBroken g → ⊥

-- ---- what making a node gives

-- the node was there, and the graph is as it was
pub record IsKnown (old new : Graph) (s : Shape) (node : ℕ) : Type 0 where
  pub there : node < length old.nodes
  pub is : shape_at old.nodes node ≡ s
  pub same : new ≡ old

-- no node was of this shape, and one is made: it stands alone or goes into one class, and the
-- others keep their classes
pub record IsMade (old new : Graph) (s : Shape) (node : ℕ) : Type 0 where
  pub absent : (k : ℕ) → k < length old.nodes → shape_at old.nodes k ≡ s → ⊥
  pub last : node ≡ length old.nodes
  pub nodes : new.nodes ≡ old.nodes ++ (s ∷ [])
  pub merges : (new.merges ≡ old.merges) ⊎ ((k : ℕ) × (k < length old.nodes)
      × (new.merges ≡ old.merges ++ ((node, k) ∷ [])))
  pub kept : (a b : ℕ) → a < length old.nodes → b < length old.nodes → SameClass (number_of new) a b
      → SameClass (number_of old) a b
  pub least : IsLeast new.nodes (SameAmong (length old.nodes) (number_of old)) (number_of new)
  pub forbidden : new.forbidden ≡ old.forbidden
