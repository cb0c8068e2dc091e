-- How the pairs of a group are found by their numbers.
use Rattle.std.specs.Prelude.{◌≡◌, ℕ, zero, suc, ◌+◌, List, [], ◌∷◌, ◌++◌, length, map}
use Rattle.esc_book.specs.declared.group.Group.TheInside.{Inside}

-- the nodes at each two places
abbrev pub node_pairs : List ℕ → List (ℕ × ℕ)
node_pairs [] = []
node_pairs (a ∷ nodes) = map (λ b. (a, b)) nodes ++ node_pairs nodes

-- the number of the first pair of each of so many nodes with one behind it, counted from a number
abbrev pub rows_from : ℕ → ℕ → List ℕ
rows_from start zero = []
rows_from start (suc n) = start ∷ rows_from (start + n) n

pub record HasRows (g : Inside) : Type 0 where
  pub rows : g.rows.items ≡ rows_from 0 (length g.nodes)

-- how many pairs so many nodes have
abbrev pub pair_count : ℕ → ℕ
pair_count zero = 0
pair_count (suc n) = n + pair_count n
