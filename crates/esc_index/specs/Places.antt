-- Places in a list of keys, each with a node.
use Rattle.std.specs.Prelude.{ℕ, List, ◌≡◌, ◌≢◌, ◌+◌, ◌<◌, ◌≤◌, slice_index_or}

-- the key and the node at a place
abbrev pub entry_at : List (ℕ × ℕ) → ℕ → ℕ × ℕ
entry_at entries p = slice_index_or entries p (0, 0)

-- no place from `start` on and before `end` has the key
abbrev pub HasNone : List (ℕ × ℕ) → ℕ → ℕ → ℕ → Type 0
HasNone entries key start end = (p : ℕ) → start ≤ p → p < end → (entry_at entries p).0 ≢ key

-- this is the last place before `end` that has the key
pub record IsLastBefore (entries : List (ℕ × ℕ)) (key end place : ℕ) : Type 0 where
  pub before : place < end
  pub has : (entry_at entries place).0 ≡ key
  pub last : HasNone entries key (place + 1) end
