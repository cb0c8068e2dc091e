-- What the theory knows to be equal, by labels of the arithmetic nodes.
use Rattle.std.specs.Prelude.{◌≡◌, ◌≢◌, ℕ, ◌<◌, ◌⊎◌, ◌==◌, List, map, length, if◌then◌else◌, slice_index_or}
use Rattle.std.specs.List.{All, Contains}
use Rattle.esc_term.specs.declared.term.Term.{Term}
use Rattle.esc_sharing.specs.Numbers.{IsNumber}

-- ---- labels

abbrev pub node_at : List (ℕ × ℕ) → ℕ → ℕ
node_at known i = (slice_index_or known i (0, 0)).0

abbrev pub label_at : List (ℕ × ℕ) → ℕ → ℕ
label_at known i = (slice_index_or known i (0, 0)).1

-- two entries with these nodes have one label
pub record AreKnownBy (known : List (ℕ × ℕ)) (a b : ℕ) : Type 0 where
  pub first : ℕ
  pub second : ℕ
  pub a_there : Contains known (a, first)
  pub b_there : Contains known (b, second)
  pub same : first ≡ second

-- the entries are of the arithmetic nodes
pub record AreLabeled (numbers : List (ℕ × Term)) (known : List (ℕ × ℕ)) : Type 0 where
  pub among : All (λ entry. IsNumber numbers entry.0) known
  pub each : (a : ℕ) → IsNumber numbers a → (label : ℕ) × Contains known (a, label)

-- ---- labels that become one

abbrev pub relabeled : ℕ → ℕ → ℕ × ℕ → ℕ × ℕ
relabeled from into entry = (entry.0, if entry.1 == from then into else entry.1)

-- a label of the one node became one of the other, if both have any
abbrev pub IsRelabeled : List (ℕ × ℕ) → List (ℕ × ℕ) → ℕ → ℕ → Type 0
IsRelabeled old new a b = (new ≡ old) ⊎ ((from into : ℕ) × Contains old (a, from)
    × Contains old (b, into) × (new ≡ map (relabeled from into) old))

-- ---- known nodes side by side for each class

-- the number of the class at a seat
abbrev pub class_at : List (ℕ × ℕ) → ℕ → ℕ
class_at seats k = (slice_index_or seats k (0, 0)).0

-- the class at the start goes on there, or another one starts
abbrev pub StartsAt : List (ℕ × ℕ) → ℕ → ℕ → ℕ → Type 0
StartsAt seats place start now = ((now ≡ start) × (class_at seats place ≡ class_at seats start))
    ⊎ ((now ≡ place) × (class_at seats place ≢ class_at seats start))

-- ---- more is known

-- the same nodes, of which more are known to be equal
pub record KnowsMore (old new : List (ℕ × ℕ)) : Type 0 where
  pub nodes : map (λ entry. entry.0) new ≡ map (λ entry. entry.0) old
  pub kept : (i j : ℕ) → i < length old → j < length old → label_at old i ≡ label_at old j
      → label_at new i ≡ label_at new j
