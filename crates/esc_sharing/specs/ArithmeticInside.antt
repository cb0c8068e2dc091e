-- How the arithmetic looks for two nodes of one value.
use Rattle.std.specs.Prelude.{◌≡◌, ◌≢◌, ◌⊎◌, ℕ, ◌<◌, true, false, List, length, slice_index_or, Option, Some, None, Result, Ok, Err}
use Rattle.std.specs.Prelude.{Bool}
use Rattle.std.specs.List.{Contains}
use Rattle.esc_union.specs.Merges.{SameClass}
use Rattle.esc_egraph.specs.Graph.{Graph, number_of}
use Rattle.esc_simplex.specs.Calls.{KeepsLists}
use Rattle.esc_simplex.specs.Keys.{ArePartedAt}
use Rattle.esc_simplex.specs.View.{Allows, IsSimplex, numbers_in}
use Rattle.esc_simplex.specs.declared.simplex.Simplex.{Simplex}
use Rattle.esc_simplex.specs.declared.stop.Stop.{Stop}
use Rattle.esc_sharing.specs.Admitted.{AreEqualBy, ArePartedBy, AreTwoNumbers}
use Rattle.esc_sharing.specs.Nodes.{node_term}

-- rows may have changed, and nothing else
pub record OnlyRows (v w : Simplex) : Type 0 where
  pub simplex : IsSimplex w
  pub keeps : KeepsLists v w
  pub restricted : w.restricted ≡ v.restricted

-- a bound node with its unknown, by its place
abbrev pub pair_at : List (ℕ × ℕ) → ℕ → ℕ × ℕ
pair_at numbers i = slice_index_or numbers i (0, 0)

-- ---- which of them are parted

-- where the nodes stand in two classes, something that is allowed gives them different values
abbrev pub AreParted : Graph → Simplex → ℕ → ℕ → Type 0
AreParted g v a b = (SameClass (number_of g) a b → ⊥)
    → ArePartedBy (Allows v) (node_term g a) (node_term g b)

-- they stand in two classes, and all that is allowed gives them one value
pub record AreMissed (g : Graph) (v : Simplex) (a b : ℕ) : Type 0 where
  pub two : AreTwoNumbers g (numbers_in v) a b
  pub equal : AreEqualBy (Allows v) (node_term g a) (node_term g b)

abbrev pub PairEnds : Graph → Simplex → ℕ → ℕ → Result Bool Stop → Type 0
PairEnds g v a b (Ok true) = AreMissed g v a b
PairEnds g v a b (Ok false) = AreParted g v a b
PairEnds g v a b (Err stop) = Unit {0}

-- the one at the place is parted from those behind it, as far as before the end
abbrev pub IsPartedBehind : Graph → Simplex → List (ℕ × ℕ) → ℕ → ℕ → Type 0
IsPartedBehind g v numbers place end = (j : ℕ) → place < j → j < end
    → AreParted g v (pair_at numbers place).0 (pair_at numbers j).0

-- or missed with one of them
abbrev pub RestEnds : Graph → Simplex → List (ℕ × ℕ) → ℕ → Result (Option ℕ) Stop → Type 0
RestEnds g v numbers place (Ok None) = IsPartedBehind g v numbers place (length numbers)
RestEnds g v numbers place (Ok (Some b)) = AreMissed g v (pair_at numbers place).0 b
RestEnds g v numbers place (Err stop) = Unit {0}

-- any two of these are parted
abbrev pub ArePartedAmong : Graph → Simplex → List (ℕ × ℕ) → Type 0
ArePartedAmong g v pairs = (p q : ℕ × ℕ) → Contains pairs p → Contains pairs q
    → AreParted g v p.0 q.0

-- or two are missed
abbrev pub PairsEnd : Graph → Simplex → List (ℕ × ℕ) → Result (Option (ℕ × ℕ)) Stop → Type 0
PairsEnd g v pairs (Ok None) = ArePartedAmong g v pairs
PairsEnd g v pairs (Ok (Some found)) = AreMissed g v found.0 found.1
PairsEnd g v pairs (Err stop) = Unit {0}

-- ---- keys

abbrev pub key_at : List ℕ → ℕ → ℕ
key_at keys i = slice_index_or keys i 0

-- those with different keys are parted
pub record AreKeys (g : Graph) (v : Simplex) (numbers : List (ℕ × ℕ)) (keys : List ℕ)
    : Type 0 where
  pub as_many : length keys ≡ length numbers
  pub part : (i j : ℕ) → i < length numbers → j < length numbers → key_at keys i ≢ key_at keys j
      → AreParted g v (pair_at numbers i).0 (pair_at numbers j).0

-- those whose keys differ now had different keys, or are parted
abbrev pub MixesKeys : Simplex → List (ℕ × ℕ) → List ℕ → List ℕ → Type 0
MixesKeys v numbers old new = (i j : ℕ) → i < length numbers → j < length numbers
    → key_at new i ≢ key_at new j
    → (key_at old i ≢ key_at old j) ⊎ ArePartedAt v (pair_at numbers i).1 (pair_at numbers j).1
