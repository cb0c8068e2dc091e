-- How the sides of forbidden pairs are held.
use Rattle.std.specs.Prelude.{ℕ, List, [], ◌∷◌, ◌++◌, ◌≡◌, ◌≤◌, ◌<◌, length, take, All, IsTrue}
use Rattle.std.specs.List.{flat_map, AllPairs, Contains}
use Rattle.esc_index.specs.Places.{entry_at}
use Rattle.esc_union.specs.Merges.{SameClass, class_number}
use Rattle.esc_egraph.specs.declared.pairs.PairStep.{PairStep}
use Rattle.esc_egraph.specs.declared.pairs.Sides.{Sides}

-- each side of each pair, with the other side
unfoldable pub sides_of : List (ℕ × ℕ) → List (ℕ × ℕ)
sides_of = flat_map (λ p. (p.0, p.1) ∷ ((p.1, p.0) ∷ []))

-- each side has an entry under the number of its class, and each entry is of a side of its class
pub record AreByClass (merges sides entries : List (ℕ × ℕ)) : Type 0 where
  pub all : (s : ℕ × ℕ) → Contains sides s → Contains entries (class_number merges s.0, s.1)
  pub only : (e : ℕ × ℕ) → Contains entries e → (x : ℕ) × SameClass (class_number merges) x e.0
      × Contains sides (x, e.1)

-- a step was made when there were at most so many merges, pairs and entries
pub record IsHeldThen (merges pairs entries : List (ℕ × ℕ)) (s : PairStep) : Type 0 where
  pub merges_then : s.merges ≤ length merges
  pub pairs_then : s.pairs ≤ length pairs
  pub entries_then : s.entries ≤ length entries
  pub held_then : AreByClass (take s.merges merges) (sides_of (take s.pairs pairs))
      (take s.entries entries)

-- a step was made before another
pub record IsSooner (s t : PairStep) : Type 0 where
  pub fewer_merges : s.merges ≤ t.merges
  pub fewer_pairs : s.pairs ≤ t.pairs
  pub fewer_entries : s.entries ≤ t.entries

pub record ArePairSteps (merges pairs entries : List (ℕ × ℕ)) (steps : List PairStep) :
    Type 0 where
  pub within : All (IsHeldThen merges pairs entries) steps
  pub in_order : AllPairs IsSooner steps

pub record IsSided (merges pairs : List (ℕ × ℕ)) (s : Sides) : Type 0 where
  pub held : IsTrue s.whole → AreByClass merges (sides_of pairs) s.entries
  pub stepped : ArePairSteps merges pairs s.entries s.steps.items

-- what stands under one number was added under another
pub record AreAddedUnder (entries : List (ℕ × ℕ)) (from into : ℕ) (more : List (ℕ × ℕ)) :
    Type 0 where
  pub all : (y : ℕ) → Contains entries (from, y) → Contains more (into, y)
  pub only : (e : ℕ × ℕ) → Contains more e → (e.0 ≡ into) × Contains entries (from, e.1)

abbrev pub IsCopied : List (ℕ × ℕ) → ℕ → ℕ → List (ℕ × ℕ) → Type 0
IsCopied entries from into entries' =
    (more : List (ℕ × ℕ)) × (entries' ≡ entries ++ more) × AreAddedUnder entries from into more

-- so far down to a place
pub record IsCopying (entries : List (ℕ × ℕ)) (from into : ℕ) (now : List (ℕ × ℕ)) (end : ℕ) :
    Type 0 where
  pub more : List (ℕ × ℕ)
  pub grown : now ≡ entries ++ more
  pub within : end ≤ length entries
  pub has : end < length now → (entry_at now end).0 ≡ from
  pub passed : (p : ℕ) → end ≤ p → p < length entries → (entry_at entries p).0 ≡ from
      → Contains more (into, (entry_at entries p).1)
  pub only : (e : ℕ × ℕ) → Contains more e → (e.0 ≡ into) × Contains entries (from, e.1)
