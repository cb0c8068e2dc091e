-- The order by places.
use Rattle.std.specs.Prelude.{◌≡◌, ℕ, ◌<◌, List, ◌∷◌, ◌++◌}
use Rattle.std.specs.List.{AllPairs}

-- the lists have a front in common, and then the first has the lesser number
pub record IsBefore (ps qs : List ℕ) : Type 0 where
  pub front : List ℕ
  pub lesser : ℕ
  pub greater : ℕ
  pub ps_rest : List ℕ
  pub qs_rest : List ℕ
  pub first : ps ≡ front ++ lesser ∷ ps_rest
  pub second : qs ≡ front ++ greater ∷ qs_rest
  pub less : lesser < greater

-- a thing that stands at several places comes first where one of its places is before all of the
-- other's
abbrev pub Precedes : {A : Type 0} → (A → List ℕ → Type 0) → A → A → Type 0
Precedes At a b = (p : List ℕ) × At a p × ((q : List ℕ) → At b q → IsBefore p q)

-- the things stand in the order of their first places, so that none comes twice
abbrev pub IsInOrder : {A : Type 0} → (A → List ℕ → Type 0) → List A → Type 0
IsInOrder At things = AllPairs (Precedes At) things
