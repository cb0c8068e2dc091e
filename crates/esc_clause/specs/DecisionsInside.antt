-- How decisions are found.
use Rattle.std.specs.Prelude.{◌≡◌, ℕ, ◌+◌, ◌==◌, Bool, ◌&&◌, if◌then◌else◌, List, [], ◌∷◌, Option}
use Rattle.std.specs.Prelude.{Some, None}
use Rattle.std.specs.HashMap.{get}
use Rattle.esc_clause.specs.declared.decision.Decision.{Decision}
use Rattle.esc_clause.specs.declared.decisions.Decisions.TheInside.{Inside}
use Rattle.esc_clause.specs.declared.occurrence.Occurrence.{Occurrence}

abbrev pub same_key : ℕ × ℕ → ℕ × ℕ → Bool
same_key k l = (k.0 == l.0) && (k.1 == l.1)

abbrev pub key_of : Occurrence → ℕ × ℕ
key_of at = (at.fact, at.place)

-- where the first decision with a key stands, counted from a number
abbrev pub place_from : ℕ → List Decision → ℕ × ℕ → Option ℕ
place_from n [] key = None
place_from n (d ∷ ds) key = if same_key (key_of d.at) key then Some n else place_from (n + 1) ds key

-- each key leads to the first decision that has it
pub record IsIndexed (i : Inside) : Type 0 where
  pub leads : (key : ℕ × ℕ) → get same_key i.first key ≡ place_from 0 i.list.items key
