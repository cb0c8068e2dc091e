-- What is noted of where unknowns stand.
use Rattle.std.specs.Prelude.{◌≡◌, ℕ, ◌-◌, ◌<◌, nat_lt, if◌then◌else◌, List, length, get_or}
use Rattle.esc_tableau.specs.Table.{nobody}
use Rattle.esc_tableau.specs.declared.index.Place.{Place}
use Rattle.esc_tableau.specs.declared.index.Place.TheVariants.{Row, Column, Unnoted}
use Rattle.esc_tableau.specs.declared.owner.Owner.{Owner}

-- the unknown stands at this place in the list
abbrev pub StandsAt : List Owner → ℕ → ℕ → Type 0
StandsAt owners i u = (i < length owners) × ((get_or owners i nobody).unknown ≡ u)

-- each place that is noted is right
abbrev pub IsIndexed : List Owner → List Owner → List Place → Type 0
IsIndexed owners columns places =
    ((u r : ℕ) → get_or places u Unnoted ≡ Row r → StandsAt owners r u)
    × ((u c : ℕ) → get_or places u Unnoted ≡ Column c → StandsAt columns c u)

-- a place once the row is removed
abbrev pub shifted : ℕ → Place → Place
shifted row (Row r) = if nat_lt r row then Row r else if nat_lt row r then Row (r - 1) else Unnoted
shifted row (Column c) = Column c
shifted row Unnoted = Unnoted
