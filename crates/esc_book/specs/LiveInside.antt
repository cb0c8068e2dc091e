-- How live facts are found.
use Rattle.std.specs.Prelude.{◌≡◌, ℕ, ◌+◌, nat_eq, if◌then◌else◌, List, [], ◌∷◌, Option, Some, None}
use Rattle.std.specs.HashMap.{get}
use Rattle.esc_book.specs.declared.live.Live.TheInside.{Inside}

-- where a number stands first, counted from a number
abbrev pub place_from : ℕ → List ℕ → ℕ → Option ℕ
place_from n [] key = None
place_from n (k ∷ ks) key = if nat_eq k key then Some n else place_from (n + 1) ks key

-- each place leads to where it stands first
pub record IsIndexed (i : Inside) : Type 0 where
  pub leads : (key : ℕ) → get nat_eq i.first key ≡ place_from 0 i.list.items key
