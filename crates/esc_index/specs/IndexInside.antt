-- How an index is held.
use Rattle.std.specs.Prelude.{ℕ, List, ◌≡◌, ◌<◌, length}
use Rattle.esc_index.specs.ThreadsInside.{IsThreaded}
use Rattle.esc_index.specs.declared.index.Index.TheInside.{Inside}

pub record IsHeld (entries : List (ℕ × ℕ)) (heads next : List ℕ) : Type 0 where
  pub some : 0 < length entries → 0 < length heads
  pub as_many : length next ≡ length entries
  pub threaded : IsThreaded entries (length entries) heads next

abbrev pub entries_of : Inside → List (ℕ × ℕ)
entries_of i = i.entries.items

abbrev pub IsSound : Inside → Type 0
IsSound i = IsHeld i.entries.items i.heads.items i.next.items
