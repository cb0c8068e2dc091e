-- How classes are held.
use Rattle.std.specs.Prelude.{ℕ, List, [], ◌≡◌, ◌<◌, length, map, take, slice_index, slice_index_or}
use Rattle.esc_union.specs.Merges.{Merged, AreMerges, class_number, merge_at}
use Rattle.esc_union.specs.Members.{members_of}
use Rattle.esc_union.specs.declared.partition.Partition.TheInside.{Inside}

-- the number of each node's class is held, the members of each class, and the number that each
-- merge did away with
pub record IsHeld (merges : List (ℕ × ℕ)) (roots : List ℕ) (members : List (List ℕ))
    (absorbed : List ℕ) : Type 0 where
  pub are : AreMerges (length roots) merges
  pub numbered : (k : ℕ) → k < length roots → slice_index roots k ≡ class_number merges k
  pub as_long : length members ≡ length roots
  pub listed : (k : ℕ) → k < length roots → slice_index_or members k [] ≡ members_of merges k
  pub as_many : length absorbed ≡ length merges
  pub noted : (i : ℕ) → i < length merges → slice_index absorbed i
      ≡ class_number (take i merges) (merge_at merges i).0

abbrev pub merged_of : Inside → Merged
merged_of p = record { count = length p.roots.items; merges = p.merges.items }

abbrev pub IsSound : Inside → Type 0
IsSound p = IsHeld p.merges.items p.roots.items (map (λ v. v.items) p.members.items)
    p.absorbed.items
