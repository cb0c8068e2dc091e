-- How the places of one bucket are threaded, the last one first.
use Rattle.std.specs.Prelude.{ℕ, List, ◌≡◌, ◌≢◌, ◌+◌, ◌<◌, ◌≤◌, ◌%◌, length, slice_index}
use Rattle.esc_index.specs.Places.{entry_at}

-- the bucket of the key at a place, of so many buckets
abbrev pub bucket_at : List (ℕ × ℕ) → ℕ → ℕ → ℕ
bucket_at entries size p = (entry_at entries p).0 % size

-- one more than the last place before `end` that is in the bucket, or 0 where none is
pub record IsHead (entries : List (ℕ × ℕ)) (size bucket end head : ℕ) : Type 0 where
  pub bound : head ≤ end
  pub has : (p : ℕ) → head ≡ p + 1 → bucket_at entries size p ≡ bucket
  pub last : (p : ℕ) → head ≤ p → p < end → bucket_at entries size p ≢ bucket

-- the buckets have their heads at `end`, and each place before it has that of its bucket before it
pub record IsThreaded (entries : List (ℕ × ℕ)) (end : ℕ) (heads next : List ℕ) : Type 0 where
  pub starts : (b : ℕ) → b < length heads → IsHead entries (length heads) b end
      (slice_index heads b)
  pub goes_on : (p : ℕ) → p < end → IsHead entries (length heads)
      (bucket_at entries (length heads) p) p (slice_index next p)
