-- How nodes are found by their digests.
use Rattle.std.specs.Prelude.{ℕ, List, ◌≡◌, ◌-◌, ◌<◌, ◌≤◌, ◌%◌, length, slice_index}

-- the digest of each node, and the number of buckets into which digests fall
pub record Filed : Type 0 where
  pub digests : List ℕ
  pub buckets : ℕ

-- the bucket of a node
abbrev pub bucket_at : Filed → ℕ → ℕ
bucket_at t k = slice_index t.digests k % t.buckets

-- one past the last node below the limit in a bucket, and 0 where there is none
pub record IsEnd (bucket_of : ℕ → ℕ) (bucket limit end : ℕ) : Type 0 where
  pub within : end ≤ limit
  pub last : 0 < end → bucket_of (end - 1) ≡ bucket
  pub none : (k : ℕ) → end ≤ k → k < limit → bucket_of k ≡ bucket → ⊥

-- of the first nodes: the end of each bucket, and for each node the end of its bucket before it
pub record AreLinked (digests ends before : List ℕ) (count : ℕ) : Type 0 where
  pub newest : (b : ℕ) → b < length ends →
      IsEnd (bucket_at (record { digests = digests; buckets = length ends })) b count
      (slice_index ends b)
  pub older : (k : ℕ) → k < count →
      IsEnd (bucket_at (record { digests = digests; buckets = length ends }))
      (slice_index digests k % length ends) k (slice_index before k)
