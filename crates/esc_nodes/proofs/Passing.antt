-- Passing over the nodes of a bucket, newest first.
use Rattle.std.proofs.Common.{◌≡◌, ℕ, ◌-◌, ◌<◌, ◌≤◌, inl, inr, ap, sym, subst, ◌∙◌, arith}
use Rattle.std.proofs.lemmas.Bool.{cases_lt}
use Rattle.esc_nodes.specs.TableInside.{IsEnd}

-- none of the nodes from the end on is wanted, and a node before it is the next of the bucket
pub record IsPassed (Wanted : ℕ → Type 0) (bucket_of : ℕ → ℕ) (bucket count end : ℕ) : Type 0 where
  pub within : end ≤ count
  pub last : 0 < end → bucket_of (end - 1) ≡ bucket
  pub none : (k : ℕ) → end ≤ k → k < count → Wanted k → ⊥

module _ (Wanted : ℕ → Type 0) (bucket_of : ℕ → ℕ) (bucket count : ℕ)
    (filed : (k : ℕ) → k < count → Wanted k → bucket_of k ≡ bucket) where
  pub IsPassed-starts : (end : ℕ) → IsEnd bucket_of bucket count end
      → IsPassed Wanted bucket_of bucket count end
  IsPassed-starts end is = record {
    within = is.within;
    last = is.last;
    none = λ k from to wanted. is.none k from to (filed k to wanted);
  }

  pub IsPassed-step : (end node next : ℕ) → 0 < end → node ≡ end - 1 → (Wanted node → ⊥)
      → IsEnd bucket_of (bucket_of node) node next →
      IsPassed Wanted bucket_of bucket count end → IsPassed Wanted bucket_of bucket count next
  IsPassed-step end node next some here unwanted is passed =
      let same : bucket_of node ≡ bucket = ap bucket_of here ∙ passed.last some in
      record {
        within = omega (arith, is.within, here, passed.within);
        last = λ more. is.last more ∙ same;
        none = λ k from to wanted. elim (cases_lt k node) [
          | inl l ↦ is.none k from l (filed k to wanted ∙ sym same)
          | inr l ↦ elim (cases_lt node k) [
            | inl m ↦ passed.none k (omega (arith, m, here, some)) to wanted
            | inr m ↦ unwanted (subst Wanted (let at : k ≡ node = omega (arith, l, m) in at) wanted)
          ]
        ];
      }
