use Rattle.std.proofs.Common.{◌≡◌, ◌≤◌, ◌<◌, ℕ, length, get_or}
use Rattle.esc_sharing.specs.KnownInside.{relabeled}
use Rattle.esc_sharing.proofs.known.relabel.Given as goal

abbrev pub invariant-entries : goal.invariant-entries
invariant-entries l = record {
  count : length l.known ≡ length l.fn.known;
  done : (k : ℕ) (d : ℕ × ℕ) → k < l.place
      → get_or l.known k d ≡ relabeled l.from l.into (get_or l.fn.known k d);
  rest : (k : ℕ) (d : ℕ × ℕ) → l.place ≤ k → get_or l.known k d ≡ get_or l.fn.known k d;
}
