-- The numbers by which signatures are looked up.
use Rattle.std.specs.Prelude.{ℕ, ◌%◌, ◌^◌, map}
use Rattle.std.specs.List.{fold}
use Rattle.esc_term.specs.Digest.{mixed}
use Rattle.esc_nodes.specs.Nodes.{Shape}
use Rattle.esc_nodes.specs.TopDigest.{top_digest}

-- that of a top over the classes of the arguments, in 32 bits
unfoldable pub key_of : (ℕ → ℕ) → Shape → ℕ
key_of number s = fold mixed (top_digest s.top) (map number s.args) % 2 ^ 32
