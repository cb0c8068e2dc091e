-- The digest of what stands at the top of a term, before those of the arguments are mixed into it.
use Rattle.std.specs.Prelude.{ℕ}
use Rattle.std.specs.Int.{cast_unsigned}
use mir.Syntax.{w64}
use Rattle.esc_term.specs.Digest.{mixed, head_digest}
use Rattle.esc_nodes.specs.declared.top.Top.{Top}
use Rattle.esc_nodes.specs.declared.top.Top.TheVariants.{Num, App}

abbrev pub top_digest : Top → ℕ
top_digest (Num n) = mixed 0 (cast_unsigned w64 n)
top_digest (App head) = head_digest head
