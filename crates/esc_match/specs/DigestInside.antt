-- The number by which a substitution is looked up. Nothing rests on its being one for each: `==`
-- decides.
use Rattle.std.specs.Prelude.{ℕ, List}
use Rattle.std.specs.Hash.{HashWrites, Alike, same_Alike, u64}
use Rattle.std.specs.List.{fold}
use Rattle.esc_term.specs.Digest.{mixed}
use Rattle.esc_match.specs.Equal.{same_substitution, same_substitution-is}
use Rattle.esc_match.specs.declared.substitution.Substitution.{Substitution}

-- the number of some nodes
abbrev pub digest : List ℕ → ℕ
digest nodes = fold mixed 0 nodes

-- what a substitution gives to a hasher
abbrev pub hashed : Substitution → HashWrites
hashed s = u64 (digest s.nodes)

pub hashed-alike : Alike same_substitution hashed
hashed-alike = same_Alike hashed same_substitution-is
