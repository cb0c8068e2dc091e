-- What facts that are alike have in common, and how it is looked up.
use Rattle.std.specs.Prelude.{◌≡◌, ℕ, Bool}
use Rattle.std.specs.Bool.{Decides}
use Rattle.std.specs.Cmp.{IsEquivalence, decided}
use Rattle.std.specs.Hash.{HashWrites, Alike, same_Alike, u64}
use Rattle.std.specs.List.{fold}
use Rattle.esc_term.specs.Digest.{mixed}
use Rattle.esc_term.specs.Same.{same, same-is}
use Rattle.esc_egraph.specs.Graph.{Graph}
use Rattle.esc_rounds.specs.Due.{classes_of, kind_of}
use Rattle.esc_rounds.specs.contracts.key.Key as key
use Rattle.esc_rounds.specs.declared.draw.Draw.{Draw}
use Rattle.esc_rounds.specs.declared.key.Key.{Key}
use Rattle.esc_rounds.specs.declared.kind.Kind.{Kind}
use Rattle.esc_rounds.specs.declared.kind.Kind.TheVariants.{Witness, Write, Read, Instance}

abbrev pub key_of : Graph → Draw → Key
key_of g d = record { kind = kind_of d; classes = classes_of g d }

-- ---- equality

pub same_key : Key → Key → Bool
same_key = same key.the_row.coded

pub same_key-is : (j k : Key) → Decides (same_key j k) (j ≡ k)
unfolding same_key
same_key-is = same-is key.the_row.coded

pub same_key-equivalence : IsEquivalence same_key
same_key-equivalence = decided same_key same_key-is

-- ---- looking up

abbrev pub kind_digest : Kind → ℕ
kind_digest (Witness f) = mixed 1 f
kind_digest Write = 2
kind_digest Read = 3
kind_digest (Instance f) = mixed 4 f

-- The number by which a key is looked up. Nothing rests on its being one for each: `==` decides.
abbrev pub digest : Key → ℕ
digest k = fold mixed (kind_digest k.kind) k.classes

abbrev pub hashed : Key → HashWrites
hashed k = u64 (digest k)

pub hashed-alike : Alike same_key hashed
hashed-alike = same_Alike hashed same_key-is
