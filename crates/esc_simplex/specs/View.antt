-- What contracts see of restrictions: the unknowns in use with what they stand for, the nodes bound
-- to them, and the restricted ones, in the order of noting; the rows; and what each unknown in the
-- rows stands for, also those that were taken back.
use Rattle.std.specs.Prelude.{◌≡◌, ℕ, ◌<◌, ◌≤◌, ◌==◌, pos, ◌≤ℤ◌, ◌↔◌, List, map, length, Option, slice_index, slice_index_or}
use Rattle.std.specs.List.{All, Contains, find}
use Rattle.std.specs.Option.{option_map}
use Rattle.esc_term.specs.declared.term.Term.{Term}
use Rattle.esc_linear.specs.Forms.{form, opaque_form}
use Rattle.esc_tableau.specs.Table.{IsRestricted, IsTable, IsWithin, sample}
use Rattle.esc_cover.specs.Assignment.{Assignment}
use Rattle.esc_simplex.specs.Senses.{AreRowsOf, Sense, StandsFor, sense_at, sense_value, senses_of, term, term_at}
use Rattle.esc_simplex.specs.declared.made.Made.{Made}
use Rattle.esc_simplex.specs.declared.made.Made.TheVariants as made
use Rattle.esc_simplex.specs.declared.simplex.Simplex.{Simplex}

abbrev pub senses_in : Simplex → List Sense
senses_in v = senses_of v.made

abbrev pub sense_in : Simplex → ℕ → Sense
sense_in v u = sense_at (senses_in v) u

-- the unknown is in use and stands for this
pub record IsInUse (v : Simplex) (u : ℕ) (s : Sense) : Type 0 where
  pub listed : Contains v.unknowns u
  pub stands : StandsFor (senses_in v) u s

-- the unknown of a node
abbrev pub bound_to : List (ℕ × ℕ) → ℕ → Option ℕ
bound_to bound a = option_map (λ pair. pair.1) (find (λ pair. pair.0 == a) bound)

-- the bound nodes, each beside the term that its unknown stands for
abbrev pub numbers_in : Simplex → List (ℕ × Term)
numbers_in v = map (λ pair. (pair.0, term_at v.made pair.1)) v.bound

-- what is to be at least 0
abbrev pub restrictions_in : Simplex → List Sense
restrictions_in v = map (sense_in v) v.restricted

-- nothing that is to be at least 0 is negative
abbrev pub Allows : Simplex → Assignment → Type 0
Allows v x = All (λ s. pos 0 ≤ℤ sense_value x s) (restrictions_in v)

-- no number stands twice in the list
abbrev pub AreOnce : List ℕ → Type 0
AreOnce us = (i j : ℕ) → i < length us → j < length us → slice_index us i ≡ slice_index us j → i ≡ j

-- no term that arithmetic does not look into has two unknowns
abbrev pub OpaqueOnce : List Sense → Type 0
OpaqueOnce senses = (u w : ℕ) (t : Term) → form t ≡ opaque_form t → StandsFor senses u (term t)
    → StandsFor senses w (term t) → u ≡ w

-- an older unknown that stands for a term
pub record IsOlderTerm (ms : List Made) (u w : ℕ) : Type 0 where
  pub older : w < u
  pub of : Term
  pub stands : StandsFor (senses_of ms) w (term of)

-- what the entry of u is made of stands before it: the terms of its form, which may be itself, or
-- the two of a gap
abbrev pub IsBuiltAt : List Made → ℕ → Made → Type 0
IsBuiltAt ms u (made.Term t) = All (λ p. (w : ℕ) × (w ≤ u)
    × StandsFor (senses_of ms) w (term p.term)) (form t).parts
IsBuiltAt ms u (made.Gap w y strict) = IsOlderTerm ms u w × IsOlderTerm ms u y

-- what holds between any two calls
pub record IsSimplex (v : Simplex) : Type 0 where
  pub table : IsTable v.tableau
  pub rows : AreRowsOf (senses_in v) v.tableau
  pub opaque_once : OpaqueOnce (senses_in v)
  pub built : (u : ℕ) (other : Made) → u < length v.made
      → IsBuiltAt v.made u (slice_index_or v.made u other)
  pub listed : All (λ u. u < length v.made) v.unknowns
  pub listed_once : AreOnce v.unknowns
  pub bound : All (λ pair. (t : Term) × IsInUse v pair.1 (term t)) v.bound
  pub bound_once : AreOnce (map (λ pair. pair.0) v.bound)
  pub restricted : All (Contains v.unknowns) v.restricted
  pub restricted_once : AreOnce v.restricted
  pub marked : (u : ℕ) → IsRestricted v.tableau u ↔ Contains v.restricted u
  pub within : IsWithin v.tableau (sample v.tableau)
