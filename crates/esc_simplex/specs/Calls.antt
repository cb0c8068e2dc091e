-- What the calls leave and answer.
use Rattle.std.specs.Prelude.{◌≡◌, ◌≢◌, ◌⊎◌, ◌↔◌, ℕ, ◌<◌, ◌≤◌, Bool, true, false, pos, ◌≤ℤ◌, List, [], ◌∷◌, ◌++◌, map, length, take, Result, Ok, Err}
use Rattle.std.specs.List.{All, Contains}
use Rattle.esc_term.specs.declared.term.Term.{Term}
use Rattle.esc_frac.specs.Rational.{zero_ℚ, ◌≤ℚ◌}
use Rattle.esc_linear.specs.Forms.{form}
use Rattle.esc_linear.specs.Steps.{AllFit, steps}
use Rattle.esc_tableau.specs.Listed.{tabled}
use Rattle.esc_tableau.specs.Table.{IsRestricted, sample, size}
use Rattle.esc_tableau.specs.declared.listed.Rows.{Rows}
use Rattle.esc_egraph.specs.declared.state.State.{State}
use Rattle.esc_egraph.specs.declared.state.State.TheVariants.{Open, Closed}
use Rattle.esc_cover.specs.Assignment.{Assignment, Gap, NoneNegative, gap}
use Rattle.esc_simplex.specs.Barred.{AreKeptRows}
use Rattle.esc_simplex.specs.Senses.{Sense, gap_of, sense_fraction, sense_value, senses_of, term, term_at}
use Rattle.esc_simplex.specs.View.{Allows, IsInUse, sense_in, senses_in}
use Rattle.esc_simplex.specs.declared.made.Made.{Made}
use Rattle.esc_simplex.specs.declared.simplex.Simplex.{Simplex}
use Rattle.esc_simplex.specs.declared.stop.Parted.{Parted}
use Rattle.esc_simplex.specs.declared.stop.Parted.TheVariants.{Equal, Different}
use Rattle.esc_simplex.specs.declared.stop.Stop.{Stop}
use Rattle.esc_simplex.specs.declared.stop.Stop.TheVariants as stop

-- the unknown is in use and stands for a term
abbrev pub IsForTerm : Simplex → ℕ → Type 0
IsForTerm v u = (t : Term) × IsInUse v u (term t)

-- the gap of the terms of two unknowns
abbrev pub gap_in : Simplex → ℕ → ℕ → Bool → Gap
gap_in v u w strict = gap (term_at v.made u) (term_at v.made w) strict

-- both gaps of them, neither of which is negative where they are equal
abbrev pub both_gaps : Simplex → ℕ → ℕ → List Gap
both_gaps v u w = gap_in v u w false ∷ gap_in v w u false ∷ []

-- ---- making unknowns

-- the term, or one that its form is made of
abbrev pub IsOfTerm : Term → Sense → Type 0
IsOfTerm t (term s) = (s ≡ t) ⊎ Contains (map (λ p. p.term) (form t).parts) s
IsOfTerm t (gap_of g) = ⊥

-- unknowns came into use, for which entries that may be made were added behind all others
pub record Makes (v w : Simplex) (May : Sense → Type 0) : Type 0 where
  pub entries : List Made
  pub made : w.made ≡ v.made ++ entries
  pub senses : List Sense
  pub means : senses_in w ≡ senses_in v ++ senses
  pub may : All May senses
  pub unknowns : List ℕ
  pub listed : w.unknowns ≡ v.unknowns ++ unknowns
  pub listed_may : All (λ u. May (sense_in w u)) unknowns
  pub bound : w.bound ≡ v.bound
  pub limit : w.limit ≡ v.limit

-- no other unknown for the term came into use
abbrev pub IsOnlyNew : Simplex → Simplex → Term → ℕ → Type 0
IsOnlyNew v w t u = (y : ℕ) → IsInUse w y (term t) → Contains v.unknowns y ⊎ (y ≡ u)

-- the term's form is looked at first, and nothing is maximised
abbrev pub UnknownEnds : Term → Result ℕ Stop → Type 0
UnknownEnds t (Ok u) = AllFit (steps t)
UnknownEnds t (Err (stop.Spill j)) = AllFit (steps t)
UnknownEnds t (Err (stop.Form s)) = (s ≡ t) × (¬ AllFit (steps t))
UnknownEnds t (Err (stop.Pivots j)) = ⊥
UnknownEnds t (Err stop.Memory) = Unit {0}

-- a row alone can stop it
abbrev pub GapEnds : Result ℕ Stop → Type 0
GapEnds (Err (stop.Pivots j)) = ⊥
GapEnds (Err (stop.Form t)) = ⊥
GapEnds _ = Unit {0}

-- ---- restricting

-- the restrictions allow what they did, where none of these gaps is negative
abbrev pub AllowsWith : Simplex → Simplex → List Gap → Type 0
AllowsWith v w gaps = (x : Assignment) → Allows w x ↔ (Allows v x × NoneNegative x gaps)

-- what is allowed did not change, or the first of two gaps must not be negative either
abbrev pub AllowsSome : Simplex → Simplex → List Gap → Type 0
AllowsSome v w gaps = (n : ℕ) × (n ≤ 1) × AllowsWith v w (take n gaps)

-- u is restricted, last where it was not before
abbrev pub IsRestrictedLast : Simplex → Simplex → ℕ → Type 0
IsRestrictedLast v w u = (Contains v.restricted u × (w.restricted ≡ v.restricted))
    ⊎ (w.restricted ≡ v.restricted ++ u ∷ [])

-- an unknown of the gap is restricted, last
abbrev pub GapIsRestricted : Simplex → Simplex → Gap → Type 0
GapIsRestricted v w g = (a : ℕ) × IsInUse w a (gap_of g)
    × (w.restricted ≡ v.restricted ++ a ∷ [])

-- it alone is, or nothing is
abbrev pub RestrictsOne : Simplex → Simplex → Gap → Type 0
RestrictsOne v w g = (w.restricted ≡ v.restricted) ⊎ GapIsRestricted v w g

-- the assignment is allowed, and u is at least 0
abbrev pub IsAbove : Simplex → ℕ → Assignment → Type 0
IsAbove v u x = Allows v x × (pos 0 ≤ℤ sense_value x (sense_in v u))

-- it was brought to 0 or above, as some allowed assignment has it, or none has it there
abbrev pub LiftShows : Simplex → Simplex → ℕ → Bool → Type 0
LiftShows v w u true = (zero_ℚ ≤ℚ sample w.tableau u) × ((x : Assignment) × IsAbove v u x)
LiftShows v w u false = (x : Assignment) → IsAbove v u x → ⊥

abbrev pub AtLeastZeroEnds : Simplex → Simplex → ℕ → Result State Stop → Type 0
AtLeastZeroEnds v w u (Ok Open) = IsRestrictedLast v w u × ((x : Assignment) × IsAbove v u x)
AtLeastZeroEnds v w u (Ok Closed) = (w.restricted ≡ v.restricted)
    × ((x : Assignment) → IsAbove v u x → ⊥)
AtLeastZeroEnds v w u (Err stop) = w.restricted ≡ v.restricted

-- the assignment is allowed, and gives both unknowns one value
abbrev pub IsEqualAt : Simplex → ℕ → ℕ → Assignment → Type 0
IsEqualAt v u w x = Allows v x × (sense_value x (sense_in v u) ≡ sense_value x (sense_in v w))

abbrev pub EqualEnds : Simplex → Simplex → ℕ → ℕ → Result State Stop → Type 0
EqualEnds v w u y (Ok Open) = AllowsWith v w (both_gaps v u y)
    × ((x : Assignment) × IsEqualAt v u y x)
EqualEnds v w u y (Ok Closed) = AllowsSome v w (both_gaps v u y)
    × ((x : Assignment) → IsEqualAt v u y x → ⊥)
EqualEnds v w u y (Err stop) = AllowsSome v w (both_gaps v u y)

-- both gaps are restricted, last and in their order, or at most the first
abbrev pub EqualRestricts : Simplex → Simplex → ℕ → ℕ → Result State Stop → Type 0
EqualRestricts v w u y (Ok Open) = (a : ℕ) × (b : ℕ)
    × IsInUse w a (gap_of (gap_in v u y false)) × IsInUse w b (gap_of (gap_in v y u false))
    × (w.restricted ≡ v.restricted ++ a ∷ b ∷ [])
EqualRestricts v w u y (Ok Closed) = RestrictsOne v w (gap_in v u y false)
EqualRestricts v w u y (Err stop) = RestrictsOne v w (gap_in v u y false)

-- some allowed assignment gives them different values, or none makes the first greater
abbrev pub ExceedShows : Simplex → ℕ → ℕ → Bool → Type 0
ExceedShows v u w true = (x : Assignment) × Allows v x
    × (sense_value x (sense_in v u) ≢ sense_value x (sense_in v w))
ExceedShows v u w false = (x : Assignment) → Allows v x
    → sense_value x (sense_in v u) ≤ℤ sense_value x (sense_in v w)

abbrev pub PartEnds : Simplex → ℕ → ℕ → Result Parted Stop → Type 0
PartEnds v u w (Ok Equal) = (x : Assignment) → Allows v x → sense_value x (sense_in v u)
    ≡ sense_value x (sense_in v w)
PartEnds v u w (Ok Different) = (x : Assignment) × Allows v x
    × (sense_value x (sense_in v u) ≢ sense_value x (sense_in v w))
PartEnds v u w (Err stop) = Unit {0}

-- the lists are as they were, and so is what each unknown in the rows stands for
pub record KeepsLists (v w : Simplex) : Type 0 where
  pub unknowns : w.unknowns ≡ v.unknowns
  pub bound : w.bound ≡ v.bound
  pub made : w.made ≡ v.made
  pub limit : w.limit ≡ v.limit

-- ---- values and rows

-- some allowed assignment gives each unknown in the rows its sample
abbrev pub SampleIsAllowed : Simplex → Type 0
SampleIsAllowed v = (x : Assignment) × Allows v x × ((u : ℕ) → u < length v.made
    → sample v.tableau u ≡ sense_fraction x (sense_in v u))

-- rows that can be put: of the first unknowns that were made, with all that are in use, and with
-- the view's restrictions
pub record AreRowsFor (v : Simplex) (rows : Rows) : Type 0 where
  pub kept : AreKeptRows (senses_of (take (size (tabled rows)) v.made)) (tabled rows)
  pub used : All (λ u. u < size (tabled rows)) v.unknowns
  pub restricted : (u : ℕ) → IsRestricted (tabled rows) u ↔ Contains v.restricted u
  pub among : All (λ u. u < size (tabled rows)) rows.restricted
