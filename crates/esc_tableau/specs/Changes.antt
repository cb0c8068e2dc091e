-- What the calls that make, drop and mark unknowns leave.
use Rattle.std.specs.Prelude.{◌≡◌, ◌≢◌, ◌↔◌, ◌⊎◌, ℕ, ◌+◌, ◌<◌, ◌≤◌, Bool, false, List, [], ◌∷◌, ◌++◌, map, length, set, get_or, remove, replicate, Result, Ok, Err, if◌then◌else◌, nat_lt}
use Rattle.esc_frac.specs.Fits.{SumFits}
use Rattle.esc_frac.specs.Rational.{ℚ, zero_ℚ, ◌+ℚ◌, ◌*ℚ◌}
use Rattle.esc_rows.specs.Rows.{Point, plus_multiple}
use Rattle.esc_rows.specs.Steps.{MultipleFits, StepFits}
use Rattle.esc_tableau.specs.Table.{Table, IsSolution, IsRestricted, IsWithin, sample, size, row_entries, row_constant, row_of, column_of, OwnsRow, OwnsColumn}
use Rattle.esc_tableau.specs.declared.owner.Owner.{Owner}
use Rattle.esc_tableau.specs.declared.answers.RowStop.{RowStop}
use Rattle.esc_tableau.specs.declared.answers.RowStop.TheVariants.{Spill, Memory}
use Rattle.esc_tableau.specs.declared.changing.Draft.{Draft}
use Rattle.esc_tableau.specs.declared.changing.Part.{Part}

-- an unknown that is free
abbrev pub free_owner : ℕ → Owner
free_owner u = record { unknown = u; restricted = false }

-- the next unknown owns a column, in which each row has 0
abbrev pub with_column : Table → Table
with_column t = record {
  owners = t.owners;
  columns = t.columns ++ free_owner (size t) ∷ [];
  entries = map (λ es. es ++ zero_ℚ ∷ []) t.entries;
  constants = t.constants;
}

-- ---- a row that is summed from parts

pub record Sum : Type 0 where
  pub entries : List ℚ
  pub constant : ℚ

abbrev pub sum : List ℚ → ℚ → Sum
sum es k = record { entries = es; constant = k }

-- the multiple of a row: of each entry and of the constant
abbrev pub plus_owner : Table → Sum → ℚ → ℕ → Sum
plus_owner t s f r = sum (plus_multiple f s.entries (row_entries t r)) (s.constant
    +ℚ f *ℚ row_constant t r)

-- a part adds its fraction where its unknown owns a column, and the multiple of its row where it
-- owns a row
abbrev pub plus_part : Table → Sum → Part → Sum
plus_part t s p =
    let c = column_of t p.unknown in
    if nat_lt c (length t.columns)
    then sum (set s.entries c (get_or s.entries c zero_ℚ +ℚ p.factor)) s.constant
    else plus_owner t s p.factor (row_of t p.unknown)

abbrev pub plus_parts : Table → Sum → List Part → Sum
plus_parts t s [] = s
plus_parts t s (p ∷ ps) = plus_parts t (plus_part t s p) ps

-- the steps of a multiple of a row
pub record OwnerFits (t : Table) (s : Sum) (f : ℚ) (r : ℕ) : Type 0 where
  pub entries : MultipleFits f s.entries (row_entries t r)
  pub constant : StepFits f s.constant (row_constant t r)

-- those of a part
pub record PartFits (t : Table) (s : Sum) (p : Part) : Type 0 where
  pub column : OwnsColumn t p.unknown → SumFits (get_or s.entries (column_of t p.unknown) zero_ℚ)
      p.factor
  pub owner : length t.columns ≤ column_of t p.unknown → OwnerFits t s p.factor (row_of t p.unknown)

-- and those of all parts, in their order
abbrev pub PartsFit : Table → Sum → List Part → Type 0
PartsFit t s [] = Unit
PartsFit t s (p ∷ ps) = PartFits t s p × PartsFit t (plus_part t s p) ps

-- before the parts there is the constant alone
abbrev pub start_sum : Table → ℚ → Sum
start_sum t k = sum (replicate (length t.columns) zero_ℚ) k

-- the next unknown owns this row
abbrev pub with_row : Table → Sum → Table
with_row t s = record {
  owners = t.owners ++ free_owner (size t) ∷ [];
  columns = t.columns;
  entries = t.entries ++ s.entries ∷ [];
  constants = t.constants ++ s.constant ∷ [];
}

-- how a sum and the call that adds its row end
abbrev pub SumEnds : Table → List Part → ℚ → Result Draft RowStop → Type 0
SumEnds t ps k (Ok d) = PartsFit t (start_sum t k) ps
    × (sum d.entries.items d.constant ≡ plus_parts t (start_sum t k) ps)
SumEnds t ps k (Err Spill) = ¬ PartsFit t (start_sum t k) ps
SumEnds t ps k (Err Memory) = Unit

abbrev pub RowEnds : Table → Table → List Part → ℚ → Result ℕ RowStop → Type 0
RowEnds old new ps k (Ok u) = (u ≡ size old) × PartsFit old (start_sum old k) ps
    × (new ≡ with_row old (plus_parts old (start_sum old k) ps))
RowEnds old new ps k (Err Spill) = (new ≡ old) × (¬ PartsFit old (start_sum old k) ps)
RowEnds old new ps k (Err Memory) = new ≡ old

-- what the parts say
abbrev pub parts_value : Point → List Part → ℚ
parts_value v [] = zero_ℚ
parts_value v (p ∷ ps) = p.factor *ℚ v p.unknown +ℚ parts_value v ps

-- a row was added: at each solution its owner is the sum of the parts and the constant, and nothing
-- else changed
pub record AddsRow (old new : Table) (ps : List Part) (k : ℚ) : Type 0 where
  pub solutions : (v : Point) → IsSolution new v ↔ (IsSolution old v
      × (v (size old) ≡ parts_value v ps +ℚ k))
  pub restrictions : (u : ℕ) → IsRestricted old u ↔ IsRestricted new u
  pub within : IsWithin old (sample old) → IsWithin new (sample new)
  pub owner : OwnsRow new (size old)
  pub size : size new ≡ size old + 1

-- a column was added: its unknown may have any value, and nothing else changed
pub record AddsColumn (old new : Table) : Type 0 where
  pub solutions : (v : Point) → IsSolution old v ↔ IsSolution new v
  pub restrictions : (u : ℕ) → IsRestricted old u ↔ IsRestricted new u
  pub within : IsWithin old (sample old) → IsWithin new (sample new)
  pub size : size new ≡ size old + 1

-- ---- dropping and marking

abbrev pub without_row : Table → ℕ → Table
without_row t r = record {
  owners = remove t.owners r;
  columns = t.columns;
  entries = remove t.entries r;
  constants = remove t.constants r;
}

-- the newest unknown was dropped with its row: each solution that is left comes from one before,
-- and the other unknowns keep their restrictions and samples
pub record DropsRow (old new : Table) : Type 0 where
  pub fewer : size old ≡ size new + 1
  pub solutions : (v : Point) → IsSolution old v → IsSolution new v
  pub extends : (v : Point) → IsSolution new v → (w : Point) × IsSolution old w
      × ((u : ℕ) → u < size new → w u ≡ v u)
  pub restrictions : (u : ℕ) → u < size new → IsRestricted old u ↔ IsRestricted new u
  pub values : (u : ℕ) → u < size new → sample new u ≡ sample old u
  pub within : IsWithin old (sample old) → IsWithin new (sample new)

-- u was restricted, and nothing else changed
pub record Restricts (old new : Table) (u : ℕ) : Type 0 where
  pub solutions : (v : Point) → IsSolution old v ↔ IsSolution new v
  pub restrictions : (w : ℕ) → IsRestricted new w ↔ (IsRestricted old w ⊎ (w ≡ u))
  pub within : IsWithin old (sample old) → IsWithin new (sample new)
  pub size : size new ≡ size old

-- u was freed, and nothing else changed
pub record Frees (old new : Table) (u : ℕ) : Type 0 where
  pub solutions : (v : Point) → IsSolution old v ↔ IsSolution new v
  pub restrictions : (w : ℕ) → IsRestricted new w ↔ (IsRestricted old w × (w ≢ u))
  pub within : IsWithin old (sample old) → IsWithin new (sample new)
  pub size : size new ≡ size old

abbrev pub marked : List Owner → ℕ → Bool → ℕ → List Owner
marked os u b i = set os i (record { unknown = u; restricted = b })

-- u is restricted where b says so, and the others as before
abbrev pub with_mark : Table → ℕ → Bool → Table
with_mark t u b = record {
  owners = marked t.owners u b (row_of t u);
  columns = marked t.columns u b (column_of t u);
  entries = t.entries;
  constants = t.constants;
}
