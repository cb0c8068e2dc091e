-- Linear equations in solved form with restrictions: their solutions, and the sample.
use Rattle.std.specs.Prelude.{◌≡◌, ◌↔◌, ℕ, ◌+◌, ◌<◌, Bool, false, ◌&&◌, ◌==◌, List, [], map, length, set, get_or, if◌then◌else◌, nat_lt}
use Rattle.std.specs.List.{count_by, position_or_len}
use Rattle.std.proofs.Common.{refl}
use Rattle.std.specs.Coded.{Coded, code_by, coded×, coded_ℕ, coded_bool, coded_list}
use Rattle.esc_frac.specs.RationalLaws.{coded_ℚ}
use Rattle.esc_frac.specs.Rational.{ℚ, zero_ℚ, ◌≤ℚ◌}
use Rattle.esc_rows.specs.Rows.{Point, RowHolds, solved, solved_constant, eliminated, eliminated_constants}
use Rattle.esc_tableau.specs.declared.owner.Owner.{Owner}

-- An unknown is its number. Each row's owner is the sum of its entries times the columns' unknowns,
-- and of its constant.
pub record Table : Type 0 where
  pub owners : List Owner
  pub columns : List Owner
  pub entries : List (List ℚ)
  pub constants : List ℚ

abbrev pub nobody : Owner
nobody = record { unknown = 0; restricted = false }

abbrev pub unknowns : List Owner → List ℕ
unknowns os = map (λ o. o.unknown) os

-- how many unknowns there are
abbrev pub size : Table → ℕ
size t = length t.owners + length t.columns

-- ---- the parts by their places

abbrev pub owner : Table → ℕ → ℕ
owner t r = (get_or t.owners r nobody).unknown

abbrev pub column : Table → ℕ → ℕ
column t c = (get_or t.columns c nobody).unknown

abbrev pub row_entries : Table → ℕ → List ℚ
row_entries t r = get_or t.entries r []

abbrev pub row_constant : Table → ℕ → ℚ
row_constant t r = get_or t.constants r zero_ℚ

abbrev pub entry : Table → ℕ → ℕ → ℚ
entry t r c = get_or (row_entries t r) c zero_ℚ

-- ---- where an unknown stands

abbrev pub holds : ℕ → Owner → Bool
holds u o = o.unknown == u

-- the first place that holds the unknown, and the list's length where none does
abbrev pub place_of : List Owner → ℕ → ℕ
place_of os u = position_or_len (holds u) os

abbrev pub row_of : Table → ℕ → ℕ
row_of t u = place_of t.owners u

abbrev pub column_of : Table → ℕ → ℕ
column_of t u = place_of t.columns u

abbrev pub OwnsRow : Table → ℕ → Type 0
OwnsRow t u = row_of t u < length t.owners

abbrev pub OwnsColumn : Table → ℕ → Type 0
OwnsColumn t u = column_of t u < length t.columns

-- ---- solutions, restrictions and the sample

-- each row holds
abbrev pub IsSolution : Table → Point → Type 0
IsSolution t v = (r : ℕ) → r < length t.owners → RowHolds v (unknowns t.columns) (owner t r)
    (row_entries t r) (row_constant t r)

abbrev pub is_marked : ℕ → Owner → Bool
is_marked u o = holds u o && o.restricted

-- the unknown is to be at least 0
abbrev pub IsRestricted : Table → ℕ → Type 0
IsRestricted t u = 0 < count_by (is_marked u) t.owners + count_by (is_marked u) t.columns

-- no restricted unknown is negative
abbrev pub IsWithin : Table → Point → Type 0
IsWithin t v = (u : ℕ) → IsRestricted t u → zero_ℚ ≤ℚ v u

-- each row's owner is the row's constant, and each unknown that owns a column is 0
abbrev pub sample : Table → Point
sample t u = row_constant t (row_of t u)

-- ---- what holds of each tableau

-- the unknowns are the numbers from 0 on, and each owns one row or one column
abbrev pub StandEachOnce : Table → Type 0
StandEachOnce t = (u : ℕ) → count_by (holds u) t.owners + count_by (holds u) t.columns
    ≡ (if nat_lt u (size t) then 1 else 0)

-- as many entries and constants as there are rows, and an entry for each column
pub record IsTable (t : Table) : Type 0 where
  pub rows : length t.entries ≡ length t.owners
  pub constants : length t.constants ≡ length t.owners
  pub width : (r : ℕ) → r < length t.owners → length (row_entries t r) ≡ length t.columns
  pub numbered : StandEachOnce t

-- the same unknowns, with the same solutions and the same restrictions
pub record SameSystem (old new : Table) : Type 0 where
  pub solutions : (v : Point) → IsSolution old v ↔ IsSolution new v
  pub restrictions : (u : ℕ) → IsRestricted old u ↔ IsRestricted new u
  pub size : size new ≡ size old

-- ---- a pivot at row r and column c

abbrev pub pivoted : Table → ℕ → ℕ → Table
pivoted t r c =
    let row = solved (row_entries t r) c in
    let constant = solved_constant (row_entries t r) c (row_constant t r) in
    record {
      owners = set t.owners r (get_or t.columns c nobody);
      columns = set t.columns c (get_or t.owners r nobody);
      entries = set (map (λ es. eliminated es c row) t.entries) r row;
      constants = set (eliminated_constants t.entries t.constants c constant) r constant;
    }

-- ---- how a table is stored

abbrev pub table : List Owner → List Owner → List (List ℚ) → List ℚ → Table
table os cs ess ks = record { owners = os; columns = cs; entries = ess; constants = ks }

abbrev pub coded_owner : Coded Owner
coded_owner = code_by (ℕ × Bool) (coded× coded_ℕ coded_bool) (λ o. (o.unknown, o.restricted))
    (λ p. record { unknown = p.0; restricted = p.1 }) (λ _. refl)

-- as the lists that it is made of
abbrev pub coded_table : Coded Table
coded_table =
    code_by (List Owner × (List Owner × (List (List ℚ) × List ℚ)))
    (coded× (coded_list coded_owner) (coded× (coded_list coded_owner)
    (coded× (coded_list (coded_list coded_ℚ)) (coded_list coded_ℚ))))
    (λ t. (t.owners, (t.columns, (t.entries, t.constants))))
    (λ p. table p.0 p.1.0 p.1.1.0 p.1.1.1)
    (λ _. refl)
