-- How restrictions take records back: lists lose their newest entry, and the rows stay.
use Rattle.std.specs.Prelude.{◌≡◌, ℕ, ◌-◌, ◌<◌, false, List, map, length, take, slice_index, nat_lt, if◌then◌else◌}
use Rattle.std.specs.List.{All, Contains}
use Rattle.esc_rows.specs.Rows.{Point}
use Rattle.esc_tableau.specs.Changes.{with_mark}
use Rattle.esc_tableau.specs.Table.{Table, IsSolution, size}
use Rattle.esc_trail.specs.Undo.{Undo}
use Rattle.esc_simplex.specs.View.{numbers_in, restrictions_in, sense_in}
use Rattle.esc_simplex.specs.declared.record.SimplexRec.{SimplexRec}
use Rattle.esc_simplex.specs.declared.record.SimplexRec.TheVariants.{Listed, Bound, Restricted}
use Rattle.esc_simplex.specs.declared.simplex.Simplex.{Simplex}

abbrev pub newest : List ℕ → ℕ
newest us = slice_index us (length us - 1)

-- without the unknown's restriction, where it is in the rows
abbrev pub freed : Table → ℕ → Table
freed t u = if nat_lt u (size t) then with_mark t u false else t

-- the newest unknown stays in the rows, free, and the newest restriction is taken from the rows too
abbrev pub simplex_back : Simplex → SimplexRec → Simplex
simplex_back v Listed = record v { unknowns = take (length v.unknowns - 1) v.unknowns }
simplex_back v Bound = record v { bound = take (length v.bound - 1) v.bound }
simplex_back v Restricted = record v {
  restricted = take (length v.restricted - 1) v.restricted;
  tableau = freed v.tableau (newest v.restricted);
}

-- there is such an entry, and no other list needs it
abbrev pub CanGoBack : Simplex → SimplexRec → Type 0
CanGoBack v Listed = (0 < length v.unknowns) × (Contains v.restricted (newest v.unknowns) → ⊥)
    × (Contains (map (λ pair. pair.1) v.bound) (newest v.unknowns) → ⊥)
CanGoBack v Bound = 0 < length v.bound
CanGoBack v Restricted = 0 < length v.restricted

-- ---- views that agree in all that is restored

-- each solution of one table agrees with a solution of the other on these unknowns
abbrev pub IsWithinOn : List ℕ → Table → Table → Type 0
IsWithinOn us t s = (p : Point) → IsSolution t p → (q : Point) × IsSolution s q
    × All (λ u. q u ≡ p u) us

pub record HaveSameRows (us : List ℕ) (t s : Table) : Type 0 where
  pub forth : IsWithinOn us t s
  pub back : IsWithinOn us s t

-- the same unknowns in use that stand for the same, are bound and restricted alike, and have the
-- same values
pub record AreSame (v w : Simplex) : Type 0 where
  pub unknowns : v.unknowns ≡ w.unknowns
  pub senses : map (sense_in v) v.unknowns ≡ map (sense_in w) w.unknowns
  pub bound : v.bound ≡ w.bound
  pub numbers : numbers_in v ≡ numbers_in w
  pub restricted : v.restricted ≡ w.restricted
  pub restrictions : restrictions_in v ≡ restrictions_in w
  pub limit : v.limit ≡ w.limit
  pub rows : HaveSameRows v.unknowns v.tableau w.tableau

abbrev pub simplex_undo : Undo Simplex SimplexRec
simplex_undo = record { back = simplex_back; can = CanGoBack; same = AreSame }
