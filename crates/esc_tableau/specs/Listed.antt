-- Rows of unknowns, fractions and restrictions as a table.
use Rattle.std.specs.Prelude.{ℕ, Bool, ◌==◌, List, map, length, nat_lt}
use Rattle.std.specs.List.{filter, position_or_len}
use Rattle.esc_tableau.specs.Table.{Table, unknowns}
use Rattle.esc_tableau.specs.declared.owner.Owner.{Owner}
use Rattle.esc_tableau.specs.declared.listed.Rows.{Rows}

-- the unknown is in the list
abbrev pub is_listed : List ℕ → ℕ → Bool
is_listed us u = nat_lt (position_or_len (λ w. w == u) us) (length us)

-- the unknown, restricted where the list has it
abbrev pub owner_with : List ℕ → ℕ → Owner
owner_with restricted u = record { unknown = u; restricted = is_listed restricted u }

-- the unknowns that are restricted
abbrev pub restricted_in : List Owner → List ℕ
restricted_in os = unknowns (filter (λ o. o.restricted) os)

abbrev pub tabled : Rows → Table
tabled rows = record {
  owners = map (owner_with rows.restricted) rows.owners;
  columns = map (owner_with rows.restricted) rows.columns;
  entries = rows.entries;
  constants = rows.constants;
}
