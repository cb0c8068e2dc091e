-- A copy of the rows can be put again.
use Rattle.std.proofs.Common.{◌≡◌, ℕ, ◌<◌, List, length, take, get_or, Result, Ok, Err, IfOk, sym, subst, arith}
use Rattle.std.specs.Prelude.{◌↔◌}
use Rattle.std.specs.List.{All, Contains}
use Rattle.std.proofs.lemmas.List.{length-map, take_all}
use Rattle.esc_tableau.specs.Listed.{tabled}
use Rattle.esc_tableau.specs.Table.{IsRestricted, Table, size}
use Rattle.esc_tableau.specs.declared.listed.Rows.{Rows}
use Rattle.esc_simplex.specs.Barred.{AreKeptRows}
use Rattle.esc_simplex.specs.Calls.{AreRowsFor}
use Rattle.esc_simplex.specs.Senses.{sense_of, senses_of}
use Rattle.esc_simplex.specs.View.{IsSimplex}
use Rattle.esc_simplex.specs.declared.made.Made.{Made}
use Rattle.esc_simplex.specs.declared.simplex.Simplex.{Simplex}

pub made_fill : (v : Simplex) → IsSimplex v → size v.tableau ≡ length v.made
unfolding senses_of
made_fill v h = omega (arith, h.rows.size, length-map v.made (sense_of v.made))

pub rows_fit : (v : Simplex) → IsSimplex v → (rows : Rows) → tabled rows ≡ v.tableau
    → All (λ u. u < size (tabled rows)) rows.restricted → AreRowsFor v rows
rows_fit v h rows same among = record {
  kept = subst (λ (t : Table). AreKeptRows (senses_of (take (size t) v.made)) t) (sym same)
      (subst (λ (ms : List Made). AreKeptRows (senses_of ms) v.tableau)
      (sym (all v.made (size v.tableau) (made_fill v h)))
      (record { table = h.table; rows = h.rows; within = h.within }));
  used = λ k d inside. subst (λ (t : Table). get_or v.unknowns k d < size t) (sym same)
      (omega (arith, made_fill v h, h.listed k d inside));
  restricted = λ u. subst (λ (t : Table). IsRestricted t u ↔ Contains v.restricted u) (sym same)
      (h.marked u);
  among = among;
}
  where
    all : (ms : List Made) (n : ℕ) → n ≡ length ms → take n ms ≡ ms
    all ms n e = take_all n ms (omega (arith, e))

pub copy_fits : {E : Type 0} (v : Simplex) → IsSimplex v → (r : Result Rows E)
    → IfOk r (λ rows. tabled rows ≡ v.tableau) → IfOk r
    (λ rows. All (λ u. u < size (tabled rows)) rows.restricted) → IfOk r (AreRowsFor v)
copy_fits v h (Ok rows) same among = rows_fit v h rows same among
copy_fits v h (Err e) same among = tt
