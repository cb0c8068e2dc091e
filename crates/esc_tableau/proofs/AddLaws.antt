-- What the calls that add an unknown say, by their answers.
use Rattle.std.proofs.Common.{◌≡◌, ℕ, ◌<◌, List, Result, Ok, Err, sym, subst}
use Rattle.std.specs.List.{All}
use Rattle.std.specs.Result.{OnOk}
use Rattle.std.specs.declared.alloc.AllocError.{AllocError}
use Rattle.esc_frac.specs.Rational.{ℚ}
use Rattle.esc_tableau.specs.Changes.{RowEnds, AddsRow, AddsColumn, with_column}
use Rattle.esc_tableau.specs.Table.{Table, IsTable, size}
use Rattle.esc_tableau.specs.declared.answers.RowStop.{RowStop}
use Rattle.esc_tableau.specs.declared.changing.Part.{Part}
use Rattle.esc_tableau.proofs.WithinLaws.{AddsRow-with_row, AddsColumn-with_column}

pub column_ends_adds : (old new seen : Table) (r : Result ℕ AllocError) → IsTable old → old ≡ seen
    → OnOk r (new ≡ with_column old) → OnOk r (AddsColumn seen new)
column_ends_adds old new seen (Ok u) ok same h = subst (λ (t : Table). AddsColumn t new) same
    (subst (AddsColumn old) (sym h) (AddsColumn-with_column old ok))
column_ends_adds old new seen (Err e) ok same h = tt

pub row_ends_adds : (old new seen : Table) (ps : List Part) (k : ℚ) (r : Result ℕ RowStop)
    → IsTable old → All (λ p. p.unknown < size old) ps → old ≡ seen → RowEnds old new ps k r
    → OnOk r (AddsRow seen new ps k)
row_ends_adds old new seen ps k (Ok u) ok below same h = subst (λ (t : Table). AddsRow t new ps k)
    same (subst (λ (t : Table). AddsRow old t ps k) (sym h.2) (AddsRow-with_row old ok ps k below))
row_ends_adds old new seen ps k (Err e) ok below same h = tt
