-- A table keeps its own system, and systems are kept step by step.
use Rattle.std.proofs.Common.{◌≡◌, sym, subst}
use Rattle.esc_tableau.specs.Table.{Table, IsTable, IsWithin, sample}
use Rattle.esc_tableau.proofs.PivotLaws.{SameSystem_refl, SameSystem_trans}
use Rattle.esc_simplex.specs.Steps.{KeepsSystem}

pub keeps_itself : (t new : Table) → new ≡ t → IsTable t → IsWithin t (sample t) → KeepsSystem t new
keeps_itself t new e ok within = subst (KeepsSystem t) (sym e)
    (record { table = ok; same = SameSystem_refl t; within = within })

pub keeps_both : (t s r : Table) → KeepsSystem t s → KeepsSystem s r → KeepsSystem t r
keeps_both t s r h k = record {
  table = k.table;
  same = SameSystem_trans t s r h.same k.same;
  within
      = k.within;
}
