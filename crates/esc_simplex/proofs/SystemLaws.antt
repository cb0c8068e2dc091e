-- Systems the other way round.
use Rattle.std.proofs.Common.{sym}
use Rattle.esc_tableau.specs.Table.{Table, IsTable, IsWithin, SameSystem, sample}
use Rattle.esc_simplex.specs.Steps.{KeepsSystem}

pub SameSystem_sym : (t s : Table) → SameSystem t s → SameSystem s t
SameSystem_sym t s h = record {
  solutions = λ v. ((h.solutions v).1, (h.solutions v).0);
  restrictions = λ u. ((h.restrictions u).1, (h.restrictions u).0);
  size = sym h.size;
}

-- back to a table from which one came
pub keeps_back : (t s : Table) → IsTable t → IsWithin t (sample t) → SameSystem t s
    → KeepsSystem s t
keeps_back t s ok within h = record { table = ok; same = SameSystem_sym t s h; within = within }
