-- What it means that a formula was expanded on a branch.
use Rattle.std.specs.Prelude.{◌≡◌, Bool, List}
use Rattle.std.specs.List.{Contains, filter}
use Rattle.esc_term.specs.declared.term.Term.{Term}
use Rattle.esc_term.specs.declared.formula.Formula.{Formula}
use Rattle.esc_term.specs.declared.formula.Item.{Item}
use Rattle.esc_clause.specs.Expansion.{AllOf, OneOfEach, expanded}
use Rattle.esc_clause.specs.Laws.{IsCovered, IsSo}
use Rattle.esc_clause.specs.declared.occurrence.Occurrence.{Occurrence}

-- of the clause some items are left, in order, and stand among the clauses
pub record IsKept (clauses : List (List Occurrence)) (clause : List Occurrence) : Type 0 where
  pub test : Occurrence → Bool
  pub left : Contains clauses (filter test clause)

-- the signed formula is covered, or what it expands to was expanded or stands as clauses
pub data IsExpanded (fs : List Formula) (literals : List Item) (classes : List (List Term))
    (clauses : List (List Occurrence)) : Occurrence → Type 0 where
  covered : (at : Occurrence) → IsSo (IsCovered literals classes) fs at
      → IsExpanded fs literals classes clauses at
  parts : (at : Occurrence) (ps : List Occurrence) → expanded fs at ≡ AllOf ps
      → ((p : Occurrence) → Contains ps p → IsExpanded fs literals classes clauses p)
      → IsExpanded fs literals classes clauses at
  split : (at : Occurrence) (cs : List (List Occurrence)) → expanded fs at ≡ OneOfEach cs
      → ((c : List Occurrence) → Contains cs c → IsKept clauses c)
      → IsExpanded fs literals classes clauses at
