-- What contracts see of clauses.
use Rattle.std.specs.Prelude.{false, not, List, [], map}
use Rattle.std.specs.List.{filter}
use Rattle.esc_clause.specs.declared.decision.Decision.{Decision}
use Rattle.esc_clause.specs.declared.member.Member.{Member}
use Rattle.esc_clause.specs.declared.occurrence.Occurrence.{Occurrence}

-- a clause: its items in order, each with whether it has gone
abbrev pub Clause : Type 0
Clause = List Member

abbrev pub new_member : Occurrence → Member
new_member item = record { item = item; gone = false }

-- a clause of which no item has gone
abbrev pub new_clause : List Occurrence → Clause
new_clause = map new_member

abbrev pub no_clause : Clause
no_clause = []

-- the items that are left of a clause, in order
abbrev pub items_left : Clause → List Occurrence
items_left c = map (λ m. m.item) (filter (λ m. not m.gone) c)

-- the clauses and the decisions, each in order
pub record ClauseContext : Type 0 where
  pub clauses : List Clause
  pub decisions : List Decision

-- what is left of each clause
abbrev pub left_in : ClauseContext → List (List Occurrence)
left_in v = map items_left v.clauses
