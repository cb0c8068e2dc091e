-- How clauses are gone through.
use Rattle.std.specs.Prelude.{◌≡◌, ℕ, Bool, true, false, not, ◌&&◌, List, [], ◌∷◌, map}
use Rattle.std.specs.Prelude.{slice_index_or, slice_set}
use Rattle.std.specs.List.{filter, list_any}
use Rattle.esc_clause.specs.ClauseContext.{Clause, ClauseContext, items_left, no_clause}
use Rattle.esc_clause.specs.Refinement.{is_no, is_satisfied, left_of, refined_among}
use Rattle.esc_clause.specs.declared.clauses.look.Look.{Look}
use Rattle.esc_clause.specs.declared.clauses.look.Look.TheVariants.{Satisfied, Failing, Waiting}
use Rattle.esc_clause.specs.declared.member.Member.{Member}
use Rattle.esc_clause.specs.declared.occurrence.Occurrence.{Occurrence}
use Rattle.esc_clause.specs.declared.truth.Refined.{Refined}
use Rattle.esc_clause.specs.declared.truth.Refined.TheVariants as refined_as
use Rattle.esc_clause.specs.declared.truth.Truth.{Truth}

-- ---- one clause

-- an item that is left fails
abbrev pub is_failing : (Occurrence → Truth) → Member → Bool
is_failing truth m = not m.gone && is_no (truth m.item)

-- an item is left and does not fail
abbrev pub stays : (Occurrence → Truth) → Member → Bool
stays truth m = not m.gone && not (is_no (truth m.item))

-- no item that is left holds, those that do not fail come to what is told, and whether some fail
pub record TellsOpen (truth : Occurrence → Truth) (c : Clause) (told : Refined) (failing : Bool)
    : Type 0 where
  pub unsatisfied : is_satisfied truth (items_left c) ≡ false
  pub comes : told ≡ refined_among (left_of truth (items_left c) ∷ [])
  pub fails : failing ≡ list_any (is_failing truth) c

-- what a look at a clause tells
abbrev pub LookTells : (Occurrence → Truth) → Clause → Look → Type 0
LookTells truth c (Satisfied place) = is_satisfied truth (items_left c) ≡ true
LookTells truth c (Failing told) = TellsOpen truth c told true
LookTells truth c (Waiting told) = TellsOpen truth c told false

-- what a clause comes to with one more item that does not fail
abbrev pub with_item : Refined → Occurrence → Refined
with_item refined_as.Empty item = refined_as.Unit item
with_item refined_as.Quiet item = refined_as.Quiet
with_item (refined_as.Unit other) item = refined_as.Quiet

abbrev pub clause_at : ClauseContext → ℕ → Clause
clause_at v at = slice_index_or v.clauses at no_clause

abbrev pub with_clause : ClauseContext → ℕ → Clause → ClauseContext
with_clause v at c = record v { clauses = slice_set v.clauses at c }

-- ---- all clauses

-- what is left of the clauses that are not satisfied
abbrev pub waiting_of : (Occurrence → Truth) → List Clause → List (List Occurrence)
waiting_of truth cs =
    map (λ c. left_of truth (items_left c))
    (filter (λ c. not (is_satisfied truth (items_left c))) cs)

-- what clauses come to with others behind them
abbrev pub joined : Refined → Refined → Refined
joined refined_as.Empty there = refined_as.Empty
joined refined_as.Quiet there = there
joined (refined_as.Unit item) refined_as.Empty = refined_as.Empty
joined (refined_as.Unit item) refined_as.Quiet = refined_as.Unit item
joined (refined_as.Unit item) (refined_as.Unit other) = refined_as.Unit item
