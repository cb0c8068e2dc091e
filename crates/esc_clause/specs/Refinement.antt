-- What clauses come to, by the decisions and by what a judge says of the items that were not
-- decided.
use Rattle.std.specs.Prelude.{◌≡◌, ◌==◌, ℕ, Bool, true, false, not, ◌&&◌, if◌then◌else◌, List, []}
use Rattle.std.specs.Prelude.{◌∷◌, ◌++◌, ◌||◌, drop, map, take, Option, Some, None}
use Rattle.std.specs.List.{filter, filter_map, list_any}
use Rattle.esc_clause.specs.ClauseContext.{Clause, ClauseContext, items_left}
use Rattle.esc_clause.specs.declared.decision.Decision.{Decision}
use Rattle.esc_clause.specs.declared.member.Member.{Member}
use Rattle.esc_clause.specs.declared.occurrence.Occurrence.{Occurrence}
use Rattle.esc_clause.specs.declared.truth.Refined.{Refined}
use Rattle.esc_clause.specs.declared.truth.Refined.TheVariants as refined_as
use Rattle.esc_clause.specs.declared.truth.Truth.{Truth}
use Rattle.esc_clause.specs.declared.truth.Truth.TheVariants.{Yes, No, Open}

-- ---- one item

-- both are one occurrence, with whatever signs
abbrev pub is_same_place : Occurrence → Occurrence → Bool
is_same_place a b = (a.fact == b.fact) && (a.place == b.place)

abbrev pub are_alike : Bool → Bool → Bool
are_alike a b = if a then b else not b

abbrev pub truth_of : Bool → Truth
truth_of b = if b then Yes else No

-- whether an item has its sign by a decision on its occurrence
abbrev pub by_decision : Decision → Occurrence → Truth
by_decision decision item =
    truth_of (are_alike decision.holds (are_alike decision.at.positive item.positive))

-- what the first decision on its occurrence says of the item, and the judge where there is none
abbrev pub judged_by : (Occurrence → Truth) → List Decision → Occurrence → Truth
judged_by judge [] item = judge item
judged_by judge (d ∷ ds) item =
    if is_same_place d.at item then by_decision d item else judged_by judge ds item

abbrev pub is_yes : Truth → Bool
is_yes Yes = true
is_yes No = false
is_yes Open = false

abbrev pub is_no : Truth → Bool
is_no No = true
is_no Yes = false
is_no Open = false

-- ---- one clause

-- some item holds
abbrev pub is_satisfied : (Occurrence → Truth) → List Occurrence → Bool
is_satisfied truth = list_any (λ item. is_yes (truth item))

-- the items that do not fail
abbrev pub left_of : (Occurrence → Truth) → List Occurrence → List Occurrence
left_of truth = filter (λ item. not (is_no (truth item)))

-- ---- all clauses

-- the clauses that are not satisfied
abbrev pub open_in : (Occurrence → Truth) → ClauseContext → List Clause
open_in judge v =
    filter (λ c. not (is_satisfied (judged_by judge v.decisions) (items_left c))) v.clauses

-- what is left of them
abbrev pub waiting_in : (Occurrence → Truth) → ClauseContext → List (List Occurrence)
waiting_in judge v =
    map (λ c. left_of (judged_by judge v.decisions) (items_left c)) (open_in judge v)

abbrev pub is_empty : List Occurrence → Bool
is_empty [] = true
is_empty (item ∷ items) = false

abbrev pub single : List Occurrence → Option Occurrence
single [] = None
single (item ∷ []) = Some item
single (item ∷ other ∷ items) = None

abbrev pub first : List Occurrence → Option Occurrence
first [] = None
first (item ∷ items) = Some item

abbrev pub unit_among : List Occurrence → Refined
unit_among [] = refined_as.Quiet
unit_among (item ∷ items) = refined_as.Unit item

-- a clause has nothing left; or else the first that has a single item left tells it
abbrev pub refined_among : List (List Occurrence) → Refined
refined_among waiting =
    if list_any is_empty waiting then refined_as.Empty else unit_among (filter_map single waiting)

abbrev pub refined : (Occurrence → Truth) → ClauseContext → Refined
refined judge v = refined_among (waiting_in judge v)

-- the first item that is left of the first clause
abbrev pub split_among : List (List Occurrence) → Option Occurrence
split_among [] = None
split_among (clause ∷ clauses) = first clause

-- where to split: where each clause that is not satisfied has an item left, nowhere exactly where
-- all are satisfied
abbrev pub next_split : (Occurrence → Truth) → ClauseContext → Option Occurrence
next_split judge v = split_among (waiting_in judge v)

-- the item has gone too where it fails
abbrev pub thinned_member : (Occurrence → Truth) → Member → Member
thinned_member truth m = record { item = m.item; gone = m.gone || is_no (truth m.item) }

-- the clause without the items that fail
abbrev pub thinned : (Occurrence → Truth) → Clause → Clause
thinned truth = map (thinned_member truth)

-- the clause as it is where an item of it holds, and else without the items that fail
abbrev pub lightened : (Occurrence → Truth) → Clause → Clause
lightened truth c = if is_satisfied truth (items_left c) then c else thinned truth c

-- each item that is left fails
abbrev pub is_failed : (Occurrence → Truth) → Clause → Bool
is_failed truth c = is_empty (left_of truth (items_left c))

-- each clause lightened, from the front up to the first that has failed, and the others as they are
abbrev pub lightened_among : (Occurrence → Truth) → List Clause → List Clause
lightened_among truth [] = []
lightened_among truth (c ∷ cs) =
    lightened truth c ∷ (if is_failed truth c then cs else lightened_among truth cs)

-- what stands once the clauses were gone through, as far as the first that has failed
abbrev pub lighter : (Occurrence → Truth) → ClauseContext → ClauseContext
lighter judge v = record v { clauses = lightened_among (judged_by judge v.decisions) v.clauses }

-- some clauses were gone through, from the front on
pub record IsLighter (judge : Occurrence → Truth) (old new : ClauseContext) : Type 0 where
  pub count : ℕ
  pub lighter : new ≡ record old {
    clauses =
        map (lightened (judged_by judge old.decisions)) (take count old.clauses)
        ++ drop count old.clauses;
  }
