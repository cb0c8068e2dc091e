-- The triggers of a quantified formula, each a list of terms.
use Rattle.std.specs.Prelude.{ℕ, Bool, not, ◌&&◌, nat_lt, if◌then◌else◌, List, [], ◌∷◌, ◌++◌, map}
use Rattle.std.specs.List.{filter, flat_map, fold, list_any}
use Rattle.esc_term.specs.declared.term.Term.{Term}
use Rattle.esc_term.specs.declared.formula.Quant.{Quant}
use Rattle.esc_term.specs.Equal.{same_term}
use Rattle.esc_term.specs.Term.{subterms}
use Rattle.esc_cover.specs.Classes.{has}
use Rattle.esc_trigger.specs.Candidates.{candidates}
use Rattle.esc_trigger.specs.Patterns.{used_patterns}
use Rattle.esc_trigger.specs.Variables.{has_number, holds_all, variables_of}

-- the first of these if there is one, else the others
abbrev pub or_else : List (List Term) → List (List Term) → List (List Term)
or_else [] others = others
or_else (x ∷ xs) others = x ∷ xs

-- ---- triggers of one term

-- the candidates that hold all variables
abbrev pub full_candidates : Quant → List Term
full_candidates quant = filter (λ t. holds_all quant.count (t ∷ [])) (candidates quant)

abbrev pub is_proper_subterm : Term → Term → Bool
is_proper_subterm s t = has (subterms t) s && not (same_term s t)

-- no other one stands in the term
abbrev pub is_least_of : List Term → Term → Bool
is_least_of terms t = not (list_any (λ s. is_proper_subterm s t) terms)

abbrev pub single_triggers : Quant → List (List Term)
single_triggers quant =
    map (λ t. t ∷ []) (filter (is_least_of (full_candidates quant)) (full_candidates quant))

-- ---- the trigger that is built

-- the term holds a variable of the quantifier that the terms do not hold
abbrev pub brings_variable : ℕ → List Term → Term → Bool
brings_variable count terms t =
    list_any (λ k. nat_lt k count && not (has_number (flat_map variables_of terms) k))
    (variables_of t)

abbrev pub with_bringing : ℕ → List Term → Term → List Term
with_bringing count taken t = if brings_variable count taken t then taken ++ t ∷ [] else taken

-- the candidates that hold a variable which those before do not hold
abbrev pub bringing_terms : Quant → List Term
bringing_terms quant = fold (with_bringing quant.count) [] (candidates quant)

-- the one trigger of several terms, if they hold all variables
abbrev pub built_trigger : Quant → List (List Term)
built_trigger quant =
    if holds_all quant.count (bringing_terms quant) then bringing_terms quant ∷ [] else []

-- ---- all

-- the triggers without the patterns that stand with the formula
abbrev pub inferred_triggers : Quant → List (List Term)
inferred_triggers quant = or_else (single_triggers quant) (built_trigger quant)

unfoldable pub triggers : Quant → List (List Term)
triggers quant = or_else (used_patterns quant) (inferred_triggers quant)
