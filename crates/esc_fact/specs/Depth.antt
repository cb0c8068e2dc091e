-- How deep facts lie, and lists within limits.
use Rattle.std.specs.Prelude.{ℕ, ◌+◌, ◌≤◌, Bool, List, [], ◌∷◌, ◌++◌, length, map, max}
use Rattle.std.specs.Prelude.{if◌then◌else◌, slice_get}
use Rattle.std.specs.List.{All, fold, list_any}
use Rattle.std.specs.Option.{option_map_or}
use Rattle.esc_term.specs.declared.term.Term.{Term}
use Rattle.esc_term.specs.declared.formula.Formula.{Formula}
use Rattle.esc_term.specs.Equal.{same_formula, same_term}
use Rattle.esc_term.specs.Formula.{terms_of}
use Rattle.esc_cover.specs.Atoms.{atoms_of}
use Rattle.esc_fact.specs.Base.{quantified_in}
use Rattle.esc_fact.specs.Fact.{closed_at, formula_of, store}
use Rattle.esc_fact.specs.Legal.{IsLegal, made_facts}
use Rattle.esc_fact.specs.declared.base.Base.{Base}
use Rattle.esc_fact.specs.declared.fact.Fact.{Fact}
use Rattle.esc_fact.specs.declared.fact.Fact.TheVariants as fact

-- the formula of a fact, and how deep the fact lies
pub record Deep : Type 0 where
  pub formula : Formula
  pub depth : ℕ

-- the depth of the first that passes the test
abbrev pub first_depth : (Formula → Bool) → List Deep → ℕ
first_depth test [] = 0
first_depth test (d ∷ ds) = if test d.formula then d.depth else first_depth test ds

-- the depth of the first fact in which the term stands
abbrev pub depth_of_term : List Deep → Term → ℕ
depth_of_term facts t = first_depth (λ f. list_any (same_term t) (terms_of f)) facts

-- the depth of the first fact of which the formula is an atom
abbrev pub depth_of_atom : List Deep → Formula → ℕ
depth_of_atom facts g = first_depth (λ f. list_any (same_formula g) (atoms_of f)) facts

abbrev pub greatest : List ℕ → ℕ
greatest = fold max 0

-- the depth of the quantified formula with this number and these outer terms
abbrev pub depth_of_quantified : Base → List Deep → ℕ → List Term → ℕ
depth_of_quantified base facts number outer =
    option_map_or (λ q. depth_of_atom facts (closed_at q outer))
    (slice_get (quantified_in base) number) 0

-- how deep a fact lies behind these
abbrev pub depth_behind : Base → List Deep → Fact → ℕ
depth_behind base facts (fact.Given k) = 0
depth_behind base facts fact.NegGoal = 0
depth_behind base facts (fact.Inst number outer terms) =
    1 + greatest (depth_of_quantified base facts number outer ∷ map (depth_of_term facts) terms)
depth_behind base facts (fact.Skolem number outer) = depth_of_quantified base facts number outer
depth_behind base facts (fact.Map1 m i x) = 1 + depth_of_term facts (store m i x)
depth_behind base facts (fact.Map2 m i x j) =
    1 + max (depth_of_term facts (store m i x)) (depth_of_term facts j)

abbrev pub with_depth : Base → List Deep → Fact → List Deep
with_depth base facts fact =
    option_map_or (λ f. facts ++ record { formula = f; depth = depth_behind base facts fact } ∷ [])
    (formula_of base fact) facts

-- the formulas of a list of facts with their depths, each read from those before it
abbrev pub deep : Base → List Fact → List Deep
deep base = fold (with_depth base) []

-- the list is legal, and neither too deep nor too long
pub record IsWithinLimits (base : Base) (depth facts : ℕ) (list : List Fact) : Type 0 where
  pub legal : IsLegal base list
  pub shallow : All (λ d. d.depth ≤ depth) (deep base list)
  pub few : length (made_facts list) ≤ facts
