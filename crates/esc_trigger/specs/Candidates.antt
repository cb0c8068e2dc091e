-- The terms of a quantified formula's body from which triggers are inferred.
use Rattle.std.specs.Prelude.{ℕ, ◌+◌, Bool, true, false, not, ◌&&◌, nat_lt, List, [], ◌++◌, map}
use Rattle.std.specs.List.{filter, flat_map, list_any}
use Rattle.esc_term.specs.declared.term.Term.{Term}
use Rattle.esc_term.specs.declared.term.Term.TheOpen.{Term-F}
use Rattle.esc_term.specs.declared.term.Term.TheViews.{out-Term}
use Rattle.esc_term.specs.declared.formula.Formula.{Formula}
use Rattle.esc_term.specs.declared.formula.Formula.TheOpen.{Formula-F, Quant-F}
use Rattle.esc_term.specs.declared.formula.Formula.TheFolds.{fold-Formula}
use Rattle.esc_term.specs.declared.formula.Quant.{Quant}
use Rattle.esc_term.specs.Term.{firsts, subterms}
use Rattle.esc_cover.specs.Classes.{has}
use Rattle.esc_trigger.specs.Variables.{calculates, is_clear, lowered, variables_of}

-- the subterms that hold no variable bound inside, as they read outside
abbrev pub outside : ℕ → Term → List Term
outside depth t = map (lowered depth) (filter (is_clear depth) (subterms t))

-- one level, where so many variables are bound inside
abbrev pub clear_step : Formula-F (ℕ → List Term) (ℕ → List Term) → ℕ → List Term
clear_step Formula-F.True depth = []
clear_step Formula-F.False depth = []
clear_step (Formula-F.And parts) depth = flat_map (λ part. part depth) parts
clear_step (Formula-F.Or parts) depth = flat_map (λ part. part depth) parts
clear_step (Formula-F.Not part) depth = part depth
clear_step (Formula-F.Implies left right) depth = left depth ++ right depth
clear_step (Formula-F.Iff left right) depth = left depth ++ right depth
clear_step (Formula-F.Forall quant) depth = quant depth
clear_step (Formula-F.Exists quant) depth = quant depth
clear_step (Formula-F.Eq left right) depth = outside depth left ++ outside depth right
clear_step (Formula-F.Less left right) depth = outside depth left ++ outside depth right
clear_step (Formula-F.Distinct terms) depth = flat_map (outside depth) terms
clear_step (Formula-F.LabelPos name part) depth = part depth
clear_step (Formula-F.LabelNeg name part) depth = part depth

-- only the body of a quantifier inside is looked at, not its notes
abbrev pub clear_quant_step : Quant-F (ℕ → List Term) (ℕ → List Term) → ℕ → List Term
clear_quant_step quant depth = quant.body (depth + quant.count)

-- Each occurrence of a term in the atoms of a formula, those of quantified formulas inside too,
-- that holds no variable bound inside: from the front, subterms before their term.
unfoldable pub clear_terms : Formula → ℕ → List Term
clear_terms = fold-Formula (ℕ → List Term) (ℕ → List Term) clear_step clear_quant_step

-- ---- candidates

abbrev pub is_application_form : Term-F Term → Bool
is_application_form (Term-F.App head args) = true
is_application_form form = false

abbrev pub is_application : Term → Bool
is_application t = is_application_form (out-Term t)

-- an application with a variable of the quantifier, without arithmetic, and not exempt
abbrev pub is_candidate : Quant → Term → Bool
is_candidate quant t =
    is_application t && list_any (λ k. nat_lt k quant.count) (variables_of t) && not (calculates t)
    && not (has quant.exempt t)

-- each once, in the order of their first occurrence
abbrev pub candidates : Quant → List Term
candidates quant = firsts (filter (is_candidate quant) (clear_terms quant.body 0))
