-- That the quantified formulas of a closed base are bound where they stand.
use Rattle.std.proofs.Common.{◌≡◌, ℕ, true, IsSome, List, length, Option, Some, None}
use Rattle.std.proofs.Common.{option_map, refl, sym, ap, ◌∙◌}
use Rattle.std.proofs.lemmas.List.Sums.{AllPass-from_list_all, list_all-from_AllPass}
use Rattle.std.proofs.lemmas.Option.{get_or_from_slice_get, slice_get_within}
use Rattle.std.specs.List.{flat_map, list_all}
use Rattle.std.specs.Prelude.{slice_get}
use Rattle.esc_term.specs.declared.term.Term.{Term}
use Rattle.esc_term.specs.declared.formula.Formula.{Formula}
use Rattle.esc_term.specs.Formula.{binds, is_closed}
use Rattle.esc_term.proofs.Tests.{implied, list_all-flat_map}
use Rattle.esc_fact.specs.Base.{Quantified, formulas_in, quantified_in, quantified_under, whole}
use Rattle.esc_fact.specs.Legal.{IsClosedBase}
use Rattle.esc_fact.specs.declared.base.Base.{Base}
use Rattle.esc_fact.proofs.Quantifiers.{bound_under, is_bound}

some_of : {X Y : Type 0} (g : X → Y) (o : Option X) → IsSome (option_map g o)
    → (x : X) × (o ≡ Some x)
some_of g None h = cc
some_of g (Some x) h = (x, refl)

-- the quantified formula that a fact names
pub named : (base : Base) (number : ℕ) (g : Quantified → Formula)
    → IsSome (option_map g (slice_get (quantified_in base) number))
    → (q : Quantified) × (slice_get (quantified_in base) number ≡ Some q)
named base number g h = some_of g (slice_get (quantified_in base) number) h

all_bound : (fs : List Formula) → list_all is_closed fs ≡ true
    → list_all is_bound (flat_map (λ f. quantified_under f 0) fs) ≡ true
all_bound fs h =
    list_all-flat_map is_bound (λ f. quantified_under f 0) fs
    ∙ implied is_closed (λ f. list_all is_bound (quantified_under f 0)) (λ f. bound_under f 0) fs h

-- each quantified formula of a closed base is bound where it stands
pub whole_bound : (base : Base) (number : ℕ) (q : Quantified) → IsClosedBase base
    → slice_get (quantified_in base) number ≡ Some q → binds (whole q) q.outer ≡ true
whole_bound base number q closed at =
    ap is_bound (sym (get_or_from_slice_get (quantified_in base) number q q at))
    ∙ AllPass-from_list_all is_bound (quantified_in base)
    (all_bound (formulas_in base)
    (list_all-from_AllPass is_closed (formulas_in base) closed)) number q
    (slice_get_within (quantified_in base) number q at)

-- so it is under as many outer terms as it needs
pub formula_bound : (base : Base) (number : ℕ) (q : Quantified) (f : Formula) (us : List Term)
    → IsClosedBase base → slice_get (quantified_in base) number ≡ Some q
    → whole q ≡ f → length us ≡ q.outer → binds f (length us) ≡ true
formula_bound base number q f us closed at is many =
    ap (binds f) many ∙ ap (λ g. binds g q.outer) (sym is) ∙ whole_bound base number q closed at
