-- The numbers of the quantified formulas of a base.
use Rattle.std.proofs.Common.{◌≡◌, ℕ, ◌+◌, ◌<◌, List, [], ◌++◌, map, length, Some, None, option_map}
use Rattle.std.proofs.Common.{sym, subst, ap, ◌∙◌, arith}
use Rattle.std.proofs.lemmas.Grind.{flat_map-append}
use Rattle.std.proofs.lemmas.List.{length-append, length-map}
use Rattle.std.proofs.lemmas.Option.{slice_get-map}
use Rattle.std.specs.List.{cons_option}
use Rattle.std.specs.Prelude.{slice_get}
use Rattle.esc_term.specs.declared.formula.Formula.{Formula}
use Rattle.esc_fact.specs.Base.{Quantified, formulas_in, quantified_in, quantified_under, whole}
use Rattle.esc_fact.specs.WalkInside.{wholes_in, wholes_under}
use Rattle.esc_fact.specs.declared.base.Base.{Base}
use Rattle.esc_fact.proofs.Places.{found_first, found_then}
use Rattle.esc_fact.proofs.Quantifiers.{map-flat_map}

-- those of the background, and then those of the negated goal
abbrev pub wholes_of : Base → List Formula
wholes_of base = wholes_in 0 base.background ++ wholes_in 0 (cons_option base.negated [])

wholes_of-is : (base : Base) → map whole (quantified_in base) ≡ wholes_of base
unfolding wholes_under
wholes_of-is base =
    map-flat_map whole (λ f. quantified_under f 0) (formulas_in base)
    ∙ flat_map-append (wholes_under 0) base.background (cons_option base.negated [])

pub at_number : (base : Base) (k : ℕ) (f : Formula) → slice_get (wholes_of base) k ≡ Some f
    → (q : Quantified) → slice_get (quantified_in base) k ≡ Some q → whole q ≡ f
at_number base k f at q e =
    let same : Some (whole q) ≡ Some f =
    sym (ap (option_map whole) e) ∙ sym (slice_get-map whole (quantified_in base) k)
    ∙ ap (λ fs. slice_get fs k) (wholes_of-is base) ∙ at in cc

pub at_first : (base : Base) (k : ℕ) (f : Formula)
    → slice_get (wholes_in 0 base.background) k ≡ Some f → slice_get (wholes_of base) k ≡ Some f
at_first base k f at =
    found_first (wholes_in 0 base.background) (wholes_in 0 (cons_option base.negated [])) k f at

pub at_last : (base : Base) (k j : ℕ) (f g : Formula) → base.negated ≡ Some g
    → length (wholes_in 0 base.background) + j ≡ k
    → slice_get (wholes_under 0 g) j ≡ Some f → slice_get (wholes_of base) k ≡ Some f
at_last base k j f g e past at =
    found_then (wholes_in 0 base.background) (wholes_in 0 (cons_option base.negated [])) j k f past
    (subst (λ n. slice_get (wholes_in 0 (cons_option n [])) j ≡ Some f) (sym e)
    (found_first (wholes_under 0 g) [] j f at))

-- a number is not past them all
past_all : (base : Base) (k j n : ℕ) → k < length (quantified_in base)
    → length (wholes_in 0 base.background) + j ≡ k
    → length (wholes_in 0 (cons_option base.negated [])) + n ≡ j → ⊥
past_all base k j n small past more =
    let all : length (quantified_in base)
    ≡ length (wholes_in 0 base.background) + length (wholes_in 0 (cons_option base.negated [])) =
    sym (length-map (quantified_in base) whole) ∙ ap length (wholes_of-is base)
    ∙ length-append (wholes_in 0 base.background) (wholes_in 0 (cons_option base.negated [])) in
    omega arith

pub past_background : (base : Base) (k j : ℕ) → base.negated ≡ None
    → k < length (quantified_in base) → length (wholes_in 0 base.background) + j ≡ k → ⊥
past_background base k j e small past =
    past_all base k j j small past
    (subst (λ n. length (wholes_in 0 (cons_option n [])) + j ≡ j) (sym e) (omega arith))

pub past_negated : (base : Base) (k j n : ℕ) (g : Formula) → base.negated ≡ Some g
    → k < length (quantified_in base) → length (wholes_in 0 base.background) + j ≡ k
    → length (wholes_under 0 g) + n ≡ j → ⊥
past_negated base k j n g e small past more =
    past_all base k j n small past
    (subst (λ o. length (wholes_in 0 (cons_option o [])) + n ≡ j) (sym e)
    (omega (arith, length-append (wholes_under 0 g) [])))
