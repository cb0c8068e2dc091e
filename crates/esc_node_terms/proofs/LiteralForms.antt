-- Literals that are told apart by their form.
use Rattle.std.proofs.Common.{◌≡◌, true, false, List, ap, sym, ◌∙◌}
use Rattle.esc_term.specs.declared.term.Term.{Term}
use Rattle.esc_term.specs.declared.formula.Formula.{Formula, out-Formula}
use Rattle.esc_term.specs.declared.formula.Formula.TheVariants as formula
use Rattle.esc_term.specs.declared.formula.Formula.TheVariants.{rolls-Distinct, rolls-Eq}
use Rattle.esc_term.specs.declared.formula.Formula.TheOpen.{Formula-F}
use Rattle.esc_term.specs.declared.formula.Formula.TheViews.{out-roll-Formula}
use Rattle.esc_term.specs.declared.formula.Quant.{Quant}
use Rattle.esc_term.specs.declared.formula.Item.{Item}
use Rattle.esc_node_terms.specs.LiteralForms.{IsClassLiteral, denied, equated, is_class_form}
use Rattle.esc_node_terms.specs.LiteralForms.{told_apart}

pub out-Eq : (s t : Term) → out-Formula (formula.Eq s t) ≡ Formula-F.Eq s t
out-Eq s t = ap out-Formula (sym (rolls-Eq s t)) ∙ out-roll-Formula (Formula-F.Eq s t)

pub out-Distinct : (ts : List Term) → out-Formula (formula.Distinct ts) ≡ Formula-F.Distinct ts
out-Distinct ts = ap out-Formula (sym (rolls-Distinct ts))
    ∙ out-roll-Formula (Formula-F.Distinct ts)

same_Eq : (s t u v : Term) → formula.Eq s t ≡ formula.Eq u v → (s ≡ u) × (t ≡ v)
same_Eq s t u v e =
    let left : Formula-F Formula Quant = Formula-F.Eq s t in
    let right : Formula-F Formula Quant = Formula-F.Eq u v in
    let forms : left ≡ right = sym (out-Eq s t) ∙ (ap out-Formula e ∙ out-Eq u v) in
    (cc, cc)

Eq_no_Distinct : (s t : Term) (ts : List Term) → formula.Eq s t ≡ formula.Distinct ts → ⊥
Eq_no_Distinct s t ts e =
    let left : Formula-F Formula Quant = Formula-F.Eq s t in
    let right : Formula-F Formula Quant = Formula-F.Distinct ts in
    let forms : left ≡ right = sym (out-Eq s t) ∙ (ap out-Formula e ∙ out-Distinct ts) in
    cc

pub same_equated : (s t u v : Term) → equated s t ≡ equated u v → (s ≡ u) × (t ≡ v)
same_equated s t u v e = same_Eq s t u v (ap (λ (item : Item). item.formula) e)

pub same_denied : (s t u v : Term) → denied s t ≡ denied u v → (s ≡ u) × (t ≡ v)
same_denied s t u v e = same_Eq s t u v (ap (λ (item : Item). item.formula) e)

pub same_apart : (ts us : List Term) → told_apart ts ≡ told_apart us → ts ≡ us
same_apart ts us e =
    let left : Formula-F Formula Quant = Formula-F.Distinct ts in
    let right : Formula-F Formula Quant = Formula-F.Distinct us in
    let forms : left ≡ right =
    sym (out-Distinct ts) ∙ (ap (λ (item : Item). out-Formula item.formula) e ∙ out-Distinct us) in
    cc

pub equated_no_denied : (s t u v : Term) → equated s t ≡ denied u v → ⊥
equated_no_denied s t u v e = let signs : true ≡ false = ap (λ (item : Item). item.positive) e in cc

pub apart_no_denied : (ts : List Term) (s t : Term) → told_apart ts ≡ denied s t → ⊥
apart_no_denied ts s t e = let signs : true ≡ false = ap (λ (item : Item). item.positive) e in cc

pub equated_no_apart : (s t : Term) (ts : List Term) → equated s t ≡ told_apart ts → ⊥
equated_no_apart s t ts e = Eq_no_Distinct s t ts (ap (λ (item : Item). item.formula) e)

pub denied_no_apart : (s t : Term) (ts : List Term) → denied s t ≡ told_apart ts → ⊥
denied_no_apart s t ts e = Eq_no_Distinct s t ts (ap (λ (item : Item). item.formula) e)

pub form-Eq : (s t : Term) (positive : _) →
    IsClassLiteral (record { formula = formula.Eq s t; positive = positive })
form-Eq s t positive = ap (λ form. is_class_form form positive) (out-Eq s t)

pub form-Distinct : (ts : List Term) → IsClassLiteral (told_apart ts)
form-Distinct ts = ap (λ form. is_class_form form true) (out-Distinct ts)
