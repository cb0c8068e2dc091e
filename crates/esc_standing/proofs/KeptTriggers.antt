-- That the triggers of kept formulas are triggers.
use Rattle.std.proofs.Common.{◌≡◌, Bool, true, false, IsTrue, List}
use Rattle.std.proofs.Common.{refl, sym, ap, ◌∙◌, if◌then◌else◌}
use Rattle.std.specs.List.{list_all}
use Rattle.esc_term.specs.declared.term.Term.{Term}
use Rattle.esc_term.specs.declared.formula.Formula.TheVariants.{Forall, Exists}
use Rattle.esc_term.specs.Formula.{binds_quant, is_closed, substituted, substituted_quant}
use Rattle.esc_term.specs.Laws.{SubstitutionCloses}
use Rattle.esc_term.proofs.FormulaLevels.{binds-Forall, binds-Exists, substituted_to-Forall}
use Rattle.esc_term.proofs.FormulaLevels.{substituted_to-Exists, substituted_quant-at}
use Rattle.esc_trigger.specs.Laws.{TriggersHoldAll, is_trigger}
use Rattle.esc_fact.specs.Base.{Quantified, whole}
use Rattle.esc_fact.specs.Fact.{closed_at}
use Rattle.esc_fact.specs.Legal.{IsClosedBase}
use Rattle.esc_fact.specs.declared.base.Base.{Base}
use Rattle.esc_fact.specs.declared.fact.Fact.{Fact}
use Rattle.esc_rounds.specs.Branch.{IsKept}
use Rattle.esc_rounds.specs.declared.kept.Kept.{Kept}
use Rattle.esc_standing.specs.Formulas.{KeptHaveTriggers}
use Rattle.esc_standing.proofs.BoundQuantified.{formula_bound}

quant_closed : (q : Quantified) (outer : List Term) (u : Bool) → q.universal ≡ u
    → is_closed (closed_at q outer) ≡ true
    → binds_quant (substituted_quant outer q.quant 0) 0 ≡ true
quant_closed q outer true e closed =
    sym (ap is_closed (ap (λ v. substituted outer (if v then Forall q.quant else Exists q.quant)) e
    ∙ substituted_to-Forall outer 0 q.quant)
    ∙ binds-Forall 0 (substituted_quant outer q.quant 0)) ∙ closed
quant_closed q outer false e closed =
    sym (ap is_closed (ap (λ v. substituted outer (if v then Forall q.quant else Exists q.quant)) e
    ∙ substituted_to-Exists outer 0 q.quant)
    ∙ binds-Exists 0 (substituted_quant outer q.quant 0)) ∙ closed

kept_triggers : SubstitutionCloses → TriggersHoldAll → (base : Base) (facts : List Fact) (k : Kept)
    → IsClosedBase base → IsKept base facts k
    → IsTrue (list_all (is_trigger k.count) k.triggers)
kept_triggers closes hold base facts k closed is =
    let q = is.q in
    let one = substituted_quant k.outer q.quant 0 in
    let bound = quant_closed q k.outer q.universal refl
    (closes k.outer (whole q) is.grounded
    (formula_bound base k.number q (whole q) k.outer closed is.numbered refl is.as_many)) in
    let count : k.count ≡ one.count =
    is.count ∙ sym (ap (λ r. r.count) (substituted_quant-at k.outer 0 q.quant)) in
    ap (λ n. list_all (is_trigger n) k.triggers) count
    ∙ ap (list_all (is_trigger one.count)) is.triggers_are ∙ hold one bound

pub kept_have_triggers : SubstitutionCloses → TriggersHoldAll → KeptHaveTriggers
kept_have_triggers closes hold base facts kept closed all i d small =
    kept_triggers closes hold base facts _ closed (all i d small)
