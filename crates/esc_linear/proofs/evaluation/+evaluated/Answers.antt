use Rattle.std.proofs.Common.{[], map, Ok, subst, subst₂, arith, ap, ◌∙◌}
use Rattle.std.specs.List.{flat_map}
use Rattle.esc_linear.specs.Forms.{opaque_form, applied, form}
use Rattle.esc_linear.specs.Steps.{looks_into, combined_steps, steps, Yields}
use Rattle.esc_linear.proofs.EvaluationLemmas.{with_form, own_steps, forms-folded, steps-folded, pushed, numeral, variable, not_looked_into, looked_into, all_combined}
use Rattle.esc_linear.proofs.FoldLemmas.{goes, stops, done}
use Rattle.esc_linear.proofs.StepLemmas.{handed_on, no_memory}
use Rattle.esc_linear.proofs.evaluation.+evaluated.Goals as goal

pub evaluated-returns-in-Num : goal.evaluated-returns-in-Num
evaluated-returns-in-Num t c = numeral c.numeral.result c.args.term.now c.in-Num.n c.in-Num.is
    c.numeral.ensures

pub evaluated-returns-in-Var : goal.evaluated-returns-in-Var
evaluated-returns-in-Var t c = variable c.opaque.result c.args.term.now c.in-Var.field-0 c.in-Var.is
    c.opaque.ensures

pub evaluated-returns-then-not-looks_into : goal.evaluated-returns-then-not-looks_into
evaluated-returns-then-not-looks_into t c =
    not_looked_into c.opaque-then-not-looks_into.result c.args.term.now c.in-App.head c.in-App.args
    c.looks_into.result c.in-App.is (c.looks_into.ensures
    ∙ ap (looks_into c.in-App.head) c.len.ensures) c.if-not-looks_into.true
    c.opaque-then-not-looks_into.ensures

pub evaluated-returns-in_err-forms-in-App : goal.evaluated-returns-in_err-forms-in-App
evaluated-returns-in_err-forms-in-App t c =
    let answered = subst (λ ts. Yields c.forms_of.result (flat_map steps ts) (map form ts))
    c.as_slice.ensures c.forms_of.ensures in
    looked_into c.from_residual.result c.args.term.now c.in-App.head c.in-App.args
    c.looks_into.result c.in-App.is (c.looks_into.ensures
    ∙ ap (looks_into c.in-App.head) c.len.ensures) c.if-not-looks_into.false
    (handed_on c.from_residual.result c.forms_of.result _ (flat_map steps c.in-App.args) _ _ _
    c.from_residual.ensures.1 c.in_err-forms-in-App.was answered)

pub evaluated-returns-in_ok-forms-in-App : goal.evaluated-returns-in_ok-forms-in-App
evaluated-returns-in_ok-forms-in-App t c =
    let answered = subst (λ ts. Yields (Ok c.in_ok-forms-in-App.forms) (flat_map steps ts)
    (map form ts)) c.as_slice.ensures c.in_ok-forms-in-App.ensures in
    all_combined c.combined.result c.args.term.now c.in-App.head c.in-App.args _ c.looks_into.result
    c.in-App.is (c.looks_into.ensures ∙ ap (looks_into c.in-App.head) c.len.ensures)
    c.if-not-looks_into.false
    answered (subst (λ fs. Yields c.combined.result (combined_steps c.in-App.head fs)
    (applied c.in-App.head (opaque_form c.args.term.now) fs)) c.as_slice-in-App.ensures
    c.combined.ensures)

pub forms_of-returns-in_err-evaluated : goal.forms_of-returns-in_err-evaluated
forms_of-returns-in_err-evaluated t c =
    subst₂ (λ made value. Yields c.from_residual.result made value)
    (steps-folded [] c.args.terms.now) (forms-folded c.args.terms.now)
    (stops with_form own_steps [] c.args.terms.now c.terms.term-index c.terms.forms
    c.term-item.result _ c.evaluated.result _ _ (omega arith) c.term-item.is
    c.from_residual.ensures.1 c.in_err-evaluated.was c.evaluated.ensures c.terms.invariant)

pub forms_of-returns-in_err-push : goal.forms_of-returns-in_err-push
forms_of-returns-in_err-push t c = no_memory _ _ _ c.from_residual-in_err-push.ensures.1

pub forms_of-terms-preserved : goal.forms_of-terms-preserved
forms_of-terms-preserved t c =
    goes with_form own_steps [] c.args.terms.now c.terms.term-index c.terms.forms c.push.new.self
    c.term-item.result (omega arith) c.term-item.is
    (pushed c.terms.forms c.push.new.self c.in_ok-evaluated.field-0 c.term-item.result
    c.in_ok-push.ensures.ok c.in_ok-evaluated.ensures) c.terms.invariant

pub forms_of-returns : goal.forms_of-returns
forms_of-returns t c =
    subst₂ (λ made value. Yields (Ok c.terms.forms) made value) (steps-folded [] c.args.terms.now)
    (forms-folded c.args.terms.now)
    (done with_form own_steps [] c.args.terms.now c.terms.term-index c.terms.forms (omega arith)
    c.terms.invariant)
