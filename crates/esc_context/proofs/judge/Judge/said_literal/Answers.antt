use Rattle.std.proofs.Common.{◌≡◌, ◌<◌, true, false, List, length, get_or, ap, subst, ◌∙◌}
use Rattle.esc_term.specs.declared.formula.Item.{Item}
use Rattle.esc_cover.proofs.TestLemmas.{not_both}
use Rattle.esc_context.specs.JudgingInside.{literals_for}
use Rattle.esc_context.proofs.LiteralSigns.{signed_more, signed_past}
use Rattle.esc_context.proofs.judge.Judge.said_literal.Goals.{then-eq, else-eq}
use Rattle.esc_context.proofs.judge.Judge.said_literal.Goals as goal

pub literals-preserved : goal.literals-preserved
literals-preserved c =
    let f = c.args.formula.now in
    let literals = literals_for c.args.self.now in
    let item = c.literal-item.result in
    let i = c.literals.literal-index in
    let whole : c.as_slice-literal-items.result.now ≡ literals = c.as_slice-literal-items.ensures in
    let inside : i < length literals =
    subst (λ (items : List Item). i < length items) whole c.literals-test.true in
    let read : item ≡ get_or literals i item =
    subst (λ (items : List Item). item ≡ get_or items i item) whole c.literal-item.is in
    elim c.if-eq.branch [
      | then-eq w ↦
          let same : item.formula ≡ f = c.eq.ensures.same.0 w.if-eq.true in (
            signed_more f literals i item inside read
                c.literals.said.holds c.if-eq.said.holds true
                c.literals.invariant.0 same
                (ap (λ s. s.holds) w.said-is ∙ w.with_sign-said.ensures.holds),
            signed_more f literals i item inside read
                c.literals.said.fails c.if-eq.said.fails false
                c.literals.invariant.1 same
                (ap (λ s. s.fails) w.said-is ∙ w.with_sign-said.ensures.fails),
          )
      | else-eq w ↦
          let differ : item.formula ≡ f → ⊥ =
          (λ e. not_both c.eq.result (c.eq.ensures.same.1 e) w.if-eq.false) in (
            signed_past f literals i item inside read
                c.literals.said.holds c.if-eq.said.holds true
                c.literals.invariant.0 differ (ap (λ s. s.holds) w.said-is),
            signed_past f literals i item inside read
                c.literals.said.fails c.if-eq.said.fails false
                c.literals.invariant.1 differ (ap (λ s. s.fails) w.said-is),
          )
    ]
