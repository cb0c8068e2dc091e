use Rattle.std.proofs.Common.{rules, ◌≡◌, length, if◌then◌else◌, set, ap, ap₂, sym, subst, ◌∙◌}
use Rattle.std.specs.Prelude.{OnOk}
use Rattle.esc_term.specs.declared.formula.Formula.TheVariants as formula
use Rattle.esc_outcome.specs.Labels.{told_if}
use Rattle.esc_context.specs.JudgingInside.{Labels, classes_for, cover_by, labels_by, literals_for}
use Rattle.esc_context.proofs.LabelLevels as levels
use Rattle.esc_context.proofs.LabelsBehind.{labels_both, labels_headed, labels_more, labels_same}
use Rattle.esc_said.proofs.Passing.{all_more, any_more}
use Rattle.esc_context.proofs.judge.Judge.+labelled.Goals.{labelled_as-else-positive}
use Rattle.esc_context.proofs.judge.Judge.+labelled.Goals.{labelled_as-then-positive}
use Rattle.esc_context.proofs.judge.Judge.+labelled.Goals as goal

pub labelled-returns-in-True-clause-labels : goal.labelled-returns-in-True-clause-labels
labelled-returns-in-True-clause-labels t c =
    let j = c.args.self.now in
    labels_same c.args.labels.now.items (labels_by j c.args.formula.now)
    (ap (labels_by j) c.in-True.is
    ∙ levels.labels_in-True (literals_for j) (classes_for j))

pub labelled-returns-in-False-clause-labels : goal.labelled-returns-in-False-clause-labels
labelled-returns-in-False-clause-labels t c =
    let j = c.args.self.now in
    labels_same c.args.labels.now.items (labels_by j c.args.formula.now)
    (ap (labels_by j) c.in-False.is
    ∙ levels.labels_in-False (literals_for j) (classes_for j))

pub labelled-returns-in-And-clause-labels : goal.labelled-returns-in-And-clause-labels
labelled-returns-in-And-clause-labels t c =
    let j = c.args.self.now in
    subst (λ names. OnOk c.labelled_all.result
    (Labels c.args.labels.now.items c.labelled_all.new.labels.items names))
    (sym (ap (labels_by j) (c.in-And.is ∙ ap formula.And (sym c.as_slice.ensures))
    ∙ levels.labels_in-And (literals_for j) (classes_for j) c.as_slice.result.now))
    c.labelled_all.ensures.labels

pub labelled-returns-in-Or-clause-labels : goal.labelled-returns-in-Or-clause-labels
labelled-returns-in-Or-clause-labels t c =
    let j = c.args.self.now in
    subst (λ names. OnOk c.labelled_any.result
    (Labels c.args.labels.now.items c.labelled_any.new.labels.items names))
    (sym (ap (labels_by j) (c.in-Or.is ∙ ap formula.Or (sym c.as_slice-in-Or.ensures))
    ∙ levels.labels_in-Or (literals_for j) (classes_for j) c.as_slice-in-Or.result.now))
    c.labelled_any.ensures.labels

pub labelled-returns-in_ok-said-in-Not-clause-labels
    : goal.labelled-returns-in_ok-said-in-Not-clause-labels
labelled-returns-in_ok-said-in-Not-clause-labels t c =
    let j = c.args.self.now in
    subst (Labels c.args.labels.now.items c.labelled.new.labels.items)
    (sym (ap (labels_by j) (c.in-Not.is ∙ ap formula.Not (sym c.get.ensures))
    ∙ levels.labels_in-Not (literals_for j) (classes_for j) c.get.result.now))
    c.in_ok-said-in-Not.ensures.labels

pub labelled-returns-in_ok-second-in-Implies-clause-labels
    : goal.labelled-returns-in_ok-second-in-Implies-clause-labels
labelled-returns-in_ok-second-in-Implies-clause-labels t c =
    let j = c.args.self.now in
    let left = c.get-in-Implies.result.now in
    let right = c.get-in-Implies-2.result.now in
    subst (Labels c.args.labels.now.items c.labelled-in-Implies-2.new.labels.items)
    (sym (ap (labels_by j) (c.in-Implies.is
    ∙ ap₂ formula.Implies (sym c.get-in-Implies.ensures) (sym c.get-in-Implies-2.ensures))
    ∙ levels.labels_in-Implies (literals_for j) (classes_for j) left right))
    (labels_both c.args.labels.now.items c.labelled-in-Implies.new.labels.items
    c.labelled-in-Implies-2.new.labels.items (labels_by j left) (labels_by j right)
    c.in_ok-first-in-Implies.ensures.labels c.in_ok-second-in-Implies.ensures.labels)

pub labelled-returns-in_ok-second-in-Iff-clause-labels
    : goal.labelled-returns-in_ok-second-in-Iff-clause-labels
labelled-returns-in_ok-second-in-Iff-clause-labels t c =
    let j = c.args.self.now in
    let left = c.get-in-Iff.result.now in
    let right = c.get-in-Iff-2.result.now in
    subst (Labels c.args.labels.now.items c.labelled-in-Iff-2.new.labels.items)
    (sym (ap (labels_by j) (c.in-Iff.is
    ∙ ap₂ formula.Iff (sym c.get-in-Iff.ensures) (sym c.get-in-Iff-2.ensures))
    ∙ levels.labels_in-Iff (literals_for j) (classes_for j) left right))
    (labels_both c.args.labels.now.items c.labelled-in-Iff.new.labels.items
    c.labelled-in-Iff-2.new.labels.items (labels_by j left) (labels_by j right)
    c.in_ok-first-in-Iff.ensures.labels c.in_ok-second-in-Iff.ensures.labels)

pub labelled-returns-in-Eq-clause-labels : goal.labelled-returns-in-Eq-clause-labels
labelled-returns-in-Eq-clause-labels t c =
    let j = c.args.self.now in
    labels_same c.args.labels.now.items (labels_by j c.args.formula.now)
    (ap (labels_by j) c.in-Eq.is
    ∙ levels.labels_in-Eq (literals_for j) (classes_for j) c.in-Eq.left c.in-Eq.right)

pub labelled-returns-in-Distinct-clause-labels : goal.labelled-returns-in-Distinct-clause-labels
labelled-returns-in-Distinct-clause-labels t c =
    let j = c.args.self.now in
    labels_same c.args.labels.now.items (labels_by j c.args.formula.now)
    (ap (labels_by j) c.in-Distinct.is
    ∙ levels.labels_in-Distinct (literals_for j) (classes_for j) c.in-Distinct.terms)

pub labelled-returns-in-LabelPos-clause-labels : goal.labelled-returns-in-LabelPos-clause-labels
labelled-returns-in-LabelPos-clause-labels t c =
    let j = c.args.self.now in
    subst (λ names. OnOk c.labelled_as.result
    (Labels c.args.labels.now.items c.labelled_as.new.labels.items names))
    (sym (ap (labels_by j) (c.in-LabelPos.is
    ∙ ap (formula.LabelPos c.in-LabelPos.name) (sym c.get-in-LabelPos.ensures))
    ∙ levels.labels_in-LabelPos (literals_for j) (classes_for j) c.in-LabelPos.name
    c.get-in-LabelPos.result.now))
    c.labelled_as.ensures.labels

pub labelled-returns-in-LabelNeg-clause-labels : goal.labelled-returns-in-LabelNeg-clause-labels
labelled-returns-in-LabelNeg-clause-labels t c =
    let j = c.args.self.now in
    subst (λ names. OnOk c.labelled_as-in-LabelNeg.result
    (Labels c.args.labels.now.items c.labelled_as-in-LabelNeg.new.labels.items names))
    (sym (ap (labels_by j) (c.in-LabelNeg.is
    ∙ ap (formula.LabelNeg c.in-LabelNeg.name) (sym c.get-in-LabelNeg.ensures))
    ∙ levels.labels_in-LabelNeg (literals_for j) (classes_for j) c.in-LabelNeg.name
    c.get-in-LabelNeg.result.now))
    c.labelled_as-in-LabelNeg.ensures.labels

pub labelled-returns-in-Forall-clause-labels : goal.labelled-returns-in-Forall-clause-labels
labelled-returns-in-Forall-clause-labels t c =
    let j = c.args.self.now in
    labels_same c.args.labels.now.items (labels_by j c.args.formula.now)
    (ap (labels_by j) c.in-Forall.is
    ∙ levels.labels_in-Forall (literals_for j) (classes_for j) c.in-Forall.field-0)

pub labelled-returns-in-Exists-clause-labels : goal.labelled-returns-in-Exists-clause-labels
labelled-returns-in-Exists-clause-labels t c =
    let j = c.args.self.now in
    labels_same c.args.labels.now.items (labels_by j c.args.formula.now)
    (ap (labels_by j) c.in-Exists.is
    ∙ levels.labels_in-Exists (literals_for j) (classes_for j) c.in-Exists.field-0)

pub labelled-returns-in-Less-clause-labels : goal.labelled-returns-in-Less-clause-labels
labelled-returns-in-Less-clause-labels t c =
    let j = c.args.self.now in
    labels_same c.args.labels.now.items (labels_by j c.args.formula.now)
    (ap (labels_by j) c.in-Less.is
    ∙ levels.labels_in-Less (literals_for j) (classes_for j) c.in-Less.field-0 c.in-Less.field-1)

pub labelled_all-parts-preserved : goal.labelled_all-parts-preserved
labelled_all-parts-preserved t c =
    let j = c.args.self.now in
    let fs = c.args.parts.now in
    let i = c.parts.part-index in
    let f = c.part-item.result in
    record {
      holds = all_more (λ g. (cover_by j g).holds) fs i f c.parts-test.true c.part-item.is
          c.parts.said.holds c.in_ok-labelled.field-0.holds c.and-said.result.holds
          c.and-said.ensures.holds c.parts.invariant.holds c.in_ok-labelled.ensures.holds;
      fails = any_more (λ g. (cover_by j g).fails) fs i f c.parts-test.true c.part-item.is
          c.parts.said.fails c.in_ok-labelled.field-0.fails c.and-said.result.fails
          c.and-said.ensures.fails c.parts.invariant.fails c.in_ok-labelled.ensures.fails;
      told = labels_more (labels_by j) fs i f c.args.labels.now.items c.parts.labels.items
          c.labelled.new.labels.items c.parts-test.true c.part-item.is c.parts.invariant.told
          c.in_ok-labelled.ensures.labels;
    }

pub labelled_any-parts-preserved : goal.labelled_any-parts-preserved
labelled_any-parts-preserved t c =
    let j = c.args.self.now in
    let fs = c.args.parts.now in
    let i = c.parts.part-index in
    let f = c.part-item.result in
    record {
      holds = any_more (λ g. (cover_by j g).holds) fs i f c.parts-test.true c.part-item.is
          c.parts.said.holds c.in_ok-labelled.field-0.holds c.or-said.result.holds
          c.or-said.ensures.holds c.parts.invariant.holds c.in_ok-labelled.ensures.holds;
      fails = all_more (λ g. (cover_by j g).fails) fs i f c.parts-test.true c.part-item.is
          c.parts.said.fails c.in_ok-labelled.field-0.fails c.or-said.result.fails
          c.or-said.ensures.fails c.parts.invariant.fails c.in_ok-labelled.ensures.fails;
      told = labels_more (labels_by j) fs i f c.args.labels.now.items c.parts.labels.items
          c.labelled.new.labels.items c.parts-test.true c.part-item.is c.parts.invariant.told
          c.in_ok-labelled.ensures.labels;
    }

pub labelled_as-returns-clause-labels : goal.labelled_as-returns-clause-labels
labelled_as-returns-clause-labels t c =
    let j = c.args.self.now in
    let f = c.args.part.now in
    let said = c.in_ok-said.said in
    let place : c.len-place.result ≡ length c.args.labels.now.items = search rules in
    let told : c.if-positive.told ≡ (if c.args.positive then said.holds else said.fails) =
    elim c.if-positive.branch [
      | labelled_as-then-positive w ↦ w.told-is
          ∙ sym (ap (λ b. if b then said.holds else said.fails) w.if-positive.true)
      | labelled_as-else-positive w ↦ w.told-is
          ∙ sym (ap (λ b. if b then said.holds else said.fails) w.if-positive.false)
    ] in
    let by_sign : c.if-positive.told
    ≡ (if c.args.positive then (cover_by j f).holds else (cover_by j f).fails) =
    told ∙ (ap (λ b. if c.args.positive then b else said.fails) c.in_ok-said.ensures.holds
    ∙ ap (λ b. if c.args.positive then (cover_by j f).holds else b)
    c.in_ok-said.ensures.fails) in
    subst (λ b. Labels c.args.labels.now.items
    (set c.labelled.new.labels.items c.len-place.result
    (record { name = c.args.name; told = c.if-positive.told }))
    (told_if b c.args.name (labels_by j f))) by_sign
    (labels_headed c.args.labels.now.items c.labelled.new.labels.items _ c.args.name
    c.if-positive.told (labels_by j f)
    (subst (λ ls. Labels ls c.labelled.new.labels.items (labels_by j f)) c.in_ok-push.ensures.items
    c.in_ok-said.ensures.labels)
    (ap (λ k. set c.labelled.new.labels.items k
    (record { name = c.args.name; told = c.if-positive.told })) place))
