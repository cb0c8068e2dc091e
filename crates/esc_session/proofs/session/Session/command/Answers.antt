use Rattle.std.proofs.Common.{Option, refl, ap, sym, subst, ◌∙◌, arith}
use Rattle.esc_term.specs.declared.formula.Formula.{Formula}
use Rattle.esc_form.specs.Laws.{IsClosedKind}
use Rattle.esc_form.specs.declared.command.Kind.{Kind}
use Rattle.esc_form.specs.declared.command.Kind.TheVariants as kind
use Rattle.esc_report.specs.declared.report.Report.TheVariants as report
use Rattle.esc_answers.specs.Answers.{AnswersKind}
use Rattle.esc_answers.specs.State.{State}
use Rattle.esc_session.specs.Acts.{Acts}
use Rattle.esc_session.specs.View.{state_of}
use Rattle.esc_session.proofs.Replying.{goal_rests, rests_here}
use Rattle.esc_session.proofs.session.Session.command.Goals as goal

-- ---- what is called is closed

pub answer_goal-requires-clause-closed : goal.answer_goal-requires-clause-closed
answer_goal-requires-clause-closed c = subst IsClosedKind c.in-Goal.is c.requires.closed

pub answer_push-requires-clause-closed : goal.answer_push-requires-clause-closed
answer_push-requires-clause-closed c = subst IsClosedKind c.in-Push.is c.requires.closed

pub define-requires-clause-closed : goal.define-requires-clause-closed
define-requires-clause-closed c =
    let d = c.in-Define in
    subst (λ (r : Option Formula). IsClosedKind (kind.Define d.name d.count d.name_place r))
    c.in-Some.is (subst IsClosedKind d.is c.requires.closed)

-- ---- the reports answer

pub returns-in-Goal-clause-answers : goal.returns-in-Goal-clause-answers
returns-in-Goal-clause-answers c =
    let s = c.args.self.now in
    subst (λ (k : Kind). AnswersKind s.limits (state_of s) c.args.command.place k
    c.answer_goal.result (state_of c.answer_goal.new.self))
    (sym c.in-Goal.is)
    c.answer_goal.ensures.answers

pub returns-in-Push-clause-answers : goal.returns-in-Push-clause-answers
returns-in-Push-clause-answers c =
    let s = c.args.self.now in
    subst (λ (k : Kind). AnswersKind s.limits (state_of s) c.args.command.place k
    c.answer_push.result (state_of c.answer_push.new.self))
    (sym c.in-Push.is)
    c.answer_push.ensures.answers

pub returns-in-Pop-clause-answers : goal.returns-in-Pop-clause-answers
returns-in-Pop-clause-answers c =
    let s = c.args.self.now in
    subst (λ (k : Kind). AnswersKind s.limits (state_of s) c.args.command.place k
    c.answer_pop.result (state_of c.answer_pop.new.self))
    (sym c.in-Pop.is)
    c.answer_pop.ensures.answers

pub returns-in-Some-clause-answers : goal.returns-in-Some-clause-answers
returns-in-Some-clause-answers c =
    let d = c.in-Define in
    let s = c.args.self.now in
    subst (λ (k : Kind). AnswersKind s.limits (state_of s) c.args.command.place k
    c.define.result (state_of c.define.new.self))
    (sym (d.is ∙ ap (kind.Define d.name d.count d.name_place) c.in-Some.is))
    c.define.ensures.answers

pub returns-in-None-clause-answers : goal.returns-in-None-clause-answers
returns-in-None-clause-answers c =
    let d = c.in-Define in
    let s = c.args.self.now in
    subst (λ (k : Kind). AnswersKind s.limits (state_of s) c.args.command.place k
    report.Done (state_of s))
    (sym (d.is ∙ ap (kind.Define d.name d.count d.name_place) c.in-None.is))
    (refl, refl)

pub returns-in-Prompt-clause-answers : goal.returns-in-Prompt-clause-answers
returns-in-Prompt-clause-answers c =
    let s = c.args.self.now in
    subst (λ (k : Kind). AnswersKind s.limits (state_of s) c.args.command.place k
    report.Done (state_of s))
    (sym c.in-Prompt.is)
    (refl, refl)

-- ---- what is done

pub returns-in-Goal-clause-acts : goal.returns-in-Goal-clause-acts
returns-in-Goal-clause-acts c =
    subst (λ (k : Kind). Acts k c.answer_goal.result c.args.self.now c.answer_goal.new.self)
    (sym c.in-Goal.is)
    (goal_rests c.in-Goal.formula c.answer_goal.result c.args.self.now c.answer_goal.new.self
    c.answer_goal.ensures.rests)

pub returns-in-Push-clause-acts : goal.returns-in-Push-clause-acts
returns-in-Push-clause-acts c =
    subst (λ (k : Kind). Acts k c.answer_push.result c.args.self.now c.answer_push.new.self)
    (sym c.in-Push.is)
    c.answer_push.ensures.acts

pub returns-in-Pop-clause-acts : goal.returns-in-Pop-clause-acts
returns-in-Pop-clause-acts c =
    subst (λ (k : Kind). Acts k c.answer_pop.result c.args.self.now c.answer_pop.new.self)
    (sym c.in-Pop.is)
    c.answer_pop.ensures.acts

pub returns-in-Some-clause-acts : goal.returns-in-Some-clause-acts
returns-in-Some-clause-acts c =
    let d = c.in-Define in
    subst (λ (k : Kind). Acts k c.define.result c.args.self.now c.define.new.self)
    (sym (d.is ∙ ap (kind.Define d.name d.count d.name_place) c.in-Some.is))
    c.define.ensures.acts

pub returns-in-None-clause-acts : goal.returns-in-None-clause-acts
returns-in-None-clause-acts c =
    let d = c.in-Define in
    subst (λ (k : Kind). Acts k report.Done c.args.self.now c.args.self.now)
    (sym (d.is ∙ ap (kind.Define d.name d.count d.name_place) c.in-None.is))
    (rests_here c.args.self.now)

pub returns-in-Prompt-clause-acts : goal.returns-in-Prompt-clause-acts
returns-in-Prompt-clause-acts c =
    subst (λ (k : Kind). Acts k report.Done c.args.self.now c.args.self.now)
    (sym c.in-Prompt.is)
    (rests_here c.args.self.now)

-- ---- goals are counted

pub returns-in-Goal-clause-counted : goal.returns-in-Goal-clause-counted
returns-in-Goal-clause-counted c =
    omega (arith, ap (λ (s : State). s.goals) c.answer_goal.ensures.answers.1)

pub returns-in-Push-clause-counted : goal.returns-in-Push-clause-counted
returns-in-Push-clause-counted c = omega (arith, c.answer_push.ensures.leaves.goals)

pub returns-in-Pop-clause-counted : goal.returns-in-Pop-clause-counted
returns-in-Pop-clause-counted c = omega (arith, c.answer_pop.ensures.leaves.goals)

pub returns-in-Some-clause-counted : goal.returns-in-Some-clause-counted
returns-in-Some-clause-counted c = omega (arith, c.define.ensures.leaves.goals)
