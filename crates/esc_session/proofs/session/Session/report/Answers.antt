use Rattle.std.proofs.Common.{◌≡◌, ◌∙◌, None, ap, refl, subst, sym}
use Rattle.esc_term.specs.Refuted.{Refuted}
use Rattle.esc_fact.specs.Legal.{IsClosedBase}
use Rattle.esc_fact.specs.declared.base.Base.{Base}
use Rattle.esc_report.specs.Goals.{base_of}
use Rattle.esc_search.specs.Proving.{IsReady}
use Rattle.esc_session.specs.declared.session.Session.{Session}
use Rattle.esc_session.proofs.Goals.{goal_between, goal_closed, goal_ready, goal_refuted}
use Rattle.esc_session.proofs.session.Session.report.Goals as goal

pub sought-report-requires-clause-closed : goal.sought-report-requires-clause-closed
sought-report-requires-clause-closed c =
    let s = c.args.self.now in
    let asked : c.ask.new.base ≡ base_of s.base.background c.args.formula =
    c.ask.ensures ∙ ap (base_of s.base.background) c.in_ok-new.ensures in
    subst IsClosedBase (sym asked)
    (goal_closed s c.requires.between c.args.formula c.requires.closed)

pub sought-report-requires-clause-refuted : goal.sought-report-requires-clause-refuted
sought-report-requires-clause-refuted c is =
    let s = c.args.self.now in
    subst (λ (base : Base). Refuted base.background) (sym c.ask.ensures)
    (goal_refuted s c.requires.between c.refutation_laws.ensures.more
    (sym c.has_closed-closed.ensures ∙ is))

pub sought-report-requires-clause-ready : goal.sought-report-requires-clause-ready
sought-report-requires-clause-ready c is =
    let s = c.args.self.now in
    let asked : c.ask.new.base ≡ base_of s.base.background c.args.formula =
    c.ask.ensures ∙ ap (base_of s.base.background) c.in_ok-new.ensures in
    subst (λ (base : Base). IsReady base s.search) (sym asked)
    (goal_ready s c.requires.between c.search_laws.ensures.ready c.args.formula
    (sym c.has_closed-closed.ensures ∙ is))

pub returns-clause-between : goal.returns-clause-between
returns-clause-between c =
    let s = c.args.self.now in
    let left : Session = record s {
      base = c.ask-2.new.base;
      search = c.sought-report.new.search;
    } in
    let base : c.ask-2.new.base ≡ record { background = s.base.background; negated = None } =
    c.ask-2.ensures
    ∙ ap (λ (base : Base). record base { negated = None }) c.ask.ensures in
    goal_between s c.requires.between left base refl refl c.sought-report.ensures.again
