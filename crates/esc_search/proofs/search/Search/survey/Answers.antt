use Rattle.std.proofs.Common.{◌≡◌, ◌<◌, ◌∙◌, Some, ap₂, length, subst, subst₂, sym}
use Rattle.std.specs.Prelude.{IfOk, IsTrue}
use Rattle.std.specs.List.{All, AllZip}
use Rattle.esc_cover.specs.Classes.{active_terms}
use Rattle.esc_nodes.specs.Terms.{terms_of}
use Rattle.esc_egraph.specs.Congruence.{IsCongruence}
use Rattle.esc_egraph.specs.Graph.{IsGraph, number_of}
use Rattle.esc_fact.specs.Fact.{formula_of, formulas_of}
use Rattle.esc_fact.specs.Legal.{HasAtom, IsLegal}
use Rattle.esc_live.specs.View.{literals_on}
use Rattle.esc_rounds.specs.Branch.{IsStanding, is_quantified}
use Rattle.esc_rounds.specs.Standing.{IsReady}
use Rattle.esc_standing.specs.Standing.{live_in, standing_in}
use Rattle.esc_standing.specs.SurveyInside.{facts_at}
use Rattle.esc_search.specs.Proving.{live_facts}
use Rattle.esc_search.proofs.Ending.{legal_here}
use Rattle.esc_search.proofs.NextRound.{live_atoms, live_terms, logged_beside}
use Rattle.esc_search.proofs.search.Search.survey.Goals as goal

pub items-requires-clause-book : goal.items-requires-clause-book
items-requires-clause-book c = c.requires.here.branch.book

pub items-requires-clause-occur : goal.items-requires-clause-occur
items-requires-clause-occur c = c.requires.here.branch.shared.occur

pub items-requires-clause-forms : goal.items-requires-clause-forms
items-requires-clause-forms c = c.requires.here.branch.shared.literals_are.forms

pub survey_of-requires-clause-closed : goal.survey_of-requires-clause-closed
survey_of-requires-clause-closed c = c.requires.search.closed

pub survey_of-requires-clause-formulas : goal.survey_of-requires-clause-formulas
survey_of-requires-clause-formulas c =
    subst₂ (AllZip (λ fact f. formula_of c.args.base.now fact ≡ Some f)) (sym c.list.ensures)
    (sym (c.as_slice.ensures ∙ c.formulas.ensures))
    (logged_beside c.args.base.now c.args.self.now c.args.course.now c.requires.search
    c.requires.here)

pub survey_of-requires-clause-places : goal.survey_of-requires-clause-places
survey_of-requires-clause-places c =
    subst₂ (λ log live. All (λ k. k < length log) live) (sym c.list.ensures) (sym c.live.ensures)
    c.requires.here.gathered.places

pub survey_of-requires-clause-legal : goal.survey_of-requires-clause-legal
survey_of-requires-clause-legal c =
    subst (IsLegal c.args.base.now) (sym (ap₂ facts_at c.list.ensures c.live.ensures))
    (legal_here c.args.base.now c.args.self.now c.args.course.now c.requires.search
    c.requires.here)

pub survey_of-requires-clause-graph : goal.survey_of-requires-clause-graph
survey_of-requires-clause-graph c =
    subst IsGraph (sym c.graph.ensures) c.requires.here.branch.shared.shared.parts.graph

pub survey_of-requires-clause-closed_classes : goal.survey_of-requires-clause-closed_classes
survey_of-requires-clause-closed_classes c =
    subst (λ g. IsCongruence g.nodes (number_of g)) (sym c.graph.ensures)
    c.requires.here.branch.shared.shared.parts.met.closed

pub survey_of-requires-clause-nodes : goal.survey_of-requires-clause-nodes
survey_of-requires-clause-nodes c =
    subst₂ (λ g facts. terms_of g.nodes ≡ active_terms (formulas_of c.args.base.now facts))
    (sym c.graph.ensures) (sym (ap₂ facts_at c.list.ensures c.live.ensures))
    (live_terms c.args.base.now c.args.self.now c.args.course.now c.requires.search
    c.requires.here)

pub survey_of-requires-clause-atoms : goal.survey_of-requires-clause-atoms
survey_of-requires-clause-atoms c =
    subst₂ (λ facts items. All (λ item. IsTrue (is_quantified item)
    → HasAtom c.args.base.now facts item.formula) items)
    (sym (ap₂ facts_at c.list.ensures c.live.ensures))
    (sym (c.as_slice-2.ensures ∙ c.in_ok-items.ensures))
    (live_atoms c.args.base.now c.args.self.now c.args.course.now c.requires.search
    c.requires.here)

pub returns-clause-standing : goal.returns-clause-standing
returns-clause-standing c =
    subst (λ g. IfOk c.survey_of.result (λ survey. IsStanding c.args.base.now
    (live_facts c.args.self.now) (literals_on c.args.self.now.branch)
    (standing_in g survey) (live_in survey))) c.graph.ensures
    (subst₂ (λ facts items. IfOk c.survey_of.result (λ survey. IsStanding c.args.base.now facts
    items (standing_in c.graph.result.now survey) (live_in survey)))
    (ap₂ facts_at c.list.ensures c.live.ensures) (c.as_slice-2.ensures ∙ c.in_ok-items.ensures)
    c.survey_of.ensures.standing)

pub returns-clause-ready : goal.returns-clause-ready
returns-clause-ready c =
    subst (λ g. IfOk c.survey_of.result (λ survey. IsReady (standing_in g survey)
    (live_in survey))) c.graph.ensures c.survey_of.ensures.ready
