use Rattle.std.proofs.Common.{◌≡◌, ◌∙◌, ap, ap₂, map, subst, subst₂, sym}
use Rattle.std.specs.Prelude.{IfOk}
use Rattle.std.specs.List.{All}
use Rattle.esc_egraph.specs.Graph.{IsGraph}
use Rattle.esc_live.specs.View.{literals_on}
use Rattle.esc_rounds.specs.Branch.{IsStanding}
use Rattle.esc_rounds.specs.Facts.{fact_of}
use Rattle.esc_rounds.specs.Standing.{IsDrawable, IsReady, Standing, standing_of}
use Rattle.esc_standing.specs.Standing.{standing_in}
use Rattle.esc_search.specs.Proving.{live_facts}
use Rattle.esc_search.proofs.NextRound.{next_here}
use Rattle.esc_search.proofs.search.Search.next_round.Goals as goal

pub round-requires : goal.round-requires
round-requires c =
    subst₂ IsReady (sym (c.branch-branch.ensures
    ∙ ap (λ g. standing_in g c.in_ok-survey.survey) c.graph-graph.ensures)) (sym c.live.ensures)
    c.in_ok-survey.ensures.ready

pub facts_of-requires-clause-graph : goal.facts_of-requires-clause-graph
facts_of-requires-clause-graph c =
    subst IsGraph (sym c.graph-graph.ensures) c.requires.here.branch.shared.shared.parts.graph

pub facts_of-requires-clause-drawable : goal.facts_of-requires-clause-drawable
facts_of-requires-clause-drawable c =
    let t : Standing = standing_of c.branch-branch.result in
    subst₂ (λ g draws. All (IsDrawable g t.formulas) draws)
    (ap (λ (x : Standing). x.graph) c.branch-branch.ensures) (sym c.as_slice.ensures)
    c.in_ok-draws.ensures.drawable

pub returns : goal.returns
returns c =
    let self = c.args.self.now in
    let t : Standing = standing_of c.branch-branch.result in
    let graph = ap (λ (x : Standing). x.graph) c.branch-branch.ensures in
    let stands = sym (c.branch-branch.ensures
    ∙ ap (λ g. standing_in g c.in_ok-survey.survey) c.graph-graph.ensures) in
    next_here c.args.base.now self c.args.course.now c.requires.search c.requires.here
    c.unquantified_laws.ensures.least t c.live.result.now (graph ∙ c.graph-graph.ensures)
    (subst₂ (IsStanding c.args.base.now (live_facts self) (literals_on self.branch)) stands
    (sym c.live.ensures) c.in_ok-survey.ensures.standing)
    (subst₂ IsReady stands (sym c.live.ensures) c.in_ok-survey.ensures.ready)
    c.in_ok-draws.draws c.in_ok-draws.ensures.round c.facts_of.result
    (subst (λ list. IfOk c.facts_of.result (λ facts. facts ≡ list))
    (ap₂ (λ g draws. map (fact_of g t.formulas) draws) (sym graph) c.as_slice.ensures)
    c.facts_of.ensures)
