use Rattle.esc_standing.proofs.Surveys.{ready_is, standing_is}
use Rattle.esc_standing.proofs.survey.survey_of.Goals as goal

pub returns-clause-standing : goal.returns-clause-standing
returns-clause-standing c =
    standing_is c.args.base.now c.args.graph.now c.args.log.now c.args.live.now
    c.in_ok-found.found c.in_ok-found.ensures c.in_ok-literals.literals c.args.items.now
    c.in_ok-literals.ensures c.requires.graph c.requires.nodes

pub returns-clause-ready : goal.returns-clause-ready
returns-clause-ready c =
    ready_is c.args.base.now c.args.graph.now c.args.log.now c.args.live.now
    c.in_ok-found.found c.in_ok-found.ensures c.in_ok-literals.literals c.args.items.now
    c.in_ok-literals.ensures c.kept_laws.ensures.triggers c.requires.closed
    c.requires.closed_classes
