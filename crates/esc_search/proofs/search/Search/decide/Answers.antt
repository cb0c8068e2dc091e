use Rattle.std.proofs.Common.{[], ◌∷◌, ◌++◌}
use Rattle.esc_live.specs.Calls.{HoldsWithDecision}
use Rattle.esc_search.proofs.Reaching.{decided_on_ok, kept_on, reached}
use Rattle.esc_search.proofs.search.Search.decide.Goals as goal

pub returns-clause-reaches : goal.returns-clause-reaches
returns-clause-reaches c =
    reached c.args.base.now c.args.self.now c.decide.new.self c.decide.new.trail
    c.args.course.now c.requires.search c.decide.ensures.undo c.decide.ensures.goes_on
    c.decide.ensures.given []
    (HoldsWithDecision c.args.self.now.branch (record { at = c.args.at; holds = c.args.holds }))
    c.requires.ready.gathered c.requires.ready.so c.decide.result
    (decided_on_ok c.args.self.now c.decide.new.self
    (c.args.self.now.branch.clauses.decisions
    ++ record { at = c.args.at; holds = c.args.holds } ∷ [])
    c.decide.result c.decide.ensures.decided c.requires.ready.decided)
    c.decide.ensures.ends

pub returns-clause-kept : goal.returns-clause-kept
returns-clause-kept c =
    kept_on c.args.base.now c.args.self.now c.decide.new.self c.decide.new.trail
    c.args.course.now c.requires.search c.decide.ensures.undo c.decide.ensures.goes_on
    c.decide.ensures.given
