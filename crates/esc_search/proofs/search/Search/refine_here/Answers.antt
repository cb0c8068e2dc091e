use Rattle.esc_live.specs.Promises.{IsSoundIn}
use Rattle.esc_search.proofs.Reaching.{decided_still, kept_on, reached}
use Rattle.esc_search.proofs.search.Search.refine_here.Goals as goal

pub returns-clause-reaches : goal.returns-clause-reaches
returns-clause-reaches c =
    reached c.args.base.now c.args.self.now c.refine.new.branch c.refine.new.trail
    c.args.course.now c.requires.here.0 c.refine.ensures.undo c.refine.ensures.goes_on
    c.refine.ensures.given c.args.coming.now
    (λ M. IsSoundIn M c.args.self.now.branch) c.requires.here.1.gathered
    c.requires.here.1.sound
    c.refine.result
    (λ is. decided_still c.args.self.now c.refine.new.branch c.refine.ensures.goes_on
    c.requires.here.1.decided)
    c.refine.ensures.ends

pub returns-clause-kept : goal.returns-clause-kept
returns-clause-kept c =
    kept_on c.args.base.now c.args.self.now c.refine.new.branch c.refine.new.trail
    c.args.course.now c.requires.here.0 c.refine.ensures.undo c.refine.ensures.goes_on
    c.refine.ensures.given
