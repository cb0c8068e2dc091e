use Rattle.esc_search.proofs.AssertNext.{asserted_kept, asserts_next, next_new, next_there}
use Rattle.esc_search.proofs.search.Search.assert_at.Goals as goal

pub assert-requires-clause-there : goal.assert-requires-clause-there
assert-requires-clause-there c =
    next_there c.args.base.now c.args.self.now c.args.course.now c.args.fact.now
    c.args.coming.now c.requires.here.0 c.requires.here.1 c.args.place c.requires.there

pub assert-requires-clause-new : goal.assert-requires-clause-new
assert-requires-clause-new c =
    next_new c.args.base.now c.args.self.now c.args.course.now c.args.fact.now
    c.args.coming.now c.requires.here.0 c.requires.here.1 c.args.place c.requires.there

pub returns-clause-reaches : goal.returns-clause-reaches
returns-clause-reaches c =
    asserts_next c.args.base.now c.args.self.now c.args.course.now c.args.fact.now
    c.args.coming.now c.requires.here.0 c.requires.here.1 c.args.place c.requires.there
    c.assert.new.self c.assert.new.trail c.assert.ensures.given c.assert.ensures.logged
    c.assert.ensures.limit c.assert.ensures.literals c.assert.ensures.decisions
    c.assert.ensures.undo c.assert.result c.assert.ensures.ends c.assert.ensures.live
    c.assert.ensures.stop

pub returns-clause-kept : goal.returns-clause-kept
returns-clause-kept c =
    asserted_kept c.args.base.now c.args.self.now c.args.course.now c.args.fact.now
    c.args.coming.now c.requires.here.0 c.requires.here.1 c.args.place c.requires.there
    c.assert.new.self c.assert.new.trail c.assert.ensures.given c.assert.ensures.logged
    c.assert.ensures.limit c.assert.ensures.literals c.assert.ensures.decisions
    c.assert.ensures.undo c.assert.ensures.means
