use Rattle.std.proofs.Common.{sym, subst}
use Rattle.esc_session.specs.PoppingInside.{DropsOne}
use Rattle.esc_session.proofs.NewestEnds.{ended, ended_between, ended_drops, taken_can_end}
use Rattle.esc_session.proofs.session.Session.drop_newest.Goals as goal

pub end_standing-requires : goal.end_standing-requires
end_standing-requires c =
    let took = c.take_newest-batch in
    record {
      ends = taken_can_end c.args.self.now took.new.self took.result took.ensures.batches
          took.ensures.rest c.requires.between;
    }

pub returns-clause-drops : goal.returns-clause-drops
returns-clause-drops c =
    let took = c.take_newest-batch in
    subst (DropsOne c.args.self.now (ended c.args.self.now took.new.self took.result
    took.ensures.batches took.ensures.rest c.requires.between c.end_standing.new.search
    c.end_standing.ensures.again)) (sym c.is_some-rule.ensures)
    (ended_drops c.args.self.now took.new.self took.result took.ensures.batches
    took.ensures.rest c.requires.between c.end_standing.new.search
    c.end_standing.ensures.again)

pub returns-clause-between : goal.returns-clause-between
returns-clause-between c =
    let took = c.take_newest-batch in
    ended_between c.args.self.now took.new.self took.result took.ensures.batches
    took.ensures.rest c.requires.between c.end_standing.new.search c.end_standing.ensures.again
