use Rattle.std.proofs.Common.{ap}
use Rattle.esc_book.specs.Book.{BookView}
use Rattle.esc_live.proofs.LoggedMore.{logged_branch, logged_given, logged_rest, logged_sound}
use Rattle.esc_live.proofs.LoggedMore.{one_of}
use Rattle.esc_live.proofs.branch.LiveBranch.log.Goals as goal

pub returns-clause-rest : goal.returns-clause-rest
returns-clause-rest c =
    logged_rest c.args.self.now c.args.formula c.log.new.self
    (one_of c.log.result c.log.ensures.ok c.log.ensures.err)

pub returns-clause-branch : goal.returns-clause-branch
returns-clause-branch c is =
    logged_branch c.args.self.now c.args.formula c.log.new.self
    (one_of c.log.result c.log.ensures.ok c.log.ensures.err) c.requires.closed is

pub returns-clause-given : goal.returns-clause-given
returns-clause-given c given =
    logged_given c.args.self.now c.args.formula c.log.new.self
    (one_of c.log.result c.log.ensures.ok c.log.ensures.err) given

pub returns-clause-sound : goal.returns-clause-sound
returns-clause-sound c is M so =
    logged_sound c.args.self.now c.args.formula c.log.new.self
    (one_of c.log.result c.log.ensures.ok c.log.ensures.err) is M so
