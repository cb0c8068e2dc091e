use Rattle.esc_search.specs.SearchInside.{steps_left}
use Rattle.esc_search.proofs.RoundBegins.{nearer_round, nearer_step}
use Rattle.esc_search.proofs.search.Search.make_round.Goals as goal

pub returns-in-Ok-clause-nearer : goal.returns-in-Ok-clause-nearer
returns-in-Ok-clause-nearer c =
    nearer_step (steps_left c.args.self.now c.args.course.now)
    (steps_left c.add_facts.new.self c.begin_round.new.course)
    (nearer_round c.args.base.now c.args.self.now c.add_facts.new.self c.args.course.now
    c.begin_round.new.course c.add_facts.ensures.kept c.add_facts.ensures.splits
    c.begin_round.ensures.waiting c.in-Ok.ensures.starts c.requires.may) c.add_facts.result
