use Rattle.esc_search.proofs.Given.{levels_kept}
use Rattle.esc_search.proofs.search.Search.assert_given.Goals as goal

pub returns-clause-levels : goal.returns-clause-levels
returns-clause-levels c =
    levels_kept c.args.base.now c.args.self.now c.begin_given.new.self c.begin_given.ensures.kept
