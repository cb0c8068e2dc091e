use Rattle.esc_search.proofs.Given.{back_tallied, comes_tallied, levels_kept}
use Rattle.esc_search.proofs.search.Search.prove.Goals as goal

pub returns-clause-comes : goal.returns-clause-comes
returns-clause-comes c =
    comes_tallied c.args.base.now c.seek-outcome.new.self c.raise.new.self c.seek-outcome.result
    c.seek-outcome.ensures.comes

pub returns-clause-levels : goal.returns-clause-levels
returns-clause-levels c t back =
    back_tallied c.seek-outcome.new.self c.raise.new.self t
    (levels_kept c.args.base.now c.args.self.now c.seek-outcome.new.self
    c.seek-outcome.ensures.kept t back)
