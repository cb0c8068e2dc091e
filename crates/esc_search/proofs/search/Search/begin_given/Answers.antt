use Rattle.std.proofs.Common.{◌∙◌}
use Rattle.esc_search.proofs.BackTo.{kept_both}
use Rattle.esc_search.proofs.Given.{logs_given}
use Rattle.esc_search.proofs.search.Search.begin_given.Goals as goal

pub returns-in-Ok-clause-log : goal.returns-in-Ok-clause-log
returns-in-Ok-clause-log c =
    logs_given c.args.self.now.log c.assert_given_next.new.self.log c.assert_given_next.result
    (c.assert_given_next.ensures.log ∙ c.in-Ok.ensures.log)

pub returns-in-Ok-clause-kept : goal.returns-in-Ok-clause-kept
returns-in-Ok-clause-kept c =
    kept_both c.args.base.now c.args.self.now c.log_given.new.self c.assert_given_next.new.self
    c.log_given.ensures.kept c.assert_given_next.ensures.kept
