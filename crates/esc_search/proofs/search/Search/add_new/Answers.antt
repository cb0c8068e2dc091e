use Rattle.esc_search.proofs.BackTo.{kept_both}
use Rattle.esc_search.proofs.search.Search.add_new.Goals as goal

pub returns-in-Ok-clause-kept : goal.returns-in-Ok-clause-kept
returns-in-Ok-clause-kept c =
    kept_both c.args.base.now c.args.self.now c.log_copy.new.self c.become_live.new.self
    c.log_copy.ensures.kept c.become_live.ensures.kept
