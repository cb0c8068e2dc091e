use Rattle.esc_search.proofs.BackTo.{kept_both}
use Rattle.esc_search.proofs.search.Search.become_live.Goals as goal

pub returns-in-Ok-Open-clause-kept : goal.returns-in-Ok-Open-clause-kept
returns-in-Ok-Open-clause-kept c =
    kept_both c.args.base.now c.args.self.now c.assert_at.new.self c.refine_here-refined.new.self
    c.assert_at.ensures.kept c.refine_here-refined.ensures.kept
