use Rattle.esc_search.proofs.FrontFacts.{begun_ready}
use Rattle.esc_search.proofs.BackTo.{kept_both}
use Rattle.esc_search.proofs.search.Search.begin.Goals as goal

pub log_all-requires-clause-begun : goal.log_all-requires-clause-begun
log_all-requires-clause-begun c = begun_ready c.args.base.now c.args.self.now c.requires.ready

pub returns-in-Ok-clause-kept : goal.returns-in-Ok-clause-kept
returns-in-Ok-clause-kept c =
    kept_both c.args.base.now c.args.self.now c.log_all.new.self c.assert_all.new.self
    c.log_all.ensures.kept c.assert_all.ensures.kept
