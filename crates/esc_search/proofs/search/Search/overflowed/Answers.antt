use Rattle.esc_search.proofs.Stopping.{overflow_told}
use Rattle.esc_search.proofs.search.Search.overflowed.Goals as goal

pub returns-clause-stopped : goal.returns-clause-stopped
returns-clause-stopped c =
    overflow_told c.args.base.now c.args.self.now c.args.stop c.requires.halted
    c.in_ok-branch.branch c.in_ok-stuck.stuck c.in_ok-branch.ensures c.in_ok-stuck.ensures
    c.requires.overflow
