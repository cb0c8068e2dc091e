use Rattle.esc_search.proofs.LimitsMet.{splits_told}
use Rattle.esc_search.proofs.search.Search.out_of_splits.Goals as goal

pub returns : goal.returns
returns c =
    splits_told c.args.base.now c.args.self.now c.args.course.now c.requires.search
    c.requires.here c.in_ok-branch.branch c.args.at c.in_ok-branch.ensures c.requires.quiet
    c.requires.saturated c.requires.next c.requires.splits c.requires.spent
