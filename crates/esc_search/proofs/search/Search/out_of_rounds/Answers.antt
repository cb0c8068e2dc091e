use Rattle.std.proofs.Common.{◌∙◌}
use Rattle.esc_search.proofs.LimitsMet.{rounds_told_of}
use Rattle.esc_search.proofs.search.Search.out_of_rounds.Goals as goal

pub returns : goal.returns
returns c =
    rounds_told_of c.args.base.now c.args.self.now c.args.course.now c.requires.search
    c.requires.here c.unquantified_laws.ensures.least c.args.next.now c.args.rest.now
    c.requires.quiet c.requires.round c.requires.spent c.in_ok-branch.branch c.in_ok-live.live
    c.in_ok-literals.literals c.in_ok-starts.starts c.in_ok-next.next c.in_ok-branch.ensures
    c.in_ok-live.ensures c.in_ok-literals.ensures (c.in_ok-starts.ensures ∙ c.as_slice.ensures)
    c.in_ok-next.ensures
