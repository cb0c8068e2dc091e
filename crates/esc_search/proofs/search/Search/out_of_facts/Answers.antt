use Rattle.esc_search.proofs.LimitsMet.{facts_told}
use Rattle.esc_search.proofs.search.Search.out_of_facts.Goals as goal

pub returns : goal.returns
returns c =
    facts_told c.args.base.now c.args.self.now c.args.course.now c.args.fact.now
    c.args.coming.now c.requires.here.0 c.requires.here.1 c.requires.new c.in_ok-branch.branch
    c.in_ok-next.next c.in_ok-branch.ensures c.in_ok-next.ensures c.requires.spent
