use Rattle.esc_search.proofs.RoundBegins.{round_amid}
use Rattle.esc_search.proofs.search.Search.begin_round.Goals as goal

pub returns-clause-here : goal.returns-clause-here
returns-clause-here c =
    round_amid c.rounding_laws.ensures.follow c.rounding_laws.ensures.within
    c.rounding_laws.ensures.matched c.args.base.now c.args.self.now c.args.course.now
    c.args.list.now c.requires.here.0 c.requires.here.1 c.requires.round c.requires.some
    c.requires.may _ _ c.live_count-facts.ensures c.literal_count-literals.ensures _ c.in_ok-push.ensures.ok
