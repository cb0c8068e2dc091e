use Rattle.std.proofs.Common.{subst}
use Rattle.std.proofs.lemmas.List.{take_all}
use Rattle.esc_rounds.specs.ListingInside.{AreKeysOf}
use Rattle.esc_rounds.proofs.Steps.{keys_more}
use Rattle.esc_rounds.proofs.listing.live_keys.Goals as goal

pub live-preserved : goal.live-preserved
live-preserved c =
    keys_more c.args.graph.now c.args.live.now c.live.draw-index c.draw-item.result c.live.keys.keys
    c.insert.new.self.keys c.in_ok-key_of.field-0 c.live-test.true c.draw-item.is
    c.in_ok-key_of.ensures c.in_ok-insert.ensures.keys c.live.invariant

pub returns : goal.returns
returns c =
    subst (λ ds. AreKeysOf c.args.graph.now ds c.live.keys.keys)
    (take_all c.live.draw-index c.args.live.now c.live-test.false) c.live.invariant
