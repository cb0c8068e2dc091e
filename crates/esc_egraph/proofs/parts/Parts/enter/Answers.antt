use Rattle.std.proofs.Common.{refl}
use Rattle.esc_egraph.proofs.Settled.{whole_longer}
use Rattle.esc_egraph.proofs.Sound.{sound_entered}
use Rattle.esc_egraph.proofs.parts.Parts.enter.Goals as goal

pub returns-in_ok-push-clause-sound : goal.returns-in_ok-push-clause-sound
returns-in_ok-push-clause-sound c =
    sound_entered c.args.self.now _ (c.in-Some.key, c.args.node) c.requires.sound c.requires.there
    refl refl refl refl refl refl c.in_ok-push.ensures.ok refl refl
    (λ w. whole_longer c.args.self.now.nodes c.args.self.now.classes.merges c.args.self.now.table
    (c.in-Some.key, c.args.node) (c.requires.sound.tabled w))
