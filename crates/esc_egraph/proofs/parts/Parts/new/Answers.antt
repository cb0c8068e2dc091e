use Rattle.esc_egraph.proofs.Sound.{sound_empty}
use Rattle.esc_egraph.proofs.parts.Parts.new.Goals as goal

pub returns-clause-sound : goal.returns-clause-sound
returns-clause-sound c =
    sound_empty _ c.new.ensures c.new-2.ensures c.new-3.ensures.items c.new-4.ensures
    c.new-5.ensures.items c.new-6.ensures c.new-7.ensures c.new-8.ensures.items
