use Rattle.esc_sharing.proofs.MissedPairs.{AreMixedTo}
use Rattle.esc_sharing.proofs.missed.mix_keys.Given as goal

abbrev pub invariant-keys : goal.invariant-keys
invariant-keys l = AreMixedTo l.simplex l.numbers l.columns.items l.fn.keys l.place l.keys
