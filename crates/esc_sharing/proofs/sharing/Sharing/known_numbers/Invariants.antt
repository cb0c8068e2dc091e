use Rattle.esc_sharing.proofs.KnownNumbers.{AreListed}
use Rattle.esc_sharing.proofs.sharing.Sharing.known_numbers.Given as goal

abbrev pub invariant-numbers : goal.invariant-numbers
invariant-numbers g l = AreListed l.fn.self.graph (g.T.Theory.numbers l.fn.self.theory) l.before
    l.place l.known.items
