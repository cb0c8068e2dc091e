use Rattle.std.proofs.Common.{pos, zero-lt-suc, []}
use Rattle.esc_term.specs.Term.{truth_term}
use Rattle.esc_sharing.specs.Shared.{seen}
use Rattle.esc_sharing.proofs.Starting.{starts}
use Rattle.esc_sharing.proofs.sharing.Sharing.new.Goals as goal

pub returns-clause-shared : goal.returns-clause-shared
returns-clause-shared g c =
    starts (seen g.T.Theory.sound g.T.Theory.admits g.T.Theory.numbers _) truth_term
    c.in_ok-graph.ensures.graph c.in_ok-graph.ensures.met c.in_ok-graph.ensures.terms
    c.in_ok-graph.ensures.forbidden c.new.ensures c.new-2.ensures c.new-3.ensures
    c.requires.numbers c.requires.admits c.requires.sound
    (record { denominator = 1; positive = zero-lt-suc 0; numerator = λ t. pos 0 })
