use Rattle.std.proofs.Common.{List}
use Rattle.esc_term.specs.declared.formula.Item.{Item}
use Rattle.esc_said.specs.Speaking.{SpeaksFor}
use Rattle.esc_said.proofs.Unlike.{SaidUpTo}
use Rattle.esc_said.proofs.saying.Saying.distinct.Given as goal

abbrev pub invariant-places : goal.invariant-places
invariant-places l = (literals : List Item) → SpeaksFor l.self literals
    → SaidUpTo l.self.graph.now l.nodes literals l.said l.place
