use Rattle.std.proofs.Common.{List, take}
use Rattle.esc_term.specs.declared.formula.Item.{Item}
use Rattle.esc_said.specs.SayingInside.{unlike_each}
use Rattle.esc_said.specs.Speaking.{SaysAs, SpeaksFor}
use Rattle.esc_said.proofs.saying.Saying.unlike.Given as goal

abbrev pub invariant-others : goal.invariant-others
invariant-others l = (literals : List Item) → SpeaksFor l.self literals
    → SaysAs l.said (unlike_each literals l.self.graph.now l.a (take l.other-index l.others))
