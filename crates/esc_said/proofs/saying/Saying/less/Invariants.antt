use Rattle.std.proofs.Common.{◌≡◌, true, false, take}
use Rattle.std.specs.List.{list_any}
use Rattle.esc_said.specs.SayingInside.{tells_order}
use Rattle.esc_said.proofs.saying.Saying.less.Given as goal

abbrev pub invariant-literals : goal.invariant-literals
invariant-literals l =
    (l.said.holds ≡ list_any (tells_order l.a l.b true) (take l.literal-index l.self.asserted.now))
    × (l.said.fails
    ≡ list_any (tells_order l.a l.b false) (take l.literal-index l.self.asserted.now))
