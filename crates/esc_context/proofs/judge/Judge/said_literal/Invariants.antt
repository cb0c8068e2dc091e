use Rattle.std.proofs.Common.{◌≡◌, true, false, take}
use Rattle.esc_cover.specs.Cover.{is_literal}
use Rattle.esc_context.specs.JudgingInside.{literals_for}
use Rattle.esc_context.proofs.judge.Judge.said_literal.Given as goal

abbrev pub invariant-literals : goal.invariant-literals
invariant-literals l =
    (l.said.holds ≡ is_literal (take l.literal-index (literals_for l.fn.self)) l.fn.formula true)
    × (l.said.fails ≡ is_literal (take l.literal-index (literals_for l.fn.self)) l.fn.formula false)
