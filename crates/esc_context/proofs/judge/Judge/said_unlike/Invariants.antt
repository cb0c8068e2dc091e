use Rattle.std.proofs.Common.{◌≡◌, take}
use Rattle.std.specs.List.{list_all, list_any}
use Rattle.esc_cover.specs.Classes.{together}
use Rattle.esc_cover.specs.Cover.{is_forced_apart}
use Rattle.esc_context.specs.JudgingInside.{classes_for, literals_for}
use Rattle.esc_context.proofs.judge.Judge.said_unlike.Given as goal

abbrev pub invariant-others : goal.invariant-others
invariant-others l =
    (l.said.holds ≡ list_all (is_forced_apart (literals_for l.self) (classes_for l.self) l.term)
    (take l.other-index l.others))
    × (l.said.fails ≡ list_any (together (classes_for l.self) l.term)
    (take l.other-index l.others))
