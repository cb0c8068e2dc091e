use Rattle.std.proofs.Common.{◌≡◌, ◌&&◌, ◌||◌, drop}
use Rattle.esc_cover.specs.Classes.{together}
use Rattle.esc_cover.specs.Cover.{every_two, is_forced_apart, some_two}
use Rattle.esc_context.specs.JudgingInside.{classes_for, literals_for}
use Rattle.esc_context.proofs.judge.Judge.said_distinct.Given as goal

abbrev pub invariant-places : goal.invariant-places
invariant-places l =
    ((l.said.holds && every_two (is_forced_apart (literals_for l.self) (classes_for l.self))
    (drop l.place l.terms))
    ≡ every_two (is_forced_apart (literals_for l.self) (classes_for l.self)) l.terms)
    × ((l.said.fails || some_two (together (classes_for l.self)) (drop l.place l.terms))
    ≡ some_two (together (classes_for l.self)) l.terms)
