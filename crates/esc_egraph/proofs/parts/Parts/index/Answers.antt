use Rattle.std.proofs.Common.{ℕ, ◌<◌, All, refl, sym, subst}
use Rattle.esc_union.specs.Merges.{AreMerges}
use Rattle.esc_egraph.specs.SidesInside.{IsSided}
use Rattle.esc_egraph.proofs.Sound.{sound_indexed, sound_sided}
use Rattle.esc_egraph.proofs.parts.Parts.index.Goals as goal

pub index-requires-clause-merged : goal.index-requires-clause-merged
index-requires-clause-merged c =
    subst (λ n. AreMerges n c.args.self.now.classes.merges) (sym c.requires.as_many)
    c.requires.graph.merged

pub index-requires-clause-sided : goal.index-requires-clause-sided
index-requires-clause-sided c = rw c.as_slice.ensures.value c.requires.sided

pub index-requires-clause-low : goal.index-requires-clause-low
index-requires-clause-low c =
    rw c.as_slice.ensures.value
    (subst (λ n. All (λ (p : ℕ × ℕ). (p.0 < n) × (p.1 < n)) c.args.self.now.forbidden.items)
    (sym c.requires.as_many) c.requires.graph.paired)

pub returns-in_err-index-clause-sound : goal.returns-in_err-index-clause-sound
returns-in_err-index-clause-sound c =
    sound_sided c.args.self.now _ c.requires refl refl refl
    (subst (λ ps. IsSided c.args.self.now.classes.merges ps c.index.new.self)
    c.as_slice.ensures.value c.index.ensures) refl refl refl refl refl

pub returns-then-self-clause-sound : goal.returns-then-self-clause-sound
returns-then-self-clause-sound c =
    sound_sided c.args.self.now _ c.requires refl refl refl
    (subst (λ ps. IsSided c.args.self.now.classes.merges ps c.index.new.self)
    c.as_slice.ensures.value c.index.ensures) refl refl refl refl refl

pub returns-clause-sound : goal.returns-clause-sound
returns-clause-sound c =
    sound_indexed c.args.self.now _ c.requires refl refl refl
    (subst (λ ps. IsSided c.args.self.now.classes.merges ps c.index.new.self)
    c.as_slice.ensures.value c.index.ensures) refl refl c.clear.ensures.items
    c.enter_all.ensures.low (λ w. c.in_ok-enter_all.ensures.whole)
