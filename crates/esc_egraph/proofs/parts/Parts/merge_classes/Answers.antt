use Rattle.std.proofs.Common.{◌≡◌, ◌+◌, ◌-◌, ◌<◌, [], ◌∷◌, ◌++◌, length, get_or, set, refl, ap, sym, subst, arith, ◌∙◌}
use Rattle.std.proofs.lemmas.Grind.{common_steps}
use Rattle.std.proofs.lemmas.List.{get_or_default}
use Rattle.esc_union.specs.Merges.{AreMerges, Merged, class_number}
use Rattle.esc_union.specs.Members.{members_of}
use Rattle.esc_egraph.specs.SidesInside.{IsSided}
use Rattle.esc_egraph.proofs.Numerals.{members_then, placed}
use Rattle.esc_egraph.proofs.Sound.{sound_merged, sound_sided}
use Rattle.esc_egraph.proofs.parts.Parts.merge_classes.Goals as goal
use Rattle.esc_egraph.proofs.parts.Parts.merge_classes.Goals.{After-members-all}

pub merge_sided-requires-clause-sided : goal.merge_sided-requires-clause-sided
merge_sided-requires-clause-sided c = rw c.as_slice.ensures.value c.requires.sound.sided

pub merge_sided-requires-clause-merged : goal.merge_sided-requires-clause-merged
merge_sided-requires-clause-merged c =
    subst (λ n. AreMerges n c.args.self.now.classes.merges) (sym c.requires.sound.as_many)
    c.requires.sound.graph.merged

pub returns-in_err-merge_sided-clause-sound : goal.returns-in_err-merge_sided-clause-sound
returns-in_err-merge_sided-clause-sound c =
    sound_sided c.args.self.now _ c.requires.sound refl c.in_err-merge_sided.ensures.err refl
    (subst (λ ps. IsSided c.args.self.now.classes.merges ps c.merge_sided.new.sides)
    c.as_slice.ensures.value c.in_err-merge_sided.ensures.kept) refl refl refl
    c.reserve.ensures.items refl

more : (c : After-members-all) → length c.members-all.result.now
    ≡ length (members_of c.args.self.now.classes.merges
    (class_number c.args.self.now.classes.merges c.args.into)) + length c.members-moved.result.now
more c =
    members_then c.args.self.now.nodes c.args.self.now.classes.merges (c.args.from, c.args.into)
    c.args.self.now.numerals.items
    c.requires.sound.graph.merged c.requires.from_is_there c.requires.into_is_there c.requires.apart
    (length c.members-all.result.now) 0 (length c.members-moved.result.now)
    (ap length c.members-all.ensures.list ∙ ap (λ (h : Merged). length
    (members_of h.merges (class_number h.merges c.args.into))) c.in_ok-merge_sided.ensures.ok)
    (ap length c.members-moved.ensures.list)

pub overflow_sub-all : goal.overflow_sub-all
overflow_sub-all c = omega (arith, more (goal.at.overflow_sub-all c).After-members-all)

pub returns-clause-sound : goal.returns-clause-sound
returns-clause-sound c =
    let d = (goal.at.returns-clause-sound c).After-members-all in
    let ms = c.args.self.now.classes.merges in
    let large : c.root-large.result ≡ class_number c.args.self.now.classes.merges c.args.into
    = c.root-large.ensures.root in
    let low : c.root-large.result < length c.args.self.now.numerals.items =
    omega (
      arith,
      c.root-large.ensures.there,
      c.requires.sound.as_many,
      c.requires.sound.numbered.as_many,
    ) in
    let low_too : c.root-small.result < length c.args.self.now.numerals.items =
    omega (
      arith,
      c.root-small.ensures.there,
      c.requires.sound.as_many,
      c.requires.sound.numbered.as_many,
    ) in
    let e1 : c.index-2.result.now ≡ get_or c.args.self.now.numerals.items
    (class_number c.args.self.now.classes.merges c.args.into) 0 =
    c.index-2.ensures ∙ (ap (λ i. get_or c.args.self.now.numerals.items i c.index-2.result.now)
    c.index.ensures
    ∙ (get_or_default c.args.self.now.numerals.items c.root-large.result c.index-2.result.now 0 low
    ∙ ap (λ i. get_or c.args.self.now.numerals.items i 0) large)) in
    let e2 : c.index-4.result.now ≡ get_or c.args.self.now.numerals.items
    (class_number c.args.self.now.classes.merges c.args.from) 0 =
    c.index-4.ensures ∙ (ap (λ i. get_or c.args.self.now.numerals.items i c.index-4.result.now)
    c.index-3.ensures
    ∙ (get_or_default c.args.self.now.numerals.items c.root-small.result c.index-4.result.now 0
    low_too ∙ ap (λ i. get_or c.args.self.now.numerals.items i 0) c.root-small.ensures.root)) in
    let e4 : length c.members-moved.result.now ≡ length
    (members_of c.args.self.now.classes.merges
    (class_number c.args.self.now.classes.merges c.args.from)) =
    ap length c.members-moved.ensures.list in
    let e3 : length c.members-all.result.now - length c.members-moved.result.now
    ≡ length (members_of c.args.self.now.classes.merges
    (class_number c.args.self.now.classes.merges c.args.into)) =
    omega (arith, more d) in
    let steps : c.push.new.self.items ≡ c.args.self.now.steps.items
    ++ (c.in_ok-step.step ∷ []) = grind (arith, common_steps) in
    sound_merged c.args.self.now _ (c.args.from, c.args.into) c.first_place-place.result
    c.in_ok-step.step c.requires.sound
    c.requires.from_is_there c.requires.into_is_there c.requires.apart
    (placed c.first_place-place.result _ _ _ _ _ _ _ _ c.first_place-place.ensures e1 e2 e3 e4)
    c.in_ok-step.ensures refl c.in_ok-merge_sided.ensures.ok refl
    (subst (λ ps. IsSided (c.args.self.now.classes.merges ++ ((c.args.from, c.args.into) ∷ [])) ps
    c.merge_sided.new.sides) c.as_slice.ensures.value c.in_ok-merge_sided.ensures.sided)
    (ap (λ i. set c.args.self.now.numerals.items i c.first_place-place.result) (c.index-5.ensures
    ∙ large)) refl refl steps refl
