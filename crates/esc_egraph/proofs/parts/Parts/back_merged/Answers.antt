use Rattle.std.proofs.Common.{◌≡◌, ◌-◌, length, take, refl, ap, arith, sym, subst, ◌∙◌}
use Rattle.std.proofs.lemmas.List.{length-take, take_all}
use Rattle.esc_union.specs.Merges.{Merged}
use Rattle.esc_egraph.specs.SidesInside.{IsSided}
use Rattle.esc_egraph.proofs.PairSteps.{within_entries}
use Rattle.esc_egraph.proofs.Sound.{sound_back_merged, within_table}
use Rattle.esc_egraph.proofs.parts.Parts.back_merged.Goals as goal

pub take_back-self-requires : goal.take_back-self-requires
take_back-self-requires c = within_table c.args.self.now.nodes c.args.self.now.classes.merges
    c.args.self.now.table c.args.self.now.steps.items c.requires.sound.stepped

pub back_to-requires : goal.back_to-requires
back_to-requires c = within_entries c.args.self.now.classes.merges c.args.self.now.forbidden.items
    c.args.self.now.sides c.requires.sound.sided

pub returns-clause-sound : goal.returns-clause-sound
returns-clause-sound c =
    let left : length c.merges.result.now ≡ length c.args.self.now.classes.merges - 1 =
    omega (
      arith,
      ap length c.merges.ensures,
      ap (λ (h : Merged). length h.merges) c.unmerge.ensures,
      length-take (length c.args.self.now.classes.merges - 1) c.args.self.now.classes.merges,
    ) in
    sound_back_merged c.args.self.now _ c.count-nodes.result (length c.merges.result.now)
    c.requires.sound c.count-nodes.ensures.count c.requires.can left refl
    (c.unmerge.ensures ∙ ap (λ k. record c.args.self.now.classes
    { merges = take k c.args.self.now.classes.merges }) (sym left)) refl
    (subst (λ ps. IsSided (take (length c.merges.result.now) c.args.self.now.classes.merges) ps
    c.back_to.new.self) (take_all c.len.result c.args.self.now.forbidden.items
    (omega (arith, c.len.ensures, c.args.self.now.forbidden.ok.0)))
    (c.back_to.ensures c.args.self.now.classes.merges c.args.self.now.forbidden.items
    c.requires.sound.sided)) refl refl
    c.take_back-self.ensures
