use Rattle.std.proofs.Common.{◌≡◌, ◌-◌, ℕ, ◌<◌, length, take, All, refl, ap, arith, sym, subst, ◌∙◌, vec_len}
use Rattle.std.proofs.lemmas.List.{length-take, take_all}
use Rattle.std.proofs.lemmas.List.Elements.{All-take}
use Rattle.esc_egraph.specs.PartsInside.{graph_in}
use Rattle.esc_egraph.specs.SidesInside.{IsSided}
use Rattle.esc_egraph.proofs.PairSteps.{within_entries}
use Rattle.esc_egraph.proofs.Sound.{sound_paired}
use Rattle.esc_egraph.proofs.parts.Parts.back_forbidden.Goals as goal
use Rattle.esc_egraph.proofs.parts.Parts.back_forbidden.Goals.{After-pop}

left : (c : After-pop) → c.pop.new.self.items ≡ take (length c.args.self.now.forbidden.items - 1)
    c.args.self.now.forbidden.items
left c =
    c.pop.ensures.rest ∙ ap (λ k. take k c.args.self.now.forbidden.items)
    (let e : vec_len c.args.self.now.forbidden - 1
    ≡ length c.args.self.now.forbidden.items - 1 = omega (arith, c.args.self.now.forbidden.ok.0)
    in e)

count : (c : After-pop) → (k : ℕ) → k ≡ vec_len c.pop.new.self → k
    ≡ length c.args.self.now.forbidden.items - 1
count c k k_is =
    omega (
      arith,
      k_is,
      c.pop.new.self.ok.0,
      ap length (left c),
      length-take (length c.args.self.now.forbidden.items - 1) c.args.self.now.forbidden.items,
    )

pub back_to-requires : goal.back_to-requires
back_to-requires c = within_entries c.args.self.now.classes.merges
    c.args.self.now.forbidden.items c.args.self.now.sides c.requires.sound.sided

pub returns-clause-sound : goal.returns-clause-sound
returns-clause-sound c =
    let d = (goal.at.returns-clause-sound c).After-pop in
    sound_paired c.args.self.now _ c.requires.sound
    (subst (λ ps. All (λ (x : ℕ × ℕ). (x.0 < length c.args.self.now.nodes)
    × (x.1 < length c.args.self.now.nodes)) ps) (sym (left d))
    (All-take (λ (x : ℕ × ℕ). (x.0 < length c.args.self.now.nodes)
    × (x.1 < length c.args.self.now.nodes)) (length c.args.self.now.forbidden.items - 1)
    c.args.self.now.forbidden.items c.requires.sound.graph.paired))
    refl refl
    (subst (λ ms. IsSided ms c.pop.new.self.items c.back_to.new.self)
    (take_all (length c.merges.result.now) c.args.self.now.classes.merges
    (omega (arith, ap length c.merges.ensures)))
    (subst (λ ps. IsSided (take (length c.merges.result.now) c.args.self.now.classes.merges) ps
    c.back_to.new.self)
    (ap (λ k. take k c.args.self.now.forbidden.items)
    (count d c.len-pairs.result c.len-pairs.ensures) ∙ sym (left d))
    (c.back_to.ensures c.args.self.now.classes.merges c.args.self.now.forbidden.items
    c.requires.sound.sided))) refl refl refl refl refl

pub returns-clause-back : goal.returns-clause-back
returns-clause-back c = ap (λ ps. record (graph_in c.args.self.now) { forbidden = ps })
    (left (goal.at.returns-clause-back c).After-pop)
