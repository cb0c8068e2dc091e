use Rattle.std.proofs.Common.{◌≡◌, ◌+◌, ◌-◌, ◌<◌, length, take, refl, ap, arith, sym, ◌∙◌, vec_len}
use Rattle.std.proofs.lemmas.List.{length-take}
use Rattle.esc_nodes.specs.Nodes.{shape_at}
use Rattle.esc_union.specs.Merges.{Merged}
use Rattle.esc_egraph.specs.PartsInside.{uses_of}
use Rattle.esc_egraph.proofs.Sound.{sound_back_made, uses_fit, uses_back, within_table}
use Rattle.esc_egraph.proofs.parts.Parts.back_made.Goals as goal
use Rattle.esc_egraph.proofs.parts.Parts.back_made.Goals.{After-args-args}

last : (c : After-args-args) → c.new-last.result + 1 ≡ length c.args.self.now.nodes
last c = omega (arith, c.new-last.ensures, c.count.ensures.count, c.requires.can.0)

fits : (c : After-args-args) → length c.args-args.result.now < length c.args.self.now.uses + 1
fits c =
    omega (
      arith,
      ap length c.args-args.ensures,
      uses_fit c.args.self.now.nodes c.args.self.now.uses
          c.new-last.result c.requires.sound.used (last c),
    )

pub overflow_sub-len : goal.overflow_sub-len
overflow_sub-len c = omega (arith, c.len.ensures, fits (goal.at.overflow_sub-len c).After-args-args)

pub take_back-self-requires : goal.take_back-self-requires
take_back-self-requires c = within_table c.args.self.now.nodes c.args.self.now.classes.merges
    c.args.self.now.table c.args.self.now.steps.items c.requires.sound.stepped

pub returns-clause-sound : goal.returns-clause-sound
returns-clause-sound c =
    let d = (goal.at.returns-clause-sound c).After-args-args in
    let fewer : c.count-nodes.result + 1 ≡ length c.args.self.now.nodes =
    omega (
      arith,
      c.count-nodes.ensures.count,
      ap length c.pop.ensures.rest,
      length-take
          (length c.args.self.now.nodes - 1) c.args.self.now.nodes,
      c.requires.can.0,
    ) in
    let same : c.new-last.result ≡ c.count-nodes.result = omega (arith, last d, fewer) in
    let nodes : c.pop.new.self ≡ take c.count-nodes.result c.args.self.now.nodes =
    c.pop.ensures.rest ∙ ap (λ k. take k c.args.self.now.nodes)
    (let e : length c.args.self.now.nodes - 1 ≡ c.count-nodes.result = omega (arith, fewer)
    in e) in
    sound_back_made c.args.self.now _ c.count-nodes.result (length c.merges.result.now)
    c.requires.sound c.requires.can fewer
    (ap length c.merges.ensures ∙ ap (λ (h : Merged). length h.merges) c.pop-2.ensures)
    c.pop.ensures.terms nodes c.pop-2.ensures refl refl
    (c.pop-3.ensures.rest ∙ ap (λ k. take k c.args.self.now.numerals.items)
    (let e : vec_len c.args.self.now.numerals - 1 ≡ c.count-nodes.result = omega
    (arith, fewer, c.requires.sound.numbered.as_many, c.args.self.now.numerals.ok.0) in e))
    (c.truncate.ensures ∙ (uses_back c.args.self.now.nodes c.args.self.now.uses c.count-nodes.result
    c.requires.sound.used fewer (c.len.result - length c.args-args.result.now)
    (let e : c.len.result - length c.args-args.result.now
    ≡ length c.args.self.now.uses - length (shape_at c.args.self.now.nodes
    c.count-nodes.result).args =
    omega (
      arith,
      c.len.ensures,
      ap length c.args-args.ensures,
      ap
          (λ k. length (shape_at c.args.self.now.nodes k).args) same,
    ) in e)
    ∙ ap uses_of (sym nodes)))
    c.take_back-self.ensures
