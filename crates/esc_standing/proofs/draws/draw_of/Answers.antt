use Rattle.std.proofs.Common.{Some, subst, sym, ◌∙◌}
use Rattle.std.specs.List.{All}
use Rattle.esc_fact.specs.Fact.{IsFact}
use Rattle.esc_maps.specs.declared.map_match.MapMatch.TheVariants as map_match
use Rattle.esc_rounds.specs.declared.draw.Draw.TheVariants.{Witness, Map, Instance}
use Rattle.esc_standing.specs.DrawsInside.{HasNode, HasNodes, IsDrawOf}
use Rattle.esc_standing.proofs.DrawsOf.{instance_there, is_write, skolem_there}
use Rattle.esc_standing.proofs.draws.draw_of.Goals as goal

pub nodes_of-requires : goal.nodes_of-requires
nodes_of-requires c =
    subst (All (HasNode c.args.graph.now)) (sym c.as_slice.ensures)
    (subst (HasNodes c.args.graph.now) c.in-Inst.is c.requires.nodes)

pub returns-in_ok-nodes-in-Inst : goal.returns-in_ok-nodes-in-Inst
returns-in_ok-nodes-in-Inst c =
    let place = c.in_ok-place-in-Inst.place in
    let nodes = c.in_ok-nodes-in-Inst.nodes in
    let kept = c.args.formulas.now.kept in
    subst (λ x. IsDrawOf c.args.base.now c.args.graph.now kept x (Some (Instance place nodes)))
    (sym c.in-Inst.is) (
      (
        sym c.in_ok-place-in-Inst.ensures,
        c.in_ok-nodes-in-Inst.ensures.there,
        c.in_ok-nodes-in-Inst.ensures.are ∙ c.as_slice.ensures,
      ),
      (
        instance_there c.args.base.now kept c.in-Inst.number place c.in-Inst.outer c.in-Inst.terms
            (subst (IsFact c.args.base.now) c.in-Inst.is c.requires.fact)
            c.in_ok-place-in-Inst.ensures,
        c.in_ok-nodes-in-Inst.ensures.there,
      ),
    )

pub returns-in_ok-place-in-Skolem : goal.returns-in_ok-place-in-Skolem
returns-in_ok-place-in-Skolem c =
    let place = c.in_ok-place-in-Skolem.place in
    let kept = c.args.formulas.now.kept in
    subst (λ x. IsDrawOf c.args.base.now c.args.graph.now kept x (Some (Witness place)))
    (sym c.in-Skolem.is) (
      sym c.in_ok-place-in-Skolem.ensures,
      skolem_there c.args.base.now kept c.in-Skolem.number place c.in-Skolem.outer
          (subst (IsFact c.args.base.now) c.in-Skolem.is c.requires.fact)
          c.in_ok-place-in-Skolem.ensures,
    )

pub returns-in_ok-write-in-Map1 : goal.returns-in_ok-write-in-Map1
returns-in_ok-write-in-Map1 c =
    let w = c.in_ok-write-in-Map1.write in
    let there = c.in_ok-write-in-Map1.ensures.there in
    let is = c.in_ok-write-in-Map1.ensures.is in
    subst (λ x. IsDrawOf c.args.base.now c.args.graph.now c.args.formulas.now.kept x
    (Some (Map (map_match.Write w))))
    (sym c.in-Map1.is) (
      (there, is),
      (
        there,
        is_write c.args.graph.now w c.in-Map1.map c.in-Map1.place c.in-Map1.value
            c.requires.graph there is,
      ),
    )

pub returns-in_ok-write-in-Map2 : goal.returns-in_ok-write-in-Map2
returns-in_ok-write-in-Map2 c =
    let w = c.in_ok-write-in-Map2.write in
    let there = c.in_ok-write-in-Map2.ensures.there in
    let is = c.in_ok-write-in-Map2.ensures.is in
    subst (λ x. IsDrawOf c.args.base.now c.args.graph.now c.args.formulas.now.kept x
    (Some (Map (map_match.Read w c.node_of.result))))
    (sym c.in-Map2.is) (
      (there, c.node_of.ensures.there, is, c.node_of.ensures.is),
      (
        there,
        is_write c.args.graph.now w c.in-Map2.map c.in-Map2.place c.in-Map2.value
            c.requires.graph there is,
        c.node_of.ensures.there,
      ),
    )
