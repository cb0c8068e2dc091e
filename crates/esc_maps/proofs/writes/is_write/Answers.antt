use Rattle.std.proofs.Common.{ap, length, sym, ◌∙◌}
use Rattle.std.proofs.lemmas.Bool.{eq-eqb, eqb-true}
use Rattle.esc_nodes.specs.Nodes.{Shape, shape_at}
use Rattle.esc_maps.proofs.Writing.{shape_with, three_args}
use Rattle.esc_maps.proofs.writes.is_write.Goals as goal

pub returns : goal.returns
returns c = (
  λ t.
      let args = three_args c.args-2.result.now (eqb-true (length c.args-2.result.now) 3 t) in (
        args.0,
        args.1,
        args.2,
        shape_with (shape_at c.args.graph.now.nodes c.args.node) _ _
            (sym c.top.ensures ∙ c.is_top.ensures.0 c.if-not-is_top.false)
            (sym c.args-2.ensures ∙ args.3),
      ),
  λ is. eq-eqb (length c.args-2.result.now) 3
      (ap length (c.args-2.ensures ∙ ap (λ (s : Shape). s.args) is.3)),
)
