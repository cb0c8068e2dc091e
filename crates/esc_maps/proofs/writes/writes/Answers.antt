use Rattle.std.proofs.Common.{◌≡◌, ℕ, ◌+◌, ◌<◌, ◌++◌, ◌∷◌, [], length, subst, sym, ap, ◌∙◌, arith}
use Rattle.std.proofs.Common.{true≢false}
use Rattle.esc_maps.specs.Maps.{StandsForWrites}
use Rattle.esc_maps.specs.ReadsInside.{AreThose}
use Rattle.esc_maps.proofs.Writing.{those_all, those_less, those_more}
use Rattle.esc_maps.proofs.writes.writes.Goals as goal
use Rattle.esc_maps.proofs.writes.writes.Goals.{then-stands_for_writes+in_ok-push}
use Rattle.esc_maps.proofs.writes.writes.Goals.{else-stands_for_writes}

pub nodes-preserved : goal.nodes-preserved
nodes-preserved c =
    let Is : ℕ → Type 0 = StandsForWrites c.args.graph.now c.args.depths.now in
    elim c.if-stands_for_writes.branch [
      | then-stands_for_writes+in_ok-push w ↦
          let items : c.if-stands_for_writes.nodes.items
          ≡ c.nodes.nodes.items ++ (c.nodes.index ∷ []) =
          ap (λ v. v.items) w.nodes-is
          ∙ (w.in_ok-push.ensures.items
          ∙ ap (λ n. c.nodes.nodes.items ++ (n ∷ [])) c.new-node.ensures) in
          subst (AreThose (λ n. (n < c.nodes.index + 1) × Is n)) (sym items)
          (those_more Is c.nodes.nodes.items c.nodes.index c.nodes.invariant
          (subst Is c.new-node.ensures
          (c.stands_for_writes.ensures.0 w.if-stands_for_writes.true)))
      | else-stands_for_writes w ↦
          subst (AreThose (λ n. (n < c.nodes.index + 1) × Is n))
          (sym (ap (λ v. v.items) w.nodes-is))
          (those_less Is c.nodes.nodes.items c.nodes.index c.nodes.invariant
          (λ is. true≢false
          (sym (c.stands_for_writes.ensures.1 (subst Is (sym c.new-node.ensures) is))
          ∙ w.if-stands_for_writes.false)))
    ]

pub returns-clause-those : goal.returns-clause-those
returns-clause-those c =
    those_all (StandsForWrites c.args.graph.now c.args.depths.now) c.nodes.nodes.items
    (length c.args.graph.now.nodes) c.nodes.index (omega arith) (λ n is. is.1.there)
    c.nodes.invariant
