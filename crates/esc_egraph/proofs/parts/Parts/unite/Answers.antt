use Rattle.std.proofs.Common.{inl, inr, sym, ◌⊎◌, ◌↔◌, ◌∙◌}
use Rattle.esc_egraph.specs.Congruence.{ForcedApart, IsBroken}
use Rattle.esc_egraph.specs.PartsInside.{graph_in}
use Rattle.esc_egraph.proofs.Broken.{IsBroken-united}
use Rattle.esc_egraph.proofs.parts.Parts.unite.Goals as goal
use Rattle.esc_egraph.proofs.parts.Parts.unite.Goals.{then-broken, else-broken}

pub returns-clause-broken : goal.returns-clause-broken
returns-clause-broken g c =
    let either : IsBroken (graph_in c.merge_smaller.new.self)
    ↔ (IsBroken (graph_in c.args.self.now) ⊎ ForcedApart (graph_in c.args.self.now) c.args.a
    c.args.b) =
    IsBroken-united (graph_in c.args.self.now) (graph_in c.merge_smaller.new.self) c.args.a c.args.b
    c.in_ok-merge_smaller.ensures.ok in (
      λ yes. either.1 (elim c.if-broken.branch [
        | then-broken w ↦ inl (c.requires.broken.0 w.if-broken.true)
        | else-broken w ↦ inr (w.forced_apart-forced.ensures.0 (sym w.forced-is ∙ yes))
      ]),
      λ broken. elim c.if-broken.branch [
        | then-broken w ↦ w.forced-is ∙ w.if-broken.true
        | else-broken w ↦ elim (either.0 broken) [
          | inl old ↦ cc (c.requires.broken.1 old, w.if-broken.false)
          | inr forced ↦ w.forced-is ∙ w.forced_apart-forced.ensures.1 forced
        ]
      ],
    )
