use Rattle.std.proofs.Common.{ap, ◌∙◌}
use Rattle.esc_term.specs.declared.term.Head.TheVariants.{Skolem}
use Rattle.esc_term.specs.declared.term.Term.TheVariants.{App}
use Rattle.esc_standing.proofs.KeepingCalls.{own_more}
use Rattle.esc_standing.proofs.origins.with_own_terms.Goals as goal

pub places-preserved : goal.places-preserved
places-preserved c =
    c.in_ok-push.ensures.ok
    ∙ own_more (λ i. App (Skolem c.args.number i) c.args.outer.now) c.args.outer.now c.places.i
    c.places.terms (App (Skolem c.args.number c.places.i) c.in_ok-copied.field-0)
    c.places.invariant (ap (App (Skolem c.args.number c.places.i)) c.in_ok-copied.ensures)
